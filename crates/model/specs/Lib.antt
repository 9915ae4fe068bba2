-- The definitions that the contracts cite: what a reader has to believe. The paper: Groups, Words, Automata, Systems,
-- Saturation, Copies. Document 01: Tables, Log, Unfolding, Records, Calls, and SmallTables with its examples. The
-- claim: Demands. Who took part, of request 2.5: Participation.
pub mod Lists
pub mod Groups
pub mod Words
pub mod Automata
pub mod Systems
pub mod Saturation
pub mod Copies
pub mod Tables
pub mod Log
pub mod Unfolding
pub mod Choices
pub mod Records
pub mod Participation
pub mod Calls
pub mod Demands
pub mod SmallTables
