-- The definitions of the desk, which the contracts of crates desk and exports cite: Desks, of requests 2.1 and 2.5, and
-- SmallDesks with its examples.
pub mod Desks
pub mod SmallDesks
