pub mod GreedyPath
pub mod Grounds
pub mod Leading
pub mod RestRight
pub mod Sets
