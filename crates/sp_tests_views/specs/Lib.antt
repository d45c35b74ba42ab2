pub mod Voting
pub mod Summing
pub mod Keeping
