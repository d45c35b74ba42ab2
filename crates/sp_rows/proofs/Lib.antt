pub mod Frees
pub mod Keeps
pub mod LiveRows
pub mod Lives
pub mod Memory
pub mod Runs
pub mod Sharing
pub mod Stores
