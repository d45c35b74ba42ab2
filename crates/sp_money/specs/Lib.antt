pub mod Accepted
pub mod Locks
pub mod Held
pub mod Totals
pub mod Places
pub mod Kept
pub mod Growth
pub mod Names
