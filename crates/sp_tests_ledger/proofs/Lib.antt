pub mod Prepared
pub mod Decided
pub mod Differing
