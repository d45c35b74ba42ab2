pub mod Downsets
pub mod Ranges
pub mod Cases
pub mod Entries
pub mod Stays
pub mod FirstNumbers
