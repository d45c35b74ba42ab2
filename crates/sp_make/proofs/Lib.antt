pub mod Digits
pub mod Steps
pub mod Lengths
