pub mod Spelled
pub mod Judged
pub mod Whole
pub mod Sorts
pub mod Lengths
