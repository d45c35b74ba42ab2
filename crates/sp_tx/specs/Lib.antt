pub mod Format
pub mod Parts
pub mod Reading
pub mod Spelling
pub mod Spending
pub mod Judging
pub mod Sorting
