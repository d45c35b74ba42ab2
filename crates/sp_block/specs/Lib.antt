pub mod Format
pub mod Spelling
pub mod Block
pub mod Ascending
pub mod Draft
pub mod Seen
pub mod Reading
pub mod Judged
