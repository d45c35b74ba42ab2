pub mod Terms
pub mod Answers
pub mod Journalled
pub mod Messages
pub mod Node
pub mod Stored
