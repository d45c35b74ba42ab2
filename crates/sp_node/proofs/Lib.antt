pub mod AnswerLengths
pub mod AnswerLists
pub mod Changes
pub mod Opened
pub mod Questions
pub mod Restarted
pub mod SameReplies
pub mod Started
