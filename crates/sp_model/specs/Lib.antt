pub mod Graph
pub mod Votes
pub mod Agreement
pub mod Examples
pub mod Renaming
pub mod Loose
pub mod Joining
pub mod Profiles
