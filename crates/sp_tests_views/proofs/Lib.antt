pub mod Sharing
pub mod Pasts
pub mod Keeping
