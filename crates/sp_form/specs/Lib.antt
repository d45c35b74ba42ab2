pub mod Bytes
pub mod Form
pub mod Values
pub mod Reading
pub mod Turns
pub mod Places
