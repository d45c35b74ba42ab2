pub mod Naming
pub mod Reasons
pub mod Lines
pub mod Asks
pub mod Texts
pub mod KeptIds
