pub mod Notes
pub mod Kept
pub mod Digits
pub mod Told
pub mod LinesLeft
