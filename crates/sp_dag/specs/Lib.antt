pub mod Numbered
pub mod Shapes
pub mod Rows
pub mod Closed
pub mod Indexed
pub mod Right
