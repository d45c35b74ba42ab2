pub mod Certificate
pub mod Entries
pub mod Refusals
pub mod Made
pub mod Format
pub mod Reading
pub mod Texts
pub mod Examples
