pub mod Keyed
pub mod Named
pub mod Searched
pub mod Orders
