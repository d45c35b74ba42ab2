pub mod Virts
pub mod Plain
