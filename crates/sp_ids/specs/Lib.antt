pub mod Key
pub mod Digits
pub mod Digest
pub mod Bits
pub mod Hex
pub mod Outpoints
