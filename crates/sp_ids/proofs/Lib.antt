pub mod Digests
pub mod Numbers
pub mod Spelling
