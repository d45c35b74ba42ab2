pub mod ChunkLends
pub mod ChunksLends
pub mod Kept
pub mod Ownership
pub mod Pool
pub mod PoolLends
pub mod RawLends
pub mod Rows
