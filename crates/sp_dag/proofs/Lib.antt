pub mod Bools
pub mod Pushes
pub mod Keys
pub mod Reach
pub mod NewPairs
pub mod Grown
pub mod Indexing
pub mod Adds
pub mod SoFar
pub mod Whole
pub mod Lookup
pub mod Ids
pub mod Fronts
pub mod Starts
pub mod ClosedRows
pub mod Ranked
mod Cuts
