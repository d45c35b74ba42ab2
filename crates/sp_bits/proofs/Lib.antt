pub mod Sets
pub mod Counts
pub mod Bits
pub mod RowSets
pub mod Fronts
