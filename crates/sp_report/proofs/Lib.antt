pub mod Arrived
pub mod Decimals
pub mod LinesLeft
pub mod PairTexts
pub mod SortedIds
pub mod NamedIds
pub mod SameTexts
