pub mod Parents
pub mod Growth
mod Tables
pub mod KeptBlocks
mod Marking
mod Looks
mod Turns
pub mod Standings
mod Adding
pub mod Runs
pub mod Ranks
mod Graphs
pub mod Profiles
mod Answered
mod Orders
mod Firsts
mod Waiting
mod Popped
mod Withdrawn
