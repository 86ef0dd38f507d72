pub mod Facts
pub mod WalkWords
pub mod Demand
