pub mod Edges
pub mod Successor
