pub mod Files
pub mod Concerned
pub mod Columns
pub mod Outcome
pub mod Words
