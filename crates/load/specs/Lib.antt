pub mod Sources
pub mod Columns
pub mod Lent
pub mod Cells
pub mod Load
pub mod Words
pub mod Serving
