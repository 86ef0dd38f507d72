pub mod Columns
pub mod Check
pub mod Walk
pub mod Serving
