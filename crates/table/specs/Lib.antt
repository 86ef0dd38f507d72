pub mod Rows
pub mod Plans
pub mod Values
pub mod Words
pub mod Serving
