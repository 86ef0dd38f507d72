pub mod Bounds
pub mod Words
pub mod Serving
