pub mod Words
pub mod Fields
pub mod Scan
pub mod Amended
pub mod Serving
