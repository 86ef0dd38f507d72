pub mod Rectangles
pub mod Words
