pub mod Opening
pub mod Words
