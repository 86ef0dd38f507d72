pub mod Triplet
pub mod Written
pub mod Words
