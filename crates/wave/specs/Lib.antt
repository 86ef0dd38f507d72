pub mod Words
pub mod Height
pub mod Judgement
