pub mod Letters
pub mod Fields
pub mod Nulls
pub mod Table
