pub mod Limits
pub mod Buffers
