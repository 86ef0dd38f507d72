-- Definitions that only serve proofs and the contracts of private functions: nothing that is promised is stated over them.
pub mod Stages
pub mod Rows
