pub mod TableRule
pub mod NullRule
