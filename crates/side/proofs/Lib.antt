pub mod SuccessorExactly
pub mod SideLaws
pub mod KindLaws
