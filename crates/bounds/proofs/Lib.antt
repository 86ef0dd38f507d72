pub mod FloatOrder
pub mod FiniteLaws
pub mod ReadLaws
pub mod BoundsExactly
pub mod OneAnswer
pub mod Examples
