pub mod TestsInWords
pub mod InOrder
pub mod AcceptedExactly
pub mod RefusedExactly
pub mod StartExactly
pub mod WalkExactly
pub mod DemandThree
