pub mod OpeningLaws
pub mod RowWidth
pub mod OpeningInOrder
pub mod OpenedExactly
