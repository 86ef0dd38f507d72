pub mod TheDemands
pub mod NumberLists
pub mod NumbersNamed
pub mod BuffersKept
pub mod StructsTell
