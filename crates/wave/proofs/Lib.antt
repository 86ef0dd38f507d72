pub mod Bytes
pub mod RoomLaws
pub mod Reading
pub mod Exact
pub mod Verdict
