pub mod Plain
pub mod PlainTables
pub mod PlainColumns
pub mod PlainLoads
