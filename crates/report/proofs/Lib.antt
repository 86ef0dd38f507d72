pub mod DecimalLaws
pub mod NumberWritten
pub mod LineFits
pub mod DecimalSays
pub mod Examples
