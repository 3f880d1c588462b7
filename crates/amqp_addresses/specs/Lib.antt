pub mod Reads
pub mod Spelling
pub mod Lines
pub mod Files
pub mod Lookups
pub mod Takings
