pub mod Spellings
pub mod Parts
pub mod Credits
pub mod Nearest
pub mod Once
pub mod Reading
