pub mod Tellings
pub mod Printings
