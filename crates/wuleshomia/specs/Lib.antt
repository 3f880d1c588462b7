pub mod Handles
pub mod Waiting
pub mod Codes
pub mod Exports
pub mod Serving
pub mod Programs
pub mod Spools
