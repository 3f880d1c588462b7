pub mod Entries
pub mod Pages
pub mod Steps
pub mod Printing
