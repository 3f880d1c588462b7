pub mod Records
pub mod Blocks
pub mod BlockPrinting
pub mod Lines
pub mod Printing
