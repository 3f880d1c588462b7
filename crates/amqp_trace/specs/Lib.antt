pub mod Lines
pub mod Wires
