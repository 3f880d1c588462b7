pub mod Frames
pub mod Composites
pub mod Inits
pub mod Claims
pub mod Verdicts
pub mod Answers
pub mod Exchanges
