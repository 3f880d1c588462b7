pub mod Members
pub mod Keepers
pub mod Ledgers
pub mod Turns
pub mod Links
pub mod Kept
pub mod LedgerLaws
