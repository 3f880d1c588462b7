pub mod HandleSteps
pub mod Keeping
pub mod Losses
pub mod Programs
pub mod ReadLemmas
pub mod UnboxedRows
pub mod SpoolPlaces
