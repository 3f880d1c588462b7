pub mod Fronts
pub mod Histories
pub mod Readings
pub mod Results
pub mod Overs
pub mod Lents
