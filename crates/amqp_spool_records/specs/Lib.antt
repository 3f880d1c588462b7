pub mod Numbers
pub mod Extents
pub mod Damages
pub mod Stops
pub mod Listings
pub mod Tellings
