pub mod Bounds
pub mod Counts
pub mod Gateways
pub mod HubCalls
pub mod Outlets
pub mod OutletLaws
