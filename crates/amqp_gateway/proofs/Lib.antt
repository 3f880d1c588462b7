pub mod HubRuns
pub mod HubTurns
pub mod Mosts
pub mod Outs
