pub mod Fronts
pub mod BlockFronts
pub mod Printings
pub mod Printables
pub mod Objects
pub mod BlockTexts
pub mod BlockTellings
