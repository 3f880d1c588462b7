pub mod Senders
pub mod Keeping
pub mod Laws
pub mod Sizing
