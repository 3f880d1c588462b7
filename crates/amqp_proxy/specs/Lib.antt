pub mod Tlvs
pub mod Headers
pub mod Streams
pub mod Replays
pub mod Writers
