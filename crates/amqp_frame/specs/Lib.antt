pub mod Units
pub mod Splits
pub mod Devices
pub mod Rooms
pub mod RoomLends
pub mod SplitLends
