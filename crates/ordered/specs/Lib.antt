pub mod Members
pub mod Orders
pub mod Lookups
pub mod Rooms
pub mod Items
