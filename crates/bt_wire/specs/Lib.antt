pub mod Blocks
pub mod Laws
pub mod Limit
pub mod Messages
pub mod Stream
