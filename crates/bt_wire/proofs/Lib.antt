pub mod Blocks
pub mod Bodies
pub mod Frames
pub mod Front
pub mod Fronts
pub mod Parts
pub mod Readings
