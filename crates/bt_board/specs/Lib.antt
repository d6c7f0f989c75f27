pub mod Story
pub mod Seats
pub mod Steps
pub mod Knowing
