pub mod Checked
pub mod Balance
pub mod Queues
pub mod Holding
pub mod Lanes
pub mod Rounds
