pub mod Checking
pub mod Beginnings
pub mod Swarms
pub mod Passes
pub mod PieceChecks
pub mod Runs
pub mod Workers
