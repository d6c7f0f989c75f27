pub mod Numbered
pub mod Runs
pub mod Ends
