pub mod Reports
pub mod Runs
pub mod ThreadRuns
pub mod Saves
pub mod Failures
pub mod Targets
pub mod Asks
pub mod Roads
