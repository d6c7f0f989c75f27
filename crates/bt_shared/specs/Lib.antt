pub mod Seen
pub mod Guard
pub mod Passes
pub mod Closing
pub mod Gathering
pub mod SharedJobs
