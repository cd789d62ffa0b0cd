pub mod Targets
pub mod Snapshots
pub mod Starts
pub mod Shown
pub mod Profiles
pub mod Staying
pub mod Answers
