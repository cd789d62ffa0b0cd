pub mod Targets
pub mod Draws
pub mod Made
