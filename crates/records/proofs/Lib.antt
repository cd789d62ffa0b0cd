pub mod Verdicts
pub mod Indexes
pub mod Spreads
pub mod Trips
pub mod Writes
pub mod CrewLaws
pub mod TargetOrder
