pub mod Markings
pub mod Refusals
pub mod Spreads
