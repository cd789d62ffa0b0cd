pub mod Blocks
pub mod Doing
pub mod Drawing
pub mod Lines
pub mod Cuts
