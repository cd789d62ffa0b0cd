pub mod SwapLines
pub mod Fits
pub mod Filling
pub mod Judging
pub mod OneText
