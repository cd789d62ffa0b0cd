pub mod Kind
pub mod Lines
pub mod Truths
pub mod Theorems
