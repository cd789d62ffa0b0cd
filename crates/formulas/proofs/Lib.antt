pub mod Lawful
pub mod Doing
pub mod Rows
pub mod Respects
pub mod Agrees
