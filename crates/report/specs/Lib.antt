pub mod Text
pub mod Pages
pub mod Reports
pub mod Reporting
