pub mod Asking
pub mod Reporting
