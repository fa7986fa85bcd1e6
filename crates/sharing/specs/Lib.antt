pub mod Sharing
pub mod Asking
pub mod Noting
