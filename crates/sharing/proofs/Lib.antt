pub mod Turning
pub mod Ending
pub mod Asking
pub mod Ordering
pub mod Noting
