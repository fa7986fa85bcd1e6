pub mod Putting
pub mod Rowing
pub mod Ordering
pub mod Asking
pub mod Ending
