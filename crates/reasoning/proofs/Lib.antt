pub mod Jobs
pub mod Rules
pub mod Sound
pub mod Complete
