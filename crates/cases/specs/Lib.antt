pub mod Rounds
pub mod Sheets
pub mod Expectations
pub mod Cases
