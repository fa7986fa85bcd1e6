-- What users read: views of a board, what its calls answer and do, when they are rejected, and what questions answer.
pub mod Layout
pub mod Words
pub mod Views
pub mod Rejections
pub mod Calls
pub mod Questions
-- The steps inside the calls.
pub mod Moves
pub mod Raises
pub mod OwnDraws
pub mod JoinDraws
pub mod Searches
pub mod Sessions
pub mod Making
pub mod Running
pub mod Asking
