pub mod Boards
pub mod Effects
pub mod Histories
pub mod Runs
pub mod AnyOrder
pub mod Answers
pub mod Deciding
