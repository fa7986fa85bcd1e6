pub mod Lists
pub mod Rounds
pub mod Tests
pub mod Formed
pub mod Answers
pub mod Steps
pub mod Boards
pub mod Passing
