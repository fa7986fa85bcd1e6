pub mod Pages
pub mod Rows
pub mod Listings
pub mod Troubles
pub mod Stories
