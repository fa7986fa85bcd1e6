pub mod Vocabularies
pub mod Contents
pub mod Rule
pub mod Entries
pub mod Counting
pub mod Statements
pub mod Views
pub mod Lent
