pub mod Exits
pub mod FieldsRead
pub mod LinesRead
pub mod Replacing
pub mod SheetsRead
pub mod Spaced
pub mod Taking
