pub mod Kinds
pub mod Plain
pub mod Releases
pub mod Views
pub mod Bits
pub mod Laws
