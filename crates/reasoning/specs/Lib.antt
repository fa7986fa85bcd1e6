pub mod Models
pub mod Derivations
pub mod Truth
pub mod Parts
