pub mod Signatures
pub mod Known
