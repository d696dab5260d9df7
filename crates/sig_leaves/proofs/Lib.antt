pub mod Simple
pub mod Numbers
pub mod Generics
pub mod Specs
