pub mod Kinds
pub mod Columns
pub mod Lists
pub mod Facts
pub mod Read
