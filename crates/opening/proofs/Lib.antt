pub mod Laws
pub mod Starts
pub mod Filling
pub mod Laying
pub mod Calls
