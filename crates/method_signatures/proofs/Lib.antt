pub mod Laws
pub mod Values
pub mod Known
pub mod Steps
pub mod Within
