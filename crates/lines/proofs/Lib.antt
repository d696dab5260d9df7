pub mod Laws
pub mod Stepping
pub mod Ending
pub mod Reasons
pub mod Breaks
pub mod Ceiling
