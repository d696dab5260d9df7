pub mod Lines
pub mod Ceiling
pub mod Listing
pub mod Cursors
pub mod Reasons
pub mod Breaks
