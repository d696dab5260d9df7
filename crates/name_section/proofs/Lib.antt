pub mod Slots
pub mod Zeroless
pub mod Reading
pub mod Same
pub mod Filling
