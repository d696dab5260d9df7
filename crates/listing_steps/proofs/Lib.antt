mod Beginning
pub mod Filling
pub mod Over
