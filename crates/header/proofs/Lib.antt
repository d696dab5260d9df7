pub mod Cases
pub mod CountLoop
pub mod Alike
