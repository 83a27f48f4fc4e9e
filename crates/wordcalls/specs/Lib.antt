pub mod Opening
pub mod Turn
pub mod Turns
