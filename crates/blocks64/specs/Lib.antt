pub mod Exchange
pub mod Transpose
pub mod Block
