pub mod MatrixText
pub mod Multiply
pub mod Found
pub mod Stops
