-- Laws that belong to no one function, for this crate and those above it.
pub mod HexLaws
pub mod DigitLaws
pub mod LineLaws
