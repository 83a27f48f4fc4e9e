pub mod Header
pub mod RowLine
