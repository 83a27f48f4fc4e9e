-- Laws that belong to no one function, for this crate and those above it.
pub mod RowLaws
pub mod PartLaws
pub mod FaultLaws
pub mod TallyLaws
pub mod BlockLaws
pub mod MatrixLaws
pub mod WideLaws
