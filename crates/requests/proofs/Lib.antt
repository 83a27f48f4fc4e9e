-- Laws that belong to no one function, for this crate and those above it.
pub mod SizeLaws
pub mod AnswerLaws
pub mod WordLaws
pub mod NumberLaws
pub mod ShownOut
pub mod FaultLaws
pub mod SingleLaws
pub mod PairLaws
