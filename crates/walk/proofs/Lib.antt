-- Laws that belong to no one function, for this crate and those above it.
pub mod DueLaws
pub mod PutLaws
pub mod RanLaws
pub mod CountLaws
pub mod PieceLaws
pub mod LaneLaws
pub mod FactorLaws
