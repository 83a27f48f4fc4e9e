-- Laws that belong to no one function, for this crate and those above it.
pub mod BitLaws
pub mod WordLaws
pub mod MaskLaws
pub mod PairLaws
pub mod FormLaws
pub mod ArticleLaws
pub mod EncodeLaws
pub mod ScalingLaws
pub mod AnyLaws
pub mod LeastLaws
pub mod FaultLaws
pub mod SumLaws
pub mod LanesLaws
pub mod CountLaws
pub mod LowestLaws
