-- Laws that belong to no one function, for this crate and those above it.
pub mod ExchangeLaws
pub mod TransposeLaws
pub mod BlockLaws
