-- Laws that belong to no one function, for this crate and those above it.
pub mod HeaderLaws
pub mod RowLineLaws
pub mod RoundTrips
pub mod Outcomes
pub mod Examples
pub mod Impostors
