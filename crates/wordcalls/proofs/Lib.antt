pub mod TurnsLaws
pub mod DoneLaws
