-- Laws that belong to no one function, for this crate and those above it.
pub mod LaidLaws
pub mod TextLaws
pub mod FoundLaws
pub mod FramesLaws
pub mod ProductLaws
pub mod FormLaws
pub mod MultiplyLaws
pub mod Outcomes
pub mod Printed
pub mod Limits
pub mod Sample
pub mod Impostors
pub mod StopsLaws
pub mod FirstFault
