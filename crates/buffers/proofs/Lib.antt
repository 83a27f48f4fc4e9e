-- Laws that belong to no one function, for this crate and those above it.
pub mod SizeLaws
pub mod BufferLaws
pub mod PlaceLaws
