-- Laws of this program.
pub mod ReadLaws
