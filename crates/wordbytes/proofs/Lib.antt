pub mod ByteLaws
pub mod ShowsBytesLaws
