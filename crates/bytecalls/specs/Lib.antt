pub mod Run
pub mod Lines
pub mod Text
