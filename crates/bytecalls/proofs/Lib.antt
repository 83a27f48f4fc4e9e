pub mod RunLaws
pub mod LinesSeen
pub mod TextSeen
