pub mod Counting
pub mod DeskLaws
pub mod Sending
pub mod Steps
