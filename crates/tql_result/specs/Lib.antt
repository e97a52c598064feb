pub mod Devices
pub mod Replies
