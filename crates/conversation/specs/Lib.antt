pub mod Conversation
pub mod Stream
pub mod Turn
