pub mod DocumentText
