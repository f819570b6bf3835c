pub mod Files
pub mod Paper
pub mod Sheets
pub mod Starts
pub mod Tables
