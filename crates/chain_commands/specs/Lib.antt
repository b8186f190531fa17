pub mod Responses
pub mod Commands
pub mod Progress
pub mod Transcripts
pub mod Words
