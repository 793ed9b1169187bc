pub mod Answers
pub mod Off
pub mod Putting
pub mod Reading
pub mod ScriptExample
pub mod ScriptFile
pub mod Watching
