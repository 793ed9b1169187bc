pub mod Connected
pub mod FreeRuns
