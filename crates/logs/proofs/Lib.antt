pub mod Rules
pub mod Logs
pub mod RoundLogs
