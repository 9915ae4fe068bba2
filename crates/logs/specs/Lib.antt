pub mod RoundLogs
