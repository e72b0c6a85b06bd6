mod Edits
mod Logs
