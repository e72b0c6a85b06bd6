mod WrappedLines
mod CallCases
mod EditCases
mod MoveCases
