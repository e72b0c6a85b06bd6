pub mod WrappedLines
