pub mod QueueRuns
pub mod OwnJobs
pub mod SameRuns
pub mod Tracing
pub mod Joining
mod Serving
