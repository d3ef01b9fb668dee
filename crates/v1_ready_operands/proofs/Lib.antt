mod KeepingSources
mod Joining
mod Seeking
mod Turning
pub mod KeepingStatements
mod Lasting
pub mod CallingFunctions
pub mod Chaining
pub mod Naming
