mod Examples
mod Further
mod Conditional
mod Routes
mod Again
mod Passing
mod Entries
mod Parsers
