mod Ending
mod Fixed
mod Runs
mod Seen
