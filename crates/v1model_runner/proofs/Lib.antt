mod Preparing
mod Running
