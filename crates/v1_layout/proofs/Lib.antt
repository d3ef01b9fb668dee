mod Steps
mod Counting
mod Actions
mod Told
