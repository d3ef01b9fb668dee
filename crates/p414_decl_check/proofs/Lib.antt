mod Headers
mod Judging
