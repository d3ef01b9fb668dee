mod Placing
mod Loops
mod Rows
mod Asking
mod Once
mod Turning
mod Ending
