mod Reading
mod Leading
mod Placing
mod Entering
mod Beginning
mod Opening
mod Looping
