mod Ordered
mod Finding
mod Telling
mod Acting
mod Whole
