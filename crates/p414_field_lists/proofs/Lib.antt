mod Accepted
mod Expanding
mod Meaning
mod Numbers
