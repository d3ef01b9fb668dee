mod Ordered
mod Places
mod Counting
mod TableNames
mod Gathering
