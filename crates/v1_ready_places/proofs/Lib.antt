mod Chained
mod Telling
