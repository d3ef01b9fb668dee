mod Accepted
mod Exactly
mod Orders
mod StateRules
mod Telling
