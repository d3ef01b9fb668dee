mod Found
mod Listing
mod Named
