mod Occurrences
mod Listing
mod Raising
mod Joining
