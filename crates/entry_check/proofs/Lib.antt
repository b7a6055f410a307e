mod Networks
mod Refuting
mod Showing
mod Listing
