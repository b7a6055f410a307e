mod Adding
mod Fits
mod Growing
mod Members
mod Occurring
mod One
mod OwnCounts
mod Parts
