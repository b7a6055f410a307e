mod Adding
mod Falling
