mod Moves
mod Told
