mod Passing
mod Places
mod Along
