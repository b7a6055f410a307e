mod Places
mod Probes
mod Stopped
mod Taken
mod Behind
mod Phrases
mod Whole
