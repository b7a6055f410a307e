mod EventSteps
mod FirstSeen
mod Operands
mod Same
mod Sound
mod Tracks
mod WalkSteps
