mod Lines
mod Parts
mod Gaps
