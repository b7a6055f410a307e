mod BlockStarts
mod Numbered
mod Ranges
