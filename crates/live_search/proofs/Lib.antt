mod Keys
mod Steps
