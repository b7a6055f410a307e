mod Extending
mod Marks
mod Texts
