mod Layouts
mod ByPlans
mod Rules
mod Homes
mod Terms
mod SplitBlocks
mod NewBlocks
mod Temporaries
