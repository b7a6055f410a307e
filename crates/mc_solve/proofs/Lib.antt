mod SameNets
mod Solving
mod Amounts
mod OneReach
mod Certified
