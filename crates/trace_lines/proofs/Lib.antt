mod Blocks
mod Fronts
mod Within
mod Texts
mod Tallies
