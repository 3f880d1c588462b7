mod Names
mod Pieces
mod Steps
mod Values
mod Whole
mod Writing
