mod Buffers
mod Frames
mod Passing
mod Peeking
mod Pieces
mod Steps
