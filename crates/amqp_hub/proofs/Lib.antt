mod Asked
mod LinkCalls
mod Livings
mod Numbers
mod Putting
mod Settling
mod Turning
