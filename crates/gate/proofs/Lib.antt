mod Checking
mod Stepping
mod Passing
mod Motion
mod Colliding
mod Runs
mod WorkedTicks
