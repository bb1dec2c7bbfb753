mod Writes
mod Exact
