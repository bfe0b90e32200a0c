mod Faults
mod Wanting
