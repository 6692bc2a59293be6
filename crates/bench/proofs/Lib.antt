mod Barring
mod Successors
mod Steps
mod Turns
mod Explaining
mod Finding
