mod Counted
mod Formed
mod Slots
mod Shown
