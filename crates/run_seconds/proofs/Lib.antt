mod Ends
mod Underway
