mod Counting
mod MoreListed
