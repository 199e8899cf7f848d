mod TakenPosts
mod MovedBodies
mod Pieces
mod Present
mod Rounds
mod Stepping
