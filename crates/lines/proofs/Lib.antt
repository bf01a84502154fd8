-- What the proofs of several functions cite.
mod Pieces
mod Rooms
