-- What the proofs of several functions cite; and what holds of reading and writing a job, with the promise that each is the other's way back
-- (`RoundTrip`): theorems that an edit of a definition is to break stand here and not in specs/.
mod Loading
pub mod Serving
pub mod PackedLaws
pub mod RoundTrip
