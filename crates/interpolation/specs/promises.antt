-- What is promised of the interpolation: nothing else meets its contract. That it ends on its first coefficient stands
-- in proofs/promises/.
pub mod Unique
