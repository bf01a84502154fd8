-- Fronts: how long the part of a slice is that begins where it begins, and how far a square reaches. For the programs, which lend
-- the fronts of arrays that are as long as they can ever need.
use Rattle.std.specs.Prelude.{◌≡◌, List, ℕ, ◌*◌, ◌≤◌, length, take, replicate}
use Rattle.std.proofs.Common.{sym, mul-le-mul, arith, length-take-le}
use Rattle.std.proofs.lemmas.List.{length-replicate}

-- the front is as long as it is asked to be, up to the whole
pub front : {A : Type 0} (n : ℕ) (l : List A) → n ≤ length l → n ≡ length (take n l)
front n l h = sym (length-take-le n l h)

-- the same of an array that was made of one value repeated
pub front_of_repeat : {A : Type 0} (n m : ℕ) (v : A) → n ≤ m → n ≡ length (take n (replicate m v))
front_of_repeat n m v h = front n (replicate m v) (omega (arith, length-replicate m v))

-- and so no shorter
pub front_reaches : {A : Type 0} (n m : ℕ) (v : A) → n ≤ m → n ≤ length (take n (replicate m v))
front_reaches n m v h = omega (arith, front_of_repeat n m v h)

-- a square grows with its side
pub squared : (n m : ℕ) → n ≤ m → n * n ≤ m * m
squared n m h = mul-le-mul h h
