-- What the test of a matrix's size says.
use mathlib.Core.Path.{◌≡◌}
use mathlib.Core.Bool.{true}
use Prim.Native.Nat.{ℕ, ◌*◌, ◌≤◌, ◌<◌}
use lib.Dec.{leb, ltb}
use borrow.Author.Tests.{ltb-true, leb-true, eqb-true, lt-ltb, le-leb, eq-eqb}
use Rattle.loops.specs.laws.ChoiceLaws.{and_first, and_second}
use Rattle.matrix.specs.Size.{max_n, sized_of}

pub record Sized (n len : ℕ) : Type 0 where
  pub some : 0 < n
  pub few : n ≤ max_n
  pub square : len ≡ n * n

pub sized_means : (n len : ℕ) → sized_of n len ≡ true → Sized n len
unfolding sized_of
sized_means n len t =
    let rest = and_second (ltb 0 n) _ t in
    record {
      some = ltb-true 0 n (and_first (ltb 0 n) _ t);
      few = leb-true n max_n (and_first (leb n max_n) _ rest);
      square = eqb-true len (n * n) (and_second (leb n max_n) _ rest);
    }

pub means_sized : (n len : ℕ) → Sized n len → sized_of n len ≡ true
unfolding sized_of
means_sized n len s = rw (lt-ltb 0 n s.some, le-leb n max_n s.few, eq-eqb len (n * n) s.square)
