-- The zeros with which a row ends: what writes below the row leaves them, and an elimination need not go there.
use mathlib.Core.Path.{◌≡◌, sym, ap, ◌∙◌}
use mathlib.Core.Bool.{false}
use mathlib.Core.List.{List}
use Prim.Native.Nat.{ℕ, zero, suc, ◌+◌, ◌-◌, ◌*◌, ◌<◌}
use native.Mathlib.Omega.{arith}
use lib.Seq.{get_or-set_other, set-get_or}
use lib.Ieee.{Float, nan, ne}
use Rattle.loops.specs.laws.ChoiceLaws.{when_false}
use Rattle.loops.specs.Cell.{cell, stored}
use Rattle.loops.specs.Loop.{loop}
use Rattle.loops.specs.laws.Turned.{Turned, turn_more, turn_all}
use Rattle.loops.specs.Arithmetic.{+0}
use Rattle.matrix.specs.Rows.{added_of, cell_turn, Zeros}
use Rattle.matrix.proofs.Writes.{three_ways, rows_apart}

-- one zero more
pub zeros_more : (n k end last : ℕ) (a : List Float) → last + 1 ≡ end → Zeros n k end a → ne (cell n a k last) +0 ≡ false → Zeros n k last a
zeros_more n k end last a e z t j h g =
    three_ways j end (λ o. let same : j ≡ last = omega arith in rw same t) (λ o. z j (omega arith) g) (λ o. z j (omega arith) g)

-- a write in a row below
pub zeros_stay : (n k i c end : ℕ) (a b : List Float) (y : Float) → k < i → c < n → Zeros n k end a → b ≡ stored n a i c y → Zeros n k end b
zeros_stay n k i c end a b y o hc z w j h g =
    let same : cell n b k j ≡ cell n a k j = rw w (get_or-set_other a (i * n + c) (k * n + j) y nan (rows_apart n k i j c g hc (λ e. omega arith))) in
    rw same (z j h g)

-- a turn at a zero changes nothing
idle : (n k i j : ℕ) (a : List Float) → ne (cell n a k j) +0 ≡ false → a ≡ cell_turn n k i j a
unfolding cell_turn added_of
idle n k i j a t = sym (ap (λ (x : Float). stored n a i j x) (when_false _ _ t) ∙ set-get_or a (i * n + j) nan)

-- so the turns as far as the zeros are all the turns
pub all_turned : (n k i j : ℕ) (a₀ a : List Float) (d : ℕ) → n - j ≡ d → Turned (k + 1) n (cell_turn n k i) a₀ j a → Zeros n k j a → a ≡ loop (k + 1) n (cell_turn n k i) a₀
all_turned n k i j a₀ a zero e r z = turn_all r (omega arith)
all_turned n k i j a₀ a (suc d) e r z =
    let more : j < n = omega arith in
    all_turned n k i (j + 1) a₀ a d (omega arith) (turn_more r more (idle n k i j a (z j (omega arith) more))) (λ m h g. z m (omega arith) g)
