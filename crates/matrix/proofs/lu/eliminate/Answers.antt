-- `lu::eliminate` meets its contract: each turn of the loop is a turn of the definition, since a[(i, k)], which the loop does not
-- write, keeps the value that l has; and the turns that it leaves out are at zeros. Assumes nothing.
use mathlib.Core.Path.{◌≡◌, refl, ◌∙◌}
use mathlib.Core.List.{List}
use Prim.Native.Nat.{ℕ, ◌+◌, ◌*◌, ◌<◌}
use native.Mathlib.Omega.{arith}
use lib.Seq.{get_or-set_other}
use lib.Ieee.{Float, nan}
use Rattle.loops.specs.Cell.{cell, stored}
use Rattle.loops.specs.laws.Turned.{turn_none, turn_more}
use Rattle.matrix.specs.Rows.{added_of, cell_turn}
use Rattle.matrix.proofs.Writes.{columns_apart}
use Rattle.matrix.proofs.Zeros.{zeros_stay, all_turned}
use Rattle.matrix.proofs.lu.eliminate.Goals as goal

-- the multiplier is not among the cells that are written
multiplier_stays : (n k i j : ℕ) (a b : List Float) (y : Float) {l : Float} → k < j → j < n → cell n a i k ≡ l → b ≡ stored n a i j y → cell n b i k ≡ l
multiplier_stays n k i j a b y o h e w =
    rw w (get_or-set_other a (i * n + j) (i * n + k) y nan (columns_apart n i i k j (omega arith) h (λ s. omega arith)) ∙ e)

turned : (n k i j : ℕ) (a b : List Float) {l t x y : Float} → cell n a i k ≡ l → t ≡ cell n a k j → x ≡ cell n a i j → y ≡ added_of x l t
    → b ≡ stored n a i j y → b ≡ cell_turn n k i j a
unfolding cell_turn
turned n k i j a b e₁ e₂ e₃ e₄ e₅ = e₅ ∙ rw (e₄, e₃, e₂, e₁)

pub loop-j-init : goal.loop-j-init
loop-j-init c =
    (omega arith, c.requires.3, turn_none (omega arith), c.requires.6)

pub loop-j-preserved : goal.loop-j-preserved
loop-j-preserved c = let given = c.args in
    let at-loop = c.loop-j in
    let within : at-loop.j < given.n = omega arith in (
      omega arith,
      multiplier_stays given.n given.k given.i at-loop.j at-loop.a _ c.added-y.result (omega arith) within at-loop.invariant.1 c.put.ensures,
      turn_more at-loop.invariant.2 within (turned _ _ _ _ _ _ at-loop.invariant.1 c.get-t.ensures c.get-x.ensures c.added-y.ensures c.put.ensures),
      zeros_stay given.n given.k given.i at-loop.j given.end at-loop.a _ c.added-y.result (omega arith) within at-loop.invariant.3 c.put.ensures,
    )

pub returns : goal.returns
returns c = let at-loop = c.loop-j in
    (all_turned _ _ _ _ _ _ _ refl at-loop.invariant.2 (λ m h g. at-loop.invariant.3 m (omega arith) g), at-loop.invariant.3)
