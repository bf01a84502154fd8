-- `lu::rows` meets its contract: each turn of the loop is a turn of the definition. The multiplier that was just stored is what the
-- elimination finds in its cell, and row k, above all that is written, keeps its zeros. Assumes nothing.
use mathlib.Core.Path.{◌≡◌, ◌∙◌}
use mathlib.Core.List.{List}
use Prim.Native.Nat.{ℕ, ◌+◌, ◌*◌, ◌<◌}
use native.Mathlib.Omega.{arith}
use lib.ListN.{length}
use lib.Seq.{get_or-set_same}
use lib.Ieee.{Float, nan, neg}
use Rattle.loops.specs.Cell.{cell, stored}
use Rattle.loops.specs.laws.RowLaws.{inside}
use Rattle.loops.specs.Loop.{loop}
use Rattle.loops.specs.laws.Turned.{turn_none, turn_more, turn_all}
use Rattle.loops.specs.Arithmetic.{◌⊗◌}
use Rattle.matrix.specs.Lu.{scale_turn}
use Rattle.matrix.specs.Rows.{cell_turn, row_turn}
use Rattle.matrix.proofs.Zeros.{zeros_stay}
use Rattle.matrix.proofs.lu.rows.Goals as goal

just_stored : (n k i : ℕ) (a b : List Float) {l : Float} → k < n → i < n → length a ≡ n * n → b ≡ stored n a i k l → cell n b i k ≡ l
just_stored n k i a b hk hi s w = rw w (get_or-set_same a (i * n + k) _ nan (rw s (inside hi hk)))

turned : (n k i : ℕ) (a b d : List Float) (t : Float) {x : Float} → x ≡ cell n a i k → b ≡ stored n a i k (neg x ⊗ t)
    → d ≡ loop (k + 1) n (cell_turn n k i) b → d ≡ row_turn n k t i a
unfolding row_turn scale_turn
turned n k i a b d t e₁ e₂ e₃ = e₃ ∙ rw (e₂, e₁)

pub loop-i-init : goal.loop-i-init
loop-i-init c =
    (omega arith, turn_none (omega arith), c.reach-end.ensures.2)

pub eliminate-requires : goal.eliminate-requires
eliminate-requires c = let given = c.args in
    let at-loop = c.loop-i in (
      omega arith,
      omega arith,
      omega arith,
      just_stored given.n given.k at-loop.i at-loop.a _ (omega arith) (omega arith) at-loop.invariant.0 c.put.ensures,
      c.reach-end.ensures.0,
      c.reach-end.ensures.1,
      zeros_stay given.n given.k at-loop.i given.k _ at-loop.a _ _ (omega arith) (omega arith) at-loop.invariant.2 c.put.ensures,
    )

pub loop-i-preserved : goal.loop-i-preserved
loop-i-preserved c = let at-loop = c.loop-i in
    (omega arith, turn_more at-loop.invariant.1 c.loop-i-test.true (turned _ _ _ _ _ _ _ c.get-x.ensures c.put.ensures c.eliminate.ensures.0), c.eliminate.ensures.1)

pub returns : goal.returns
returns c =
    turn_all c.loop-i.invariant.1 c.loop-i-test.false
