-- `lu::pivot_row` meets its contract: each turn of the loop is a turn of the definition. max_val is always the magnitude of the
-- cell at m, but that a -0 keeps its sign, which no comparison sees. Assumes nothing.
use mathlib.Core.Path.{◌≡◌, sym, ◌∙◌, ap}
use mathlib.Core.Bool.{true, false}
use mathlib.Core.List.{List}
use Prim.Native.Nat.{ℕ}
use native.Mathlib.Omega.{arith}
use lib.Ieee.{Float, lt}
use Rattle.loops.specs.laws.ChoiceLaws.{when_true, when_false}
use Rattle.loops.specs.Cell.{cell}
use Rattle.loops.specs.laws.Turned.{turn_none, turn_more, turn_all}
use Rattle.number.specs.Helpers.{abs_of}
use Rattle.matrix.specs.Magnitude.{magnitude_of}
use Rattle.matrix.specs.Lu.{pivot_turn, pivot_of}
use Rattle.matrix.proofs.Magnitude.{same_order}
use Rattle.matrix.proofs.lu.pivot_row.Goals as goal
use Rattle.matrix.proofs.lu.pivot_row.Goals.{then-val-max_val, else-val-max_val}

module _ (n : ℕ) (a : List Float) (k i m : ℕ) {max val : Float} (held : max ≡ magnitude_of (cell n a m k)) (met : val ≡ magnitude_of (cell n a i k)) where
  -- the code's test is the definition's
  tested : lt max val ≡ lt (abs_of (cell n a m k)) (abs_of (cell n a i k))
  tested = rw (held, met) (same_order (cell n a m k) (cell n a i k))

  taken : lt max val ≡ true → (i, abs_of (cell n a i k)) ≡ pivot_turn n a k i (m, abs_of (cell n a m k))
  unfolding pivot_turn
  taken t = sym (when_true _ _ (sym tested ∙ t))

  passed : lt max val ≡ false → (m, abs_of (cell n a m k)) ≡ pivot_turn n a k i (m, abs_of (cell n a m k))
  unfolding pivot_turn
  passed t = sym (when_false _ _ (sym tested ∙ t))

pub loop-i-init : goal.loop-i-init
loop-i-init c = (omega arith, c.magnitude-max_val.ensures ∙ ap magnitude_of c.at.ensures, turn_none (omega arith))

pub loop-i-preserved : goal.loop-i-preserved
loop-i-preserved c = let at-loop = c.loop-i in
    let turn = c.loop-i-test in
    let met = c.magnitude-val.ensures ∙ ap magnitude_of c.at-in-loop-i.ensures in
    elim c.if-val-max_val.branch [
      | then-val-max_val w ↦ rw (w.m-is, w.max_val-is) (omega arith, met, turn_more at-loop.invariant.2 turn.true (taken _ _ _ _ _ at-loop.invariant.1 met w.if-val-max_val.true))
      | else-val-max_val w ↦
          rw (w.m-is, w.max_val-is) (at-loop.invariant.0, at-loop.invariant.1, turn_more at-loop.invariant.2 turn.true (passed _ _ _ _ _ at-loop.invariant.1 met w.if-val-max_val.false))
    ]

pub returns : goal.returns
unfolding pivot_of
returns c = (c.loop-i.invariant.0, ap (λ (b : ℕ × Float). b.0) (turn_all c.loop-i.invariant.2 c.loop-i-test.false))
