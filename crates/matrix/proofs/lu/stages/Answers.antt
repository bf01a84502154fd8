-- `lu::stages` meets its contract: what the stages from k on make of a and ip as they are then is what all of them make of a
-- and ip as they came. Assumes nothing.
use mathlib.Core.Path.{sym, ◌∙◌, ap}
use native.Mathlib.Omega.{arith}
use native.Mathlib.Nat.{sub-zero}
use mathlib.Core.Bool.{Bool}
use lib.Ieee.{Float, eq}
use lib.ListN.{length-set}
use Rattle.loops.specs.laws.ChoiceLaws.{when_true, when_false}
use Rattle.loops.specs.Arithmetic.{+0}
use Rattle.matrix.specs.Lu.{last_of}
use Rattle.matrix.proofs.Stages.{no_stage_left, stage_fails, stage_passes}
use Rattle.matrix.proofs.lu.stages.Goals as goal

-- whether a pivot is zero, as the code asks it
abbrev test : Float → Bool
test x = eq x +0

pub loop-k-init : goal.loop-k-init
loop-k-init c = (omega arith, omega arith, omega arith, rw sub-zero)

pub returns-then-get : goal.returns-then-get
returns-then-get c = let at-loop = c.loop-k in
    let turn = c.loop-k-test in
    let the-pivot-row = c.pivot_row-m in
    sym (stage_fails _ _ _ _ _ turn.true the-pivot-row.ensures.1 (sym (ap test c.get.ensures) ∙ c.if-get.true)) ∙ at-loop.invariant.3

pub loop-k-preserved : goal.loop-k-preserved
loop-k-preserved c = let at-loop = c.loop-k in
    let turn = c.loop-k-test in
    let the-pivot-row = c.pivot_row-m in
    let the-get = c.get in
    let first-test = c.if-get in (
      omega arith,
      simp length-set at-loop.invariant.1,
      omega arith,
      rw c.stage.ensures
          (sym (stage_passes _ _ _ _ _ turn.true the-pivot-row.ensures.1 (sym (ap test the-get.ensures) ∙ first-test.false)) ∙ at-loop.invariant.3),
    )

pub returns-then-get-2 : goal.returns-then-get-2
unfolding last_of
returns-then-get-2 c = let at-loop = c.loop-k in
    let turn = c.loop-k-test in
    sym (when_true _ _ (sym (ap test c.get-2.ensures) ∙ c.if-get-2.true)) ∙ sym (no_stage_left _ _ _ _ turn.false) ∙ at-loop.invariant.3

pub returns : goal.returns
unfolding last_of
returns c = let at-loop = c.loop-k in
    let turn = c.loop-k-test in
    sym (when_false _ _ (sym (ap test c.get-2.ensures) ∙ c.if-get-2.false)) ∙ sym (no_stage_left _ _ _ _ turn.false) ∙ at-loop.invariant.3
