-- `going_on::steps_damaged` tells the sum's bound by a difference. Assumes nothing.
use Rattle.std.proofs.Common.{◌≡◌, ℕ, ◌+◌, ◌-◌, ◌||◌, ltb, lt-ltb, le-ltb, arith}
use Rattle.std.proofs.lemmas.Bool.Decides.{nat_tests}
use Rattle.rules.specs.GoOn.{steps_damaged}
use Rattle.bdf.proofs.going_on.steps_damaged.Goals as goal
use Rattle.bdf.proofs.going_on.steps_damaged.Goals.{then-p, else-p}

by_difference :
    (limit total accepted rejected : ℕ) →
    (ltb limit total || ltb total rejected || ltb (total - rejected) accepted) ≡ (ltb limit total || ltb total (accepted + rejected))
by_difference limit total accepted rejected = grind (arith, nat_tests)

pub returns-then-p-2 : goal.returns-then-p-2
unfolding steps_damaged
returns-then-p-2 c =
    let p = c.args.p.now in
    let first : c.if-p.value ≡ (ltb p.limits.steps p.steps.total || ltb p.steps.total p.steps.rejected) = elim c.if-p.branch [
      | then-p w ↦ rw (w.value-is, lt-ltb _ _ w.if-p.true)
      | else-p w ↦ rw (w.value-is, le-ltb _ _ w.if-p.false)
    ] in
    let whole = rw (← first) at (by_difference p.limits.steps p.steps.total p.steps.accepted p.steps.rejected) in
    rw c.if-p-2.true (rw c.if-p-2.true at whole)

pub returns-else-p-2 : goal.returns-else-p-2
unfolding steps_damaged
returns-else-p-2 c =
    let p = c.args.p.now in
    let first : c.if-p.value ≡ (ltb p.limits.steps p.steps.total || ltb p.steps.total p.steps.rejected) = elim c.if-p.branch [
      | then-p w ↦ rw (w.value-is, lt-ltb _ _ w.if-p.true)
      | else-p w ↦ rw (w.value-is, le-ltb _ _ w.if-p.false)
    ] in
    let whole = rw (← first) at (by_difference p.limits.steps p.steps.total p.steps.accepted p.steps.rejected) in
    rw c.if-p-2.false at whole
