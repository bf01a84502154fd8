-- `going_on::pivot_outside`: none found below the pivot; the first that is found decides. Assumes nothing.
use Rattle.std.proofs.Common.{◌≤◌, ◌<◌, ◌-◌, length, sym, arith, length-take-le, get_or-take}
use Rattle.std.proofs.lemmas.Bool.{lt-leb}
use Rattle.loops.specs.laws.Turned.{turn_none, turn_more, turn_all}
use Rattle.rules.specs.GoOn.{pivot_turn, pivot_outside}
use Rattle.rules.proofs.laws.DamageLaws.{pivot_found}
use Rattle.bdf.proofs.going_on.pivot_outside.Goals as goal

pub loop-k-init : goal.loop-k-init
loop-k-init c = turn_none (omega arith)

pub returns-then-n-k : goal.returns-then-n-k
returns-then-n-k c =
    let few : c.args.n - 1 ≤ length c.args.pivot.now = omega (arith, c.requires.1) in
    let here : c.loop-k.k-index < c.args.n - 1 = rw (length-take-le _ _ few) at c.loop-k-test.true in
    let above = rw (get_or-take (c.args.n - 1) c.args.pivot.now c.loop-k.k-index 0 here) at c.if-n-k.true in
    pivot_found _ (omega arith) c.loop-k.invariant above

pub loop-k-preserved : goal.loop-k-preserved
unfolding pivot_turn
loop-k-preserved c =
    let few : c.args.n - 1 ≤ length c.args.pivot.now = omega (arith, c.requires.1) in
    let here : c.loop-k.k-index < c.args.n - 1 = rw (length-take-le _ _ few) at c.loop-k-test.true in
    let below = rw (get_or-take (c.args.n - 1) c.args.pivot.now c.loop-k.k-index 0 here) at c.if-n-k.false in
    turn_more c.loop-k.invariant here (sym (lt-leb _ _ below))

pub returns : goal.returns
unfolding pivot_outside
returns c =
    let few : c.args.n - 1 ≤ length c.args.pivot.now = omega (arith, c.requires.1) in
    turn_all c.loop-k.invariant (rw (length-take-le _ _ few) at c.loop-k-test.false)
