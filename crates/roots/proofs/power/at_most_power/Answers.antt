-- `roots::power::at_most_power` meets its contract: before each turn the row stands for m to the power of the turns done, times n,
-- and it has room for one factor more. Assumes nothing.
use mathlib.Core.Path.{◌≡◌, sym, ap, ◌∙◌}
use Prim.Native.Nat.{ℕ, ◌*◌}
use native.Mathlib.Nat.{pow-zero, one-mul}
use native.Mathlib.Omega.{arith}
use borrow.Author.Tests.{le-leb}
use Rattle.roots.proofs.Powers.{once_more}
use Rattle.roots.proofs.power.Rows.{two_digits, one_digit, has_room, below_power}
use Rattle.roots.proofs.power.at_most_power.Goals as goal

pub returns-then-t-ge434 : goal.returns-then-t-ge434
returns-then-t-ge434 c = sym (le-leb _ _ (below_power _ _ (has_room _ _ _ c.requires.0 c.requires.1 c.requires.2) c.if-t-ge434.true))

pub loop-init : goal.loop-init
loop-init c = (omega arith, rw (pow-zero, one-mul) (two_digits _ c.requires.1))

pub times-requires : goal.times-requires
times-requires c =
    let l = c.loop in
    let pre = c.requires in
    (pre.0, l.invariant.1.row, rw (l.invariant.1.worth, ← once_more) (has_room _ _ _ pre.0 pre.1 (omega arith)))

pub loop-preserved : goal.loop-preserved
loop-preserved c =
    let l = c.loop in
    let product = ap (λ (v : ℕ). v * c.args.m) l.invariant.1.worth in
    (omega arith, record { row = c.times.ensures.0; worth = c.times.ensures.1 ∙ product ∙ sym (once_more _ _ _) })

pub returns : goal.returns
returns c =
    let l = c.loop in
    let args = c.args in
    let end : l.counter ≡ args.k = omega arith in
    rw (← (one_digit args.t (omega arith)).worth, ← (rw end at l.invariant.1.worth)) c.at_most.ensures

pub at_most-requires : goal.at_most-requires
at_most-requires c = (c.loop.invariant.1.row, (one_digit c.args.t (omega arith)).row)
