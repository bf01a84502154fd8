-- `roots::root_quick::upper` meets its contract: before each turn h is the upper part of the factors so far. Assumes nothing.
use mathlib.Core.Path.{◌≡◌}
use Prim.Native.Nat.{◌*◌, ◌^◌}
use native.Mathlib.Nat.{pow-zero, one-mul}
use native.Mathlib.Omega.{arith}
use Rattle.roots.proofs.Powers.{once_more}
use Rattle.roots.proofs.root_quick.QuickLaws.{near_none, near_more}
use Rattle.roots.proofs.root_quick.upper.Goals as goal

pub loop-init : goal.loop-init
loop-init c = (omega arith, rw (pow-zero, one-mul) (near_none (c.args.n * 2 ^ 11)))

pub loop-preserved : goal.loop-preserved
loop-preserved c =
    let l = c.loop in
    let factor = c.args.m * 2 ^ 10 in
    (omega arith, rw once_more (near_more _ factor _ _ _ (omega arith) l.invariant.1 c.high-h.ensures))

pub returns : goal.returns
returns c = let end : c.loop.counter ≡ c.args.k = omega arith in rw end at c.loop.invariant.1
