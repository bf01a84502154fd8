-- `roots::root_test::greatest_reaching` meets its contract: lo reaches and hi fails before each turn, and at the end they are neighbours.
-- Assumes nothing.
use mathlib.Core.Path.{◌≡◌, sym, ◌∙◌}
use mathlib.Core.Bool.{true, false}
use Prim.Native.Nat.{ℕ, ◌+◌, ◌<◌}
use native.Mathlib.Omega.{arith}
use Rattle.roots.specs.Roots.{infinity_bits}
use Rattle.roots.proofs.laws.RootLaws.{rounded_is, zero_reaches, fails_past_infinity}
use Rattle.roots.specs.Scaled.{reaches_root}
use Rattle.roots.proofs.root_test.greatest_reaching.Invariants.{Bracketed}
use Rattle.roots.proofs.root_test.greatest_reaching.Goals as goal
use Rattle.roots.proofs.root_test.greatest_reaching.Goals.{then-reaches, else-reaches}

-- a pattern between them that was tested takes the place of one of them
module _ {k digits places lo hi b : ℕ} (here : Bracketed k digits places lo hi) (above : lo < b) (below : b < hi) where
  raised : reaches_root k digits places b ≡ true → Bracketed k digits places b hi
  raised t = record { apart = below; in_range = here.in_range; passes = t; fails = here.fails }

  lowered : reaches_root k digits places b ≡ false → Bracketed k digits places lo b
  lowered f = record { apart = above; in_range = omega (arith, here.in_range); passes = here.passes; fails = f }

pub loop-lo-init : goal.loop-lo-init
loop-lo-init c = (
  record {
    apart = omega arith;
    in_range = omega arith;
    passes = zero_reaches _ _ _ c.requires.from;
    fails = fails_past_infinity _ _ _ (infinity_bits + 1) (omega arith);
  },
  omega arith,
)

pub loop-lo-preserved : goal.loop-lo-preserved
loop-lo-preserved c =
    let here = c.loop-lo.invariant.0 in
    let b = c.between-b.ensures in
    let test = sym c.reaches.ensures in (
      elim c.if-reaches.branch [
        | then-reaches w ↦ rw (w.lo-is, w.hi-is) (raised here b.0 b.1 (test ∙ w.if-reaches.true))
        | else-reaches w ↦ rw (w.lo-is, w.hi-is) (lowered here b.0 b.1 (test ∙ w.if-reaches.false))
      ],
      omega arith,
    )

pub returns : goal.returns
returns c = let b = c.loop-lo.invariant.0 in
    let next : c.loop-lo.hi ≡ c.loop-lo.lo + 1 = omega arith in
    sym (rounded_is _ _ _ c.loop-lo.lo b.passes (rw next at b.fails))
