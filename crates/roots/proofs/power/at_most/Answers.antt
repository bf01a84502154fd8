-- `roots::power::at_most` meets its contract: before each turn the answer so far is that for the digits below i. Assumes nothing.
use mathlib.Core.Path.{◌≡◌, refl, sym, ◌∙◌}
use Prim.Native.Nat.{◌^◌}
use native.Mathlib.Numerals.{add-one}
use native.Mathlib.Omega.{arith}
use lib.ListN.{get_or}
use Rattle.roots.specs.Numeral.{numeral, base}
use Rattle.roots.proofs.power.NumeralLaws.{numeral_small, compare_digits}
use Rattle.roots.proofs.power.at_most.Goals as goal

pub loop-i-preserved : goal.loop-i-preserved
unfolding numeral
loop-i-preserved c =
    let l = c.loop-i in
    let a = c.args.a.now in
    let b = c.args.b.now in
    let below =
    compare_digits (base ^ l.i) (numeral base a l.i) (numeral base b l.i) (get_or a l.i 0) (get_or b l.i 0)
    (numeral_small a l.i c.requires.0.digits) (numeral_small b l.i c.requires.1.digits) in
    (omega arith, rw add-one (rw l.invariant.1 at c.not_above-so_far.ensures ∙ sym below))

pub returns : goal.returns
returns c = let end : c.loop-i.i ≡ 14 = omega arith in rw end at c.loop-i.invariant.1

pub loop-i-init : goal.loop-i-init
unfolding numeral
loop-i-init c = (omega arith, refl)
