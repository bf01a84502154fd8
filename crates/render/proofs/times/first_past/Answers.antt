-- `times::first_past`: what the code computes is at most 2 below the first k past x (`near`), and two comparisons settle which it is.
-- Assumes nothing.
use Rattle.std.specs.Prelude.{◌≡◌, true, false, ℕ, ◌-◌, ◌^◌, ◌≤◌, ◌<◌, Float}
use Rattle.std.proofs.Common.{sym, ◌∙◌, arith}
use Rattle.std.proofs.lemmas.Bool.{not-true, not-false}
use Rattle.std.specs.Float.Ieee
use Rattle.std.specs.Float.{binary64}
use Rattle.loops.specs.Arithmetic.{+0}
use Rattle.render.specs.Times.{time_of, past, within, first_past}
use Rattle.render.specs.laws.Clock.{Good, good}
use Rattle.render.specs.laws.EdgeLaws.{upto_is}
use Rattle.render.specs.laws.PastLaws.{before_past, from_past, past_small}
use Rattle.render.specs.laws.GuessLaw.{negative_past}
use Rattle.render.specs.laws.NearLaw.{Near, near}
use Rattle.render.proofs.times.first_past.Goals as goal

-- what a comparison with a time says
module _ (x : Float) (g : Good x) (k : ℕ) {t : Float} (is : t ≡ time_of k) where
  before : Ieee.le t x ≡ true → k < first_past x
  before e = before_past x k g (not-true (past x k) (sym (upto_is x k g) ∙ rw is at e))

  from : Ieee.le t x ≡ false → first_past x ≤ k
  from e = from_past x k g (not-false (past x k) (sym (upto_is x k g) ∙ rw is at e))

-- what is known of an x in range that is not below 0
record Known (x : Float) : Type 0 where
  good : Good x
  near : Near x
  small : first_past x ≤ 2 ^ 32 - 1

known : (x : Float) → Ieee.fits binary64 x ≡ true → within x ≡ true → Ieee.lt x +0 ≡ false → Known x
known x f w p = let g = good x f w in record { good = g; near = near x g p; small = past_small x g }

pub returns-then-x : goal.returns-then-x
returns-then-x c = sym (negative_past _ (good _ c.well_formed.0.1 c.requires) c.if-x.true)

pub float_to_int-guess : goal.float_to_int-guess
float_to_int-guess c = (known c.args.x c.well_formed.0.1 c.requires c.if-x.false).near.fits

pub overflow_sub-guess : goal.overflow_sub-guess
overflow_sub-guess c = (known c.args.x c.well_formed.0.1 c.requires c.if-x.false).near.least

pub overflow_add-guess : goal.overflow_add-guess
overflow_add-guess c = let k = known c.args.x c.well_formed.0.1 c.requires c.if-x.false in omega arith

pub time_of-requires : goal.time_of-requires
time_of-requires c = let k = known c.args.x c.well_formed.0.1 c.requires c.if-x.false in omega arith

pub overflow_add-result : goal.overflow_add-result
overflow_add-result c = let k = known c.args.x c.well_formed.0.1 c.requires c.if-x.false in omega arith

pub returns-then-time_of-x : goal.returns-then-time_of-x
returns-then-time_of-x c =
    let k = known c.args.x c.well_formed.0.1 c.requires c.if-x.false in
    omega (arith, before _ k.good _ c.time_of.ensures c.if-time_of-x.true)

pub time_of-requires-2 : goal.time_of-requires-2
time_of-requires-2 c = let k = known c.args.x c.well_formed.0.1 c.requires c.if-x.false in omega arith

pub overflow_add-result-then-time_of-x-2 : goal.overflow_add-result-then-time_of-x-2
overflow_add-result-then-time_of-x-2 c = let k = known c.args.x c.well_formed.0.1 c.requires c.if-x.false in omega arith

pub returns-then-time_of-x-2 : goal.returns-then-time_of-x-2
returns-then-time_of-x-2 c =
    let k = known c.args.x c.well_formed.0.1 c.requires c.if-x.false in
    omega (arith, from _ k.good _ c.time_of.ensures c.if-time_of-x.false, before _ k.good _ c.time_of-2.ensures c.if-time_of-x-2.true)

pub returns : goal.returns
returns c =
    let k = known c.args.x c.well_formed.0.1 c.requires c.if-x.false in
    omega (arith, from _ k.good _ c.time_of-2.ensures c.if-time_of-x-2.false)
