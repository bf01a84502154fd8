-- `first_from` is the search by halving. Assumes nothing.
use Rattle.std.specs.Prelude.{◌≡◌, true, false, ℕ, zero, suc, ◌+◌, ◌-◌, ◌/◌, ◌^◌, ◌<◌, ◌≤◌, Float}
use Rattle.std.specs.Float.Ieee
use Rattle.std.proofs.Common.{refl, sym, ◌∙◌, arith}
use lib.Pow.{pow_pos}
use Rattle.loops.specs.laws.ChoiceLaws.{when_true, when_false}
use Rattle.render.specs.Times.{time_of, short, sought, first_from}
use Rattle.render.proofs.times.first_from.Goals.{then-time_of-x, else-time_of-x}
use Rattle.render.proofs.times.first_from.Goals as goal

-- half of a power, and the turn's two ways
half : {w l m : ℕ} → w ≡ 2 ^ l → l ≡ suc m → (w / 2 ≡ 2 ^ m) × (1 ≤ w / 2)
half {w} {l} {m} e s =
    let f : w ≡ 2 ^ suc m = rw (← s) e in
    let some = pow_pos m in
    (omega arith, omega arith)

turn_short : (x : Float) {t : Float} {w l m : ℕ} (lo : ℕ) → w ≡ 2 ^ l → l ≡ suc m → t ≡ time_of (lo + (w / 2 - 1)) → Ieee.lt t x ≡ true
    → sought (short x) m (lo + w / 2) ≡ sought (short x) l lo
unfolding sought
turn_short x lo e s is late = let d = (half e s).0 in rw (s, d) (sym (when_true _ _ (rw (is, d) at late)))

turn_long : (x : Float) {t : Float} {w l m : ℕ} (lo : ℕ) → w ≡ 2 ^ l → l ≡ suc m → t ≡ time_of (lo + (w / 2 - 1)) → Ieee.lt t x ≡ false
    → sought (short x) m lo ≡ sought (short x) l lo
unfolding sought
turn_long x lo e s is late = let d = (half e s).0 in rw s (sym (when_false _ _ (rw (is, d) at late)))

left_is : (i : ℕ) → i < 32 → 32 - i ≡ suc (32 - (i + 1))
left_is i h = omega arith

ends : (x : Float) (l lo : ℕ) → l ≤ 0 → sought (short x) l lo ≡ first_from x → lo ≡ first_from x
unfolding sought
ends x zero lo h e = e
ends x (suc m) lo h e = absurd (omega arith)

pub loop-init : goal.loop-init
unfolding first_from
loop-init c = (refl, (omega arith, (omega arith, refl)))

pub overflow_sub-width : goal.overflow_sub-width
overflow_sub-width c = (half c.loop.invariant.0 (left_is c.loop.counter c.loop-test.true)).1

pub loop-preserved : goal.loop-preserved
loop-preserved c =
    let s = left_is c.loop.counter c.loop-test.true in
    elim c.if-time_of-x.branch [
      | then-time_of-x w ↦
          let same = turn_short c.args.x c.loop.lo c.loop.invariant.0 s c.time_of.ensures w.if-time_of-x.true in
          ((half c.loop.invariant.0 s).0, (omega arith, (omega arith, rw w.lo-is (same ∙ c.loop.invariant.1.1.1))))
      | else-time_of-x w ↦
          let same = turn_long c.args.x c.loop.lo c.loop.invariant.0 s c.time_of.ensures w.if-time_of-x.false in
          ((half c.loop.invariant.0 s).0, (omega arith, (omega arith, rw w.lo-is (same ∙ c.loop.invariant.1.1.1))))
    ]

pub returns : goal.returns
returns c = ends _ _ _ (omega arith) c.loop.invariant.1.1.1
