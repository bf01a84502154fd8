-- Every k from 2 ^ 32 - 1 on lies past an x in range, since 80000 * 48000 is less: so the k that are written, and the first, have 32 bits.
-- And beside a time of k, which may be infinite, `<=` is the other way of `<`.
use Rattle.std.specs.Prelude.{◌≡◌, refl, Bool, true, false, not, ℕ, ◌+◌, ◌-◌, ◌*◌, ◌^◌, ◌≤◌, ◌<◌, leb, Float}
use Rattle.std.proofs.Common.{sym, ◌∙◌, true≢false, le_trans, le_of_eq, lt_of_le_of_lt, arith, lt-ltb, leb-true, leb-false, lit≤, lit<, pow_pos}
use Rattle.std.specs.Float.Ieee
use Rattle.std.specs.Float.{nan, inf, fin}
use Rattle.floats.specs.Units.{Finite, over, under}
use Rattle.floats.specs.laws.Rounding.{grid_mono}
use Rattle.floats.specs.laws.Products.{clear_finite}
use Rattle.floats.specs.laws.Whole.{whole_grid}
use Rattle.floats.specs.laws.Equal.{le_not_above}
use Rattle.render.specs.Times.{time_of, past, short, first_from}
use Rattle.render.specs.laws.Clock.{Good}
use Rattle.render.specs.laws.TimeLaws.{ticks, Tick, far, near, tick, ticks_is, past_ticks, good_finite, good_most, clock}
use Rattle.render.specs.laws.StrictLaws.{ticks_strict, time_near}
use Rattle.render.specs.laws.FirstLaws.{from_first}

edge_ticks : 80000 * 2 ^ 1074 < ticks (2 ^ 32 - 1)
edge_ticks =
    lt_of_le_of_lt
    (le_trans (le_of_eq (sym (whole_grid 80000 (lit≤ tt))))
    (le_trans (grid_mono (80000 * 2 ^ 1074) (2 ^ 1074) 3840000000 48000 (pow_pos 1074) (lit< tt) (lit≤ tt))
    (le_of_eq (sym (ticks_is 3840000000 (lit≤ tt))))))
    (ticks_strict 3840000000 (2 ^ 32 - 1) (lit< tt) (lit≤ tt))

pub past_edge : (x : Float) (k : ℕ) → Good x → 2 ^ 32 - 1 ≤ k → past x k ≡ true
past_edge x k g h =
    let n = time_near (2 ^ 32 - 1) (lit< tt) in
    let t = ticks (2 ^ 32 - 1) in
    let less : over x < t + under x = lifted (over x) (80000 * 2 ^ 1074) t (under x) (good_most x g) edge_ticks in
    clock.rises x (2 ^ 32 - 1) k g h (past_ticks x (good_finite x g) (2 ^ 32 - 1) n.0 n.1 ∙ lt-ltb (over x) (t + under x) less)
  where
    lifted : (o a t u : ℕ) → o ≤ a + u → a < t → o < t + u
    lifted o a t u h l = omega arith

pub written_small : (x : Float) (k : ℕ) → Good x → past x k ≡ false → k < 2 ^ 32 - 1
written_small x k g e = go (leb (2 ^ 32 - 1) k) refl
  where
    go : (b : Bool) → leb (2 ^ 32 - 1) k ≡ b → k < 2 ^ 32 - 1
    go true l = absurd (true≢false (sym (past_edge x k g (leb-true (2 ^ 32 - 1) k l)) ∙ e))
    go false l = leb-false (2 ^ 32 - 1) k l

pub first_small : (x : Float) → Good x → first_from x ≤ 2 ^ 32 - 1
first_small x g = from_first clock x (2 ^ 32 - 1) g (clock.reaches x g)

-- ---- at or below, and at or above

under_inf : (x : Float) → Finite x → Ieee.le x (inf false) ≡ not (Ieee.lt (inf false) x)
unfolding Ieee.le Ieee.lt Ieee.eq
under_inf nan f = absurd f
under_inf (inf s) f = absurd f
under_inf (fin s m e) f = refl

over_inf : (x : Float) → Finite x → Ieee.le (inf false) x ≡ not (Ieee.lt x (inf false))
unfolding Ieee.le Ieee.lt Ieee.eq
over_inf nan f = absurd f
over_inf (inf s) f = absurd f
over_inf (fin s m e) f = refl

pub from_is : (x : Float) (k : ℕ) → Good x → Ieee.le x (time_of k) ≡ not (short x k)
from_is x k g = go (tick k)
  where
    go : Tick k → Ieee.le x (time_of k) ≡ not (short x k)
    go (near c u b) = le_not_above x (time_of k) (good_finite x g) (clear_finite (time_of k) c)
    go (far is l) = rw is (under_inf x (good_finite x g))

pub upto_is : (x : Float) (k : ℕ) → Good x → Ieee.le (time_of k) x ≡ not (past x k)
upto_is x k g = go (tick k)
  where
    go : Tick k → Ieee.le (time_of k) x ≡ not (past x k)
    go (near c u b) = le_not_above (time_of k) x (clear_finite (time_of k) c) (good_finite x g)
    go (far is l) = rw is (over_inf x (good_finite x g))
