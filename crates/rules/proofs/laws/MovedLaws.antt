-- How moves of a state's numbers join, and the moves that one change makes.
use Rattle.std.specs.Prelude.{refl, List, ℕ, ◌+◌, ◌≤◌, Float}
use Rattle.std.proofs.Common.{◌∙◌, arith}
use Rattle.rules.specs.Types.{Progress, Pace, Aim, Newton}
use Rattle.rules.specs.State.{with_pace, with_aim, with_newton, ode+1, jac+1, total+1, rejected+1}
use Rattle.rules.specs.Factor.{factored}
use Rattle.rules.specs.Attempt.{factored_from, singular_from}
use Rattle.rules.specs.laws.Moved.{Moved, Repivoted, as_before, anew}

-- ---- one stage after another

pub repivoted_twice : {n : ℕ} {a b c : List ℕ} → Repivoted n a b → Repivoted n b c → Repivoted n a c
repivoted_twice f as_before = f
repivoted_twice f (anew c ws g) = anew c ws (repivoted_twice f g)

pub moved_twice :
    {p r s : Progress} {ode ode' jac jac' lu lu' total total' accepted accepted' rejected rejected' order order' : ℕ} →
    Moved p r ode jac lu total accepted rejected order → Moved r s ode' jac' lu' total' accepted' rejected' order' →
    Moved p s (ode + ode') (jac + jac') (lu + lu') (total + total') (accepted + accepted') (rejected + rejected') order'
moved_twice m l =
    record {
      counts = omega arith;
      same_guard = l.same_guard ∙ m.same_guard;
      same_span = l.same_span ∙ m.same_span;
      pivots = repivoted_twice m.pivots (rw m.counts.same_n at l.pivots);
    }

-- a second stage that keeps the order
pub moved_on :
    {p r s : Progress} {ode ode' jac jac' lu lu' total total' accepted accepted' rejected rejected' order : ℕ} →
    Moved p r ode jac lu total accepted rejected order → Moved r s ode' jac' lu' total' accepted' rejected' r.order →
    Moved p s (ode + ode') (jac + jac') (lu + lu') (total + total') (accepted + accepted') (rejected + rejected') order
moved_on m l = rw m.counts.ordered at (moved_twice m l)

-- a factoring that could have been and was not
pub factoring_spared :
    {p r : Progress} {ode jac lu total accepted rejected order : ℕ} →
    Moved p r ode jac lu total accepted rejected order → Moved p r ode jac (lu + 1) total accepted rejected order
factoring_spared m = record { counts = omega (arith, m.counts); same_guard = m.same_guard; same_span = m.same_span; pivots = m.pivots }

-- ---- the small moves

pub stays : (p : Progress) → Moved p p 0 0 0 0 0 0 p.order
stays p = record { counts = omega arith; same_guard = refl; same_span = refl; pivots = as_before }

pub pace_moves : (p : Progress) {g : Pace} → g.equal_steps ≤ p.pace.equal_steps → Moved p (with_pace p g) 0 0 0 0 0 0 p.order
pace_moves p h = record { counts = omega arith; same_guard = refl; same_span = refl; pivots = as_before }

pub aim_moves : (p : Progress) (a : Aim) → Moved p (with_aim p a) 0 0 0 0 0 0 p.order
aim_moves p a = record { counts = omega arith; same_guard = refl; same_span = refl; pivots = as_before }

pub newton_moves : (p : Progress) (g : Newton) → Moved p (with_newton p g) 0 0 0 0 0 0 p.order
newton_moves p g = record { counts = omega arith; same_guard = refl; same_span = refl; pivots = as_before }

pub ode_moves : (p : Progress) → Moved p (ode+1 p) 1 0 0 0 0 0 p.order
ode_moves p = record { counts = omega arith; same_guard = refl; same_span = refl; pivots = as_before }

pub jac_moves : (p : Progress) → Moved p (jac+1 p) 0 1 0 0 0 0 p.order
jac_moves p = record { counts = omega arith; same_guard = refl; same_span = refl; pivots = as_before }

pub total_moves : (p : Progress) → Moved p (total+1 p) 0 0 0 1 0 0 p.order
total_moves p = record { counts = omega arith; same_guard = refl; same_span = refl; pivots = as_before }

pub rejected_moves : (p : Progress) → Moved p (rejected+1 p) 0 0 0 0 0 1 p.order
rejected_moves p = record { counts = omega arith; same_guard = refl; same_span = refl; pivots = as_before }

-- a factoring, whichever way it went
pub factored_moves :
    (p : Progress) (ws : List Float) → Moved p (factored_from p (factored p.n p.aim.c p.pivot ws).is) 0 0 1 0 0 0 p.order
factored_moves p ws = record { counts = omega arith; same_guard = refl; same_span = refl; pivots = anew p.aim.c ws as_before }

pub singular_moves :
    (p : Progress) (ws : List Float) → Moved p (singular_from p (factored p.n p.aim.c p.pivot ws).is) 0 0 1 0 0 0 p.order
singular_moves p ws = record { counts = omega arith; same_guard = refl; same_span = refl; pivots = anew p.aim.c ws as_before }
