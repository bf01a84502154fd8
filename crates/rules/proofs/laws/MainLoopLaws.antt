-- What the main loop says, whatever the floats are, and its one turn: an attempt, and the same again where it was rejected.
use Rattle.std.specs.Prelude.{◌≡◌, List, ℕ, zero, suc, ◌-◌, ◌≤◌, ◌<◌, length, Float}
use Rattle.std.proofs.Math.Path.{refl, ap}
use Rattle.std.proofs.Common.{add-one}
use native.Mathlib.Omega.{arith}
use Rattle.rules.specs.Types.{Progress, Turn}
use Rattle.rules.specs.State.{After, after}
use Rattle.rules.specs.laws.Ready.{Sane, Ready}
use Rattle.rules.proofs.laws.ReadyLaws.{room_kept}
use Rattle.rules.proofs.laws.MovedLaws.{moved_on}
use Rattle.rules.specs.Attempt.{attempt, Tried, rejected, says, onward, tries, attempts_left, main_loop, rest}
use Rattle.rules.specs.laws.Said.{Said, ends, asks, Rejected, Tries}
use Rattle.rules.proofs.laws.AttemptLaws.{attempt_tries}

-- ---- what it says

said_later : {p r : Progress} {t : Turn} → Rejected p r → Said r t → Said p t
said_later j (ends s e cause within m) = ends s e cause (omega arith) (moved_on j.moved m)
said_later j (asks e fresh within m) = asks e fresh (omega arith) (moved_on j.moved m)

onward_says :
    {p : Progress} (more : Progress → List Float → List Float → After Turn) (a : Tried) (ws q : List Float) → Tries p a →
    ((r : Progress) → Rejected p r → Said r (more r ws q).is) → Said p (onward more a ws q).is
onward_says more (rejected r) ws q j further = said_later j (further r j)
onward_says more (says t) ws q s further = s

tries_says : (k : ℕ) (p : Progress) (ws q : List Float) → p.steps.total ≤ p.limits.steps → attempts_left p ≡ k → Said p (tries k p ws q).is
unfolding tries
tries_says zero p ws q h e = absurd (omega arith)
tries_says (suc k) p ws q h e =
    let a = attempt p ws q in
    onward_says (tries k) a.is a.ws a.q (attempt_tries p ws q h) (λ r j. tries_says k r a.ws a.q (omega arith) (omega arith))

pub main_loop_says : (p : Progress) (ws q : List Float) → p.steps.total ≤ p.limits.steps → Said p (main_loop p ws q).is
unfolding main_loop
main_loop_says p ws q h = tries_says _ p ws q h refl

-- ---- its turn

-- how many attempts an attempt can still leave
abbrev pub attempts_in : Tried → ℕ
attempts_in (rejected r) = attempts_left r
attempts_in (says t) = 0

module _ (p : Progress) where
  -- after a rejected attempt one fewer is left, which is what the loop counts anew
  as_many_left :
      (k : ℕ) (a : Tried) (ws q : List Float) → Tries p a → p.limits.steps - p.steps.total ≡ k → onward (tries k) a ws q ≡ rest a ws q
  unfolding main_loop
  as_many_left k (rejected r) ws q j e =
      let left : k ≡ attempts_left r = omega arith in
      ap (λ (k : ℕ). tries k r ws q) left
  as_many_left k (says t) ws q s e = refl

  fewer_in : (a : Tried) → Tries p a → attempts_in a < attempts_left p
  fewer_in (rejected r) j = omega arith
  fewer_in (says t) s = omega arith

  module _ (ws q : List Float) (h : p.steps.total ≤ p.limits.steps) where
    pub main_loop_turn : main_loop p ws q ≡ rest (attempt p ws q).is (attempt p ws q).ws (attempt p ws q).q
    unfolding main_loop tries
    main_loop_turn =
        let a = attempt p ws q in
        rw (add-one (p.limits.steps - p.steps.total))
        (as_many_left (p.limits.steps - p.steps.total) a.is a.ws a.q (attempt_tries p ws q h) refl)

    pub fewer_left : attempts_in (attempt p ws q).is < attempts_left p
    fewer_left = fewer_in (attempt p ws q).is (attempt_tries p ws q h)

-- a rejected attempt leaves what the next one asks: the state's own numbers, and room where the slices kept their lengths
pub sane_again : {p r : Progress} → Sane p → Rejected p r → Sane r
sane_again s j = omega (arith, s, j)

pub ready_again : {p r : Progress} {ws q v u : List Float} → Ready p ws q → Rejected p r → length v ≡ length ws → length u ≡ length q → Ready r v u
ready_again {p} {r} i j e f =
    record {
      room = rw j.moved.counts.same_n (room_kept i.room e);
      asks = omega (arith, i.asks, j.moved.counts.same_n);
      sane = sane_again i.sane j;
    }

-- ---- the same of an attempt that left a, v and u

module _ {p : Progress} {ws q v u : List Float} {a : Tried} (i : Ready p ws q) (e : after a v u ≡ attempt p ws q) where
  pub rest_after : main_loop p ws q ≡ rest a v u
  rest_after = rw (← e) at (main_loop_turn p ws q i.sane.counted)

  pub fewer_after : attempts_in a < attempts_left p
  fewer_after = rw (← e) at (fewer_left p ws q i.sane.counted)

  pub ready_after : {r : Progress} → a ≡ rejected r → length v ≡ length ws → length u ≡ length q → Ready r v u
  ready_after {r} again f g =
      let j : Rejected p r = rw again at (rw (← e) at (attempt_tries p ws q i.sane.counted)) in
      ready_again i j f g
