-- What holds of the checks on going on as a whole: past them the state has components and is sound, the slices are long
-- enough, and the reply suits.
use Rattle.std.specs.Prelude.{◌≡◌, refl, List, Bool, true, false, ◌||◌, ℕ, ◌*◌, ◌≤◌, ltb, eqb, length, Float, Option, Some, None, Ok, Err}
use Rattle.std.proofs.Common.{sym, arith}
use Rattle.std.proofs.Math.Bool.{true≢false}
use borrow.Author.Tests.{ltb-false, eqb-false, le-ltb}
use Rattle.loops.specs.Choice.{when◌then◌else◌}
use Rattle.loops.specs.laws.ChoiceLaws.{false_unless}
use Rattle.rules.specs.Types.{Awaited, Reply, Progress, HasEnded}
use Rattle.matrix.specs.Size.{max_n}
use Rattle.rules.specs.Places.{need}
use Rattle.rules.specs.laws.Ready.{Handed}
use Rattle.rules.proofs.laws.NeededLaws.{room_needed}
use Rattle.rules.specs.Replies.{is_ended, wants}
use Rattle.rules.specs.GoOn.{damaged, count_checked, go_checked}
use Rattle.rules.proofs.laws.DamageLaws.{Sound, sound, sound_is_sane, sound_is_awake}
use Rattle.rules.proofs.laws.PassedLaws.{refusal_is_no_pass, passed_test, passed_rest, or_first, or_second}

-- ---- the state

-- what `if many then true else if none then x else y` says where it is false
undamaged : (b c x y : Bool) → (when b then true else when c then x else y) ≡ false → (b ≡ false) × (c ≡ true → x ≡ false) × (c ≡ false → y ≡ false)
unfolding when◌then◌else◌
undamaged true c x y e = absurd (true≢false e)
undamaged false true x y e = (refl, (λ t. e), (λ f. absurd (true≢false f)))
undamaged false false x y e = (refl, (λ t. absurd (true≢false (sym t))), (λ f. e))

module _ (w : Awaited) (p : Progress) (whole : damaged w p ≡ false) where
  pub few_undamaged : p.n ≤ max_n
  unfolding damaged
  few_undamaged = ltb-false max_n p.n (undamaged (ltb max_n p.n) (eqb p.n 0) _ _ whole).0

  -- a state that has not ended has components, since damage is all that one without may not have
  some_undamaged : is_ended w ≡ false → eqb p.n 0 ≡ false
  unfolding damaged
  some_undamaged u =
      false_unless (eqb p.n 0) (λ t. true≢false (rw u at ((undamaged (ltb max_n p.n) (eqb p.n 0) _ _ whole).1 t)))

  undamaged_is_sound : is_ended w ≡ false → Sound w p
  unfolding damaged
  undamaged_is_sound u = sound w p ((undamaged (ltb max_n p.n) (eqb p.n 0) _ _ whole).2 (some_undamaged u))

-- ---- the reply and the slices

record Fitting (v : Option ℕ) (n values room questions : ℕ) : Type 0 where
  count : ℕ
  suits : v ≡ Some count
  works : need n ≤ room
  asks : 8 * n ≤ questions
  enough : count ≤ values

fitting : (v : Option ℕ) (n values room questions : ℕ) → count_checked v n values room questions ≡ Ok tt → Fitting v n values room questions
fitting None n values room questions e = absurd (refusal_is_no_pass _ e)
fitting (Some k) n values room questions e =
    let none = passed_test (ltb room (need n) || (ltb questions (8 * n) || ltb values k)) _ _ e in
    let past_room = or_second (ltb room (need n)) _ none in
    record {
      count = k;
      suits = refl;
      works = ltb-false room (need n) (or_first (ltb room (need n)) _ none);
      asks = ltb-false questions (8 * n) (or_first (ltb questions (8 * n)) _ past_room);
      enough = ltb-false values k (or_second (ltb questions (8 * n)) _ past_room);
    }

-- ---- the whole

pub handed : (w : Awaited) (p : Progress) (r : Reply) (values ws q : List Float)
    → go_checked w p r (length values) (length ws) (length q) ≡ Ok tt → Handed w p r values ws q
unfolding go_checked
handed w p r values ws q e =
    let past-damage = passed_rest (damaged w p) _ _ e in
    let whole = passed_test (damaged w p) _ _ e in
    let going = passed_test (is_ended w) _ _ past-damage in
    let s = undamaged_is_sound w p whole going in
    let f = fitting (wants p.n w r) p.n (length values) (length ws) (length q) (passed_rest (is_ended w) _ _ past-damage) in
    let some : 1 ≤ p.n = omega (arith, eqb-false p.n 0 (some_undamaged w p whole going)) in
    record {
      works = f.works;
      ready = record { room = room_needed ws some (few_undamaged w p whole) f.works; asks = f.asks; sane = sound_is_sane s };
      awake = sound_is_awake s;
      answered = record { count = f.count; suits = f.suits; enough = f.enough; iterates = s.iterates };
    }

-- ---- the other way: what passes, and what an ended state is told

module _ (w : Awaited) (p : Progress) (r : Reply) (values room questions : ℕ) (whole : damaged w p ≡ false) where
  pub suited_passes :
      {k : ℕ} → is_ended w ≡ false → wants p.n w r ≡ Some k → need p.n ≤ room → 8 * p.n ≤ questions → k ≤ values →
      go_checked w p r values room questions ≡ Ok tt
  unfolding go_checked when◌then◌else◌
  suited_passes {k} going suits works asks enough =
      rw (whole, going, suits, le-ltb room (need p.n) works, le-ltb questions (8 * p.n) asks, le-ltb values k enough)

  pub ended_refuses : is_ended w ≡ true → go_checked w p r values room questions ≡ Err HasEnded
  unfolding go_checked when◌then◌else◌
  ended_refuses over = rw (whole, over)
