-- Two calls of the same state with the same reply, and two beginnings of the same problem, agree where their slices are long
-- enough: the checks read lengths only, the stages read the needed places only, and the beginning writes each of those.
use Rattle.std.specs.Prelude.{◌≡◌, List, [], ◌∷◌, ◌++◌, Bool, true, false, ℕ, zero, suc, ◌*◌, ◌≤◌, ltb, eqb, length, set, take, drop, replicate, Float, Option, Some, None, Result, Ok, Err, ⊤}
use Rattle.std.proofs.Math.Path.{refl}
use Rattle.std.proofs.Common.{sym, ap, ◌∙◌, zero-add, add-one, arith, length-append, take_all, take_at, take-suc-set}
use Rattle.std.proofs.lemmas.List.{replicate-append-replicate}
use Rattle.std.proofs.Math.Seq.{length-take-le}
use borrow.Author.Tests.{le-ltb}
use Rattle.loops.specs.Choice.{when◌then◌else◌}
use Rattle.loops.specs.Loop.{loop}
use Rattle.loops.specs.laws.Turned.{loop_more}
use Rattle.loops.specs.Arithmetic.{+0}
use Rattle.matrix.specs.Size.{max_n}
use Rattle.rules.specs.Types.{Tolerance, Progress, Run, Turn, Reply, Awaited, Refusal}
use Rattle.rules.specs.Places.{need}
use Rattle.rules.specs.Moves.{fill_turn, filled}
use Rattle.rules.specs.State.{After, after}
use Rattle.rules.specs.Answers.{written}
use Rattle.rules.specs.laws.Agree.{Alike, Agree}
use Rattle.rules.proofs.laws.LengthLaws.{filled_long}
use Rattle.rules.proofs.laws.QuestionLaws.{fronted, Speaks, Says}
use Rattle.rules.proofs.laws.SpeakLaws.{replied_speaks, ask_first_speaks}
use Rattle.rules.specs.Replies.{wants}
use Rattle.rules.specs.Checks.{checked}
use Rattle.rules.proofs.laws.CheckLaws.{cleared}
use Rattle.rules.specs.Begin.{begin_ws, ask_first, begin_run, begin_of}
use Rattle.rules.specs.GoOn.{count_checked, go_checked, go_within, go_turn, go_on_of}
use Rattle.rules.proofs.laws.GoOnLaws.{handed}
use Rattle.rules.specs.Calls.{Configuration, beginning, beginning_checked, beginning_turn, beginning_passed, size, Untouched}

-- ---- a stage on the needed places

-- what a stage leaves, before what lies beyond
abbrev within : List Float → After Turn → After Turn
within rest g = after g.is (g.ws ++ rest) g.q

front_agrees : {n : ℕ} (t : Turn) (ws e : List Float) (rest rest' q q' : List Float) → length ws ≡ need n → Says n t (length e)
    → Agree (within rest (after t ws (fronted e q))) (within rest' (after t ws (fronted e q')))
front_agrees {n} t ws e rest rest' q q' h says =
    let same_size : t.run.at.n ≡ n = says.1 in
    let exact : length ws ≡ need t.run.at.n = rw same_size h in
    let asked : length e ≡ written t.run.at.n t.answer = rw same_size says.0 in
    record {
      turns = refl;
      room = rw (length-append ws rest) (omega arith);
      room' = rw (length-append ws rest') (omega arith);
      places = take_at ws rest _ exact ∙ sym (take_at ws rest' _ exact);
      questions = take_at e _ _ asked ∙ sym (take_at e _ _ asked);
    }

stage_agrees : {n : ℕ} {f : List Float → After Turn} (rest rest' q q' : List Float) → Speaks (Says n) n f → 8 * n ≤ length q → 8 * n ≤ length q'
    → Agree (within rest (f q)) (within rest' (f q'))
stage_agrees rest rest' q q' s h h' =
    rw (s.says q h, s.says q' h') (front_agrees s.is s.ws s.asked rest rest' q q' s.long s.fits)

-- ---- going on

-- the checks read the lengths of the slices, and of these only whether they are enough
checks_alike : (w : Awaited) (p : Progress) (r : Reply) (values room room' questions questions' : ℕ) → need p.n ≤ room → need p.n ≤ room'
    → ltb questions (8 * p.n) ≡ ltb questions' (8 * p.n) → go_checked w p r values room questions ≡ go_checked w p r values room' questions'
unfolding go_checked
checks_alike w p r values room room' questions questions' h h' e = rw (counts_alike (wants p.n w r))
  where
    counts_alike : (v : Option ℕ) → count_checked v p.n values room questions ≡ count_checked v p.n values room' questions'
    counts_alike None = refl
    counts_alike (Some k) = rw (le-ltb room (need p.n) h, le-ltb room' (need p.n) h', e)

module _ (run : Run) (r : Reply) (values ws ws' q q' : List Float) where
  abbrev wide : ℕ
  wide = need run.at.n

  turn_agrees : (c : Result ⊤ Refusal) → go_checked run.awaited run.at r (length values) (length ws) (length q) ≡ c
      → go_checked run.awaited run.at r (length values) (length ws') (length q') ≡ c
      → wide ≤ length ws → wide ≤ length ws' → take wide ws ≡ take wide ws' → Agree (go_turn run r values c ws q) (go_turn run r values c ws' q')
  unfolding go_within
  turn_agrees (Err why) e e' h h' same = record { turns = refl; room = h; room' = h'; places = same; questions = refl }
  turn_agrees (Ok tt) e e' h h' same =
      let passed = handed run.awaited run.at r values ws q e in
      let passed' = handed run.awaited run.at r values ws' q' e' in
      let s = replied_speaks run.at values (take wide ws) (length-take-le wide ws h) run.awaited r in
      rw (← same) (stage_agrees (drop wide ws) (drop wide ws') q q' s passed.ready.asks passed'.ready.asks)

pub go_on_agrees : {g h : After Turn} (r : Reply) (values ws ws' q q' : List Float)
    → Agree g h → Untouched g ws → Untouched h ws' → Alike (size g) q q'
    → Agree (go_on_of g.is.run r values ws q) (go_on_of h.is.run r values ws' q')
unfolding go_on_of
go_on_agrees {g} {h} r values ws ws' q q' a kept kept' e =
    let run = g.is.run in
    let back : Untouched (after g.is h.ws h.q) ws' = rw a.turns kept' in
    let alike = checks_alike run.awaited run.at r (length values) (length ws) (length ws') (length q) (length q') kept.0 back.0 e in
    let same-run : run ≡ h.is.run = ap (λ (t : Turn). t.run) a.turns in
    rw (← same-run, ← alike)
    (turn_agrees run r values ws ws' q q' _ refl (sym alike) kept.0 back.0 (kept.1 ∙ a.places ∙ sym back.1))

-- ---- beginning

-- two choices by the same test
both_ways : (b : Bool) {g g' h h' : After Turn} → (b ≡ true → Agree g g') → (b ≡ false → Agree h h')
    → Agree (when b then g else h) (when b then g' else h')
unfolding when◌then◌else◌
both_ways true f k = f refl
both_ways false f k = k refl

-- filled from its first place on, a list is that one number over and over
fill_front : (k : ℕ) (x : Float) (l : List Float) → k ≤ length l → take k (loop 0 k (fill_turn 0 x) l) ≡ replicate k x
unfolding fill_turn filled
fill_front zero x l h = refl
fill_front (suc k) x l h =
    let before = loop 0 k (fill_turn 0 x) l in
    let long : length before ≡ length l = filled_long (length l) 0 k x l refl in
    let turn : loop 0 (suc k) (fill_turn 0 x) l ≡ set before k x = rw (add-one, zero-add) at (loop_more 0 k (fill_turn 0 x) l (omega arith)) in
    rw turn (take-suc-set before k x (omega arith))
    ∙ ap (λ (t : List Float). t ++ (x ∷ [])) (fill_front k x l (omega arith))
    ∙ rw add-one at (replicate-append-replicate k 1 x)

filled_whole : (m : ℕ) (x : Float) (l : List Float) → length l ≡ m → filled 0 m x l ≡ replicate m x
unfolding filled
filled_whole m x l h = sym (take_all m _ (omega (arith, filled_long m 0 m x l h))) ∙ fill_front m x l (omega arith)

-- so the workspace of a beginning depends on nothing that stood there
begin_overwrites : (n : ℕ) (y0 : List Float) (r : Tolerance) (rs : List Float) (a : Tolerance) (als ws ws' : List Float)
    → length ws ≡ need n → length ws' ≡ need n
    → begin_ws n y0 r rs a als ws ≡ begin_ws n y0 r rs a als ws'
unfolding begin_ws
begin_overwrites n y0 r rs a als ws ws' h h' = rw (filled_whole (need n) +0 ws h, filled_whole (need n) +0 ws' h')

module _ (c : Configuration) where
  abbrev n : ℕ
  n = length c.y0

  begin_checks_alike : (ws ws' q q' : List Float) → need n ≤ length ws → need n ≤ length ws' → Alike n q q'
      → beginning_checked c ws q ≡ beginning_checked c ws' q'
  unfolding checked
  begin_checks_alike ws ws' q q' h h' e = rw (le-ltb (length ws) (need n) h, le-ltb (length ws') (need n) h', e)

  passed_agrees : (ws ws' q q' : List Float) → need n ≤ length ws → need n ≤ length ws' → 8 * n ≤ length q → 8 * n ≤ length q'
      → Agree (beginning_passed c ws q) (beginning_passed c ws' q')
  unfolding begin_run ask_first
  passed_agrees ws ws' q q' h h' k k' =
      let exact = length-take-le (need n) ws h in
      let exact' = length-take-le (need n) ws' h' in
      let s = ask_first_speaks c.settings c.x0 c.xend c.y0 c.rtol c.rtols c.atol c.atols (take (need n) ws) exact in
      let same = begin_overwrites n c.y0 c.rtol c.rtols c.atol c.atols (take (need n) ws) (take (need n) ws') exact exact' in
      rw (← same) (stage_agrees (drop (need n) ws) (drop (need n) ws') q q' s k k')

  begin_turn_agrees : (k : Result ⊤ Refusal) (ws ws' q q' : List Float) → beginning_checked c ws q ≡ k → beginning_checked c ws' q' ≡ k
      → Agree (beginning_turn c k ws q) (beginning_turn c k ws' q')
  begin_turn_agrees (Err why) ws ws' q q' e e' = record { turns = refl; room = omega arith; room' = omega arith; places = refl; questions = refl }
  begin_turn_agrees (Ok tt) ws ws' q q' e e' =
      let passed = cleared _ n _ _ _ _ _ (length ws) (length q) e in
      let passed' = cleared _ n _ _ _ _ _ (length ws') (length q') e' in
      passed_agrees ws ws' q q' passed.works passed'.works passed.asks passed'.asks

  pub begin_agrees : (ws ws' q q' : List Float) → need n ≤ length ws → need n ≤ length ws' → Alike n q q'
      → Agree (beginning c ws q) (beginning c ws' q')
  unfolding begin_of
  begin_agrees ws ws' q q' h h' e =
      let alike = begin_checks_alike ws ws' q q' h h' e in
      both_ways (ltb max_n n)
      (λ _. record { turns = refl; room = omega arith; room' = omega arith; places = refl; questions = refl })
      (λ _. both_ways (eqb n 0)
      (λ _. record { turns = refl; room = omega arith; room' = omega arith; places = refl; questions = refl })
      (λ _. rw (← alike) (begin_turn_agrees _ ws ws' q q' refl (sym alike))))
