-- Over whole exchanges, by induction over the calls: the state's x is the one that the caller knows, and so is the workspace's y
-- where the caller left it alone; and the last answer has its reason. Each call leads there (`EndLaws`), a refused call changes
-- nothing, and a beginning puts x0 and y0.
use Rattle.std.specs.Prelude.{◌≡◌, refl, List, [], ◌∷◌, ◌++◌, true, false, ◌⊎◌, ℕ, ◌+◌, ◌≤◌, drop, Float, Ok}
use Rattle.std.proofs.Common.{sym, ◌∙◌, subst, true≢false, inl, inr, arith, length-take, length-drop, take-append-drop, take_all}
use Rattle.std.proofs.Math.Path.{ap}
use Rattle.std.proofs.lemmas.Bool.{false≢true}
use Rattle.std.proofs.Math.Nat.{min-le_right}
use Rattle.std.proofs.Math.ListN.{length, take}
use Rattle.std.proofs.Math.Seq.{length-take-le}
use Rattle.std.proofs.lemmas.List.{take-append-le, drop-append-le}
use Rattle.loops.specs.Part.{part}
use Rattle.loops.specs.Arithmetic.{+0}
use Rattle.rules.specs.Types.{Turn, Run, Answer, Derivative, Jacobian, Start, Step, End, Refused, Reply, Values, Continue, Interrupt, Modified}
use Rattle.rules.specs.Places.{need, row, y, rtol, atol, vector}
use Rattle.rules.specs.Moves.{filled}
use Rattle.rules.specs.State.{After, after}
use Rattle.rules.specs.Replies.{is_ended}
use Rattle.rules.specs.Answers.{is_notice, is_refused}
use Rattle.rules.specs.Begin.{kept, begin_ws, ask_first, begin_run}
use Rattle.rules.specs.GoOn.{damaged, go_checked, go_within}
use Rattle.rules.specs.Calls.{Configuration, beginning, beginning_checked, beginning_passed, Call, going_on, going_on_checked, going_on_passed, Untouched}
use Rattle.rules.specs.History.{begun, called, Exchange, begins, goes_on, is_refused_call}
use Rattle.rules.specs.Known.{told_x, told_y, given_x, given_y, is_modified, known_x, known_y, last_told_x, last_told_y, StillAsTold, LastReply, leaves, LeftAlone}
use Rattle.rules.proofs.laws.AsideLaws.{tolerances_keep}
use Rattle.rules.proofs.laws.LengthLaws.{filled_long, begin_long}
use Rattle.rules.proofs.laws.PassedLaws.{passed_test, passed_rest}
use Rattle.rules.proofs.laws.CheckLaws.{cleared}
use Rattle.rules.proofs.laws.GoOnLaws.{handed}
use Rattle.rules.proofs.laws.CallLaws.{beginning_cases, going_on_cases}
use Rattle.rules.proofs.laws.SpeakLaws.{replied_speaks}
use Rattle.rules.proofs.laws.ExchangeLaws.{Kept, idle, works, exchange_kept}
use Rattle.rules.proofs.laws.YLaws.{y_survives}
use Rattle.rules.proofs.laws.ToldLaws.{loaded_is}
use Rattle.rules.specs.laws.Leading.{Holds, Meets, Because, Leads}
use Rattle.rules.proofs.laws.EndLaws.{replied_means}
use Rattle.rules.proofs.promises.RefusalLaws.{refused_call}

-- ---- y among the needed places

part_first : (a n : ℕ) (s t : List Float) → a + n ≤ length s → part a n (s ++ t) ≡ part a n s
part_first a n s t h =
    ap (take n) (drop-append-le a s t (omega arith)) ∙ take-append-le n (drop a s) t (rw (length-drop a s) (omega arith))

-- what lies beyond the needed places does not matter
y_first : (n : ℕ) (ws : List Float) → need n ≤ length ws → vector n (take (need n) ws) y ≡ vector n ws y
y_first n ws h =
    let exact = length-take-le (need n) ws h in
    sym (part_first (row n y) n (take (need n) ws) (drop (need n) ws) (omega arith)) ∙ ap (λ (l : List Float). vector n l y) (take-append-drop (need n) ws)

-- so two workspaces with the same needed places have the same y
y_same :
    (n : ℕ) (ws left : List Float) → need n ≤ length ws → take (need n) ws ≡ take (need n) left → vector n (take (need n) ws) y ≡ vector n left y
y_same n ws left h e =
    let exact = length-take-le (need n) ws h in
    let long : length (take (need n) left) ≤ length left = rw (length-take (need n) left) (min-le_right (need n) (length left)) in
    let same = ap length e in
    rw e (y_first n left (omega arith))

leads_beyond :
    {i : Type 0} {x : Float} {v : List Float} (t : After Turn) (rest : List Float) → length t.ws ≡ need t.is.run.at.n → Leads i x v t →
    Leads i x v (after t.is (t.ws ++ rest) t.q)
leads_beyond t rest long l =
    let n = t.is.run.at.n in
    let same = part_first (row n y) n t.ws rest (omega arith) in
    record { because = l.because; holds = record { place = l.holds.place; shows = same ∙ l.holds.shows } }

-- ---- a call

-- past the checks a run has not ended
passed_going : (run : Run) (call : Call) → going_on_checked run call ≡ Ok tt → is_ended run.awaited ≡ false
unfolding go_checked
passed_going run call e = passed_test (is_ended run.awaited) _ _ (passed_rest (damaged run.awaited run.at) _ _ e)

module _ (run : Run) (call : Call) (x : Float) (v : List Float) where
  abbrev n : ℕ
  n = run.at.n

  -- x and v as they are known after the call's reply
  abbrev Answered : After Turn → Type 0
  Answered t = Leads (call.reply ≡ Interrupt) (given_x call.reply x) (given_y n call.reply call.values v) t

  passed_means : Holds x v run.at (take (need n) call.ws) → going_on_checked run call ≡ Ok tt → Answered (going_on_passed run call)
  unfolding go_within
  passed_means h e =
      let good = handed run.awaited run.at call.reply call.values call.ws call.q e in
      let first = take (need n) call.ws in
      let exact = length-take-le (need n) call.ws good.works in
      let s = replied_speaks run.at call.values first exact run.awaited call.reply in
      let says = s.says call.q good.ready.asks in
      let size = ap (λ (g : After Turn). g.is.run.at.n) says ∙ s.fits.1 in
      let long = ap (λ (g : After Turn). length g.ws) says ∙ s.long in
      let meets : Meets x v run.at first call.q =
      record { within = good.ready.sane.counted; long = exact; asks = good.ready.asks; holds = h } in
      let leads =
      replied_means x v run.at call.values first call.q meets run.awaited call.reply (passed_going run call e) good.answered.suits
      good.answered.enough in
      leads_beyond _ (drop (need n) call.ws) (rw size long) leads

  call_means : Holds x v run.at (take (need n) call.ws) → is_refused (called run call).answer ≡ false → Answered (going_on run call)
  call_means h =
      going_on_cases (λ (g : After Turn). is_refused g.is.answer ≡ false → Answered g) run call
      (λ why r. absurd (true≢false r)) (λ e _. passed_means h e)

-- x, whatever workspace is handed over: its y is known to the call itself
call_place :
    (run : Run) (call : Call) (x : Float) → run.at.x ≡ x → is_refused (called run call).answer ≡ false →
    (called run call).run.at.x ≡ told_x (called run call).answer (given_x call.reply x)
call_place run call x e taken = (call_means run call x _ (record { place = e; shows = refl }) taken).holds.place

-- a refused call hands back the state
refused_run : (run : Run) (call : Call) → is_refused (called run call).answer ≡ true → (called run call).run ≡ run
refused_run run call e = ap (λ (g : After Turn). g.is.run) (refused_call run call e)

-- ---- the beginning

-- y0, then the tolerances beyond it
begun_shows :
    (c : Configuration) (ws : List Float) → let n = length c.y0 in
    length ws ≡ need n → vector n (begin_ws n c.y0 c.rtol c.rtols c.atol c.atols ws) y ≡ c.y0
unfolding begin_ws
begun_shows c ws long =
    let n = length c.y0 in
    let zeros = filled 0 (need n) +0 ws in
    let wide = filled_long (need n) 0 (need n) +0 ws long in
    let loads = loaded_is c.y0 n zeros (omega arith) (omega arith) ∙ take_all n c.y0 (omega arith) in
    let begins = y_survives n c.y0 in
    tolerances_keep begins c.atol c.atols (row n atol) _ (omega arith)
    (tolerances_keep begins c.rtol c.rtols (row n rtol) _ (omega arith) loads)

module _ (c : Configuration) where
  passed_begun : (ws q : List Float) → beginning_checked c ws q ≡ Ok tt → let g = beginning_passed c ws q in Holds c.x0 c.y0 g.is.run.at g.ws
  unfolding begin_run ask_first kept
  passed_begun ws q e =
      let n = length c.y0 in
      let exact = length-take-le (need n) ws (cleared _ n _ _ _ _ _ (length ws) (length q) e).works in
      let wide = begin_long (need n) n c.y0 c.rtol c.rtols c.atol c.atols (take (need n) ws) exact in
      let same = part_first (row n y) n (begin_ws n c.y0 c.rtol c.rtols c.atol c.atols (take (need n) ws)) (drop (need n) ws) (omega arith) in
      record { place = refl; shows = same ∙ begun_shows c (take (need n) ws) exact }

  -- what is to be shown of an answer that begins: x0 and y0 hold, and it is no end
  abbrev Begins : After Turn → Type 0
  Begins g =
      is_refused g.is.answer ≡ false → Holds c.x0 c.y0 g.is.run.at g.ws × Because ⊥ g.is.run.at g.is.answer

  begun_means : (ws q : List Float) → 1 ≤ length c.y0 → Begins (beginning c ws q)
  unfolding begin_run ask_first
  begun_means ws q some =
      beginning_cases Begins c ws q
      (λ why r. absurd (true≢false r)) (λ none _. absurd (omega arith)) (λ _ _ e _. (passed_begun ws q e, tt))

  -- it tells no notice
  begun_told : (ws q : List Float) (x : Float) → told_x (begun c ws q).answer x ≡ x
  unfolding begin_run ask_first
  begun_told ws q x = beginning_cases (λ (g : After Turn). told_x g.is.answer x ≡ x) c ws q (λ why. refl) (λ none. refl) (λ _ _ e. refl)

-- ---- where nothing was modified since the last notice, what is known is what it told

-- whatever was known before a notice
notice_forgets :
    (a : Answer) → is_notice a ≡ true →
    ((x z : Float) → told_x a x ≡ told_x a z) × ((n : ℕ) (q v u : List Float) → told_y n a q v ≡ told_y n a q u)
notice_forgets (Derivative x) e = absurd (false≢true e)
notice_forgets (Jacobian x) e = absurd (false≢true e)
notice_forgets (Start x) e = ((λ x z. refl), (λ n q v u. refl))
notice_forgets (Step old new start h) e = ((λ x z. refl), (λ n q v u. refl))
notice_forgets (End status h) e = absurd (false≢true e)
notice_forgets (Refused why) e = absurd (false≢true e)

unmodified :
    (r : Reply) → is_modified r ≡ false → ((x : Float) → given_x r x ≡ x) × ((n : ℕ) (values v : List Float) → given_y n r values v ≡ v)
unmodified Values e = ((λ x. refl), (λ n values v. refl))
unmodified Continue e = ((λ x. refl), (λ n values v. refl))
unmodified Interrupt e = ((λ x. refl), (λ n values v. refl))
unmodified (Modified z) e = absurd (true≢false e)

module _ (a : Answer) (r : Reply) where
  -- after the reply r and the answer a, where it was so before
  abbrev Still : Type 0 → Type 0
  Still before = (is_notice a ≡ true) ⊎ (before × (is_modified r ≡ false))

  still_x : {before : Type 0} (x z : Float) → Still before → (before → x ≡ z) → told_x a (given_x r x) ≡ told_x a z
  still_x x z (inl notice) same = (notice_forgets a notice).0 _ _
  still_x x z (inr (so, none)) same = ap (told_x a) ((unmodified r none).0 x ∙ same so)

  still_y :
      {before : Type 0} (n : ℕ) (values q v u : List Float) → Still before → (before → v ≡ u) →
      told_y n a q (given_y n r values v) ≡ told_y n a q u
  still_y n values q v u (inl notice) same = (notice_forgets a notice).1 n q _ _
  still_y n values q v u (inr (so, none)) same = ap (told_y n a q) ((unmodified r none).1 n values v ∙ same so)

pub known_x_is_told : {c : Configuration} {run : Run} {h : List Answer} (ex : Exchange c run h) → StillAsTold ex → known_x ex ≡ last_told_x h c.x0
known_x_is_told {c} (begins ws q e) still = sym (begun_told c ws q c.x0)
known_x_is_told (goes_on {run = run} ex call e) still =
    still_x (called run call).answer call.reply (known_x ex) _ still (λ before. known_x_is_told ex before)
known_x_is_told (is_refused_call ex call e) still = known_x_is_told ex still

pub known_y_is_told : {c : Configuration} {run : Run} {h : List Answer} (ex : Exchange c run h) → StillAsTold ex → known_y ex ≡ last_told_y ex
known_y_is_told (begins ws q e) still = refl
known_y_is_told {c} (goes_on {run = run} ex call e) still =
    still_y (called run call).answer call.reply (length c.y0) call.values (going_on run call).q (known_y ex) (last_told_y ex) still
    (λ before. known_y_is_told ex before)
known_y_is_told (is_refused_call ex call e) still = known_y_is_told ex still

-- ---- over the calls

-- the last answer has its reason
abbrev pub LastBecause : Type 0 → Run → List Answer → Type 0
LastBecause i run [] = Unit
LastBecause i run (a ∷ h) = Because i run.at a

module _ {c : Configuration} (some : 1 ≤ length c.y0) where
  pub because_kept : {run : Run} {h : List Answer} (ex : Exchange c run h) → LastBecause (LastReply ex Interrupt) run h
  because_kept (begins ws q e) = (begun_means c ws q some e).1
  because_kept (goes_on {run = run} ex call e) = (call_means run call _ _ (record { place = refl; shows = refl }) e).because
  because_kept (is_refused_call {run = run} {h = h} ex call e) =
      subst (λ (r : Run). LastBecause (LastReply ex Interrupt) r h) (sym (refused_run run call e)) (because_kept ex)

  pub place_kept : {run : Run} {h : List Answer} (ex : Exchange c run h) → run.at.x ≡ known_x ex
  place_kept (begins ws q e) = (begun_means c ws q some e).0.place
  place_kept (goes_on {run = run} ex call e) = call_place run call (known_x ex) (place_kept ex) e
  place_kept (is_refused_call {run = run} ex call e) = ap (λ (r : Run). r.at.x) (refused_run run call e) ∙ place_kept ex

  -- n is the configuration's
  size_kept : {run : Run} {h : List Answer} → Exchange c run h → run.at.n ≡ length c.y0
  size_kept ex = size (exchange_kept ex)
    where
      size : {run : Run} {h : List Answer} → Kept c run h → run.at.n ≡ length c.y0
      size (idle none) = absurd (omega arith)
      size (works s i t) = s.same_n

  left_run : {run : Run} {h : List Answer} (ex : Exchange c run h) → (leaves ex).is.run ≡ run
  left_run (begins ws q e) = refl
  left_run (goes_on ex call e) = refl
  left_run (is_refused_call ex call e) = refl

  -- the y that was left is the y that is handed back
  y_back :
      {run : Run} {h : List Answer} (ex : Exchange c run h) (ws : List Float) → Untouched (leaves ex) ws →
      vector run.at.n (take (need run.at.n) ws) y ≡ vector run.at.n (leaves ex).ws y
  y_back ex ws u =
      subst (λ (r : Run). vector r.at.n (take (need r.at.n) ws) y ≡ vector r.at.n (leaves ex).ws y) (left_run ex)
      (y_same (leaves ex).is.run.at.n ws (leaves ex).ws u.0 u.1)

  y_kept : {run : Run} {h : List Answer} (ex : Exchange c run h) → LeftAlone ex → vector run.at.n (leaves ex).ws y ≡ known_y ex
  y_kept (begins ws q e) alone = (begun_means c ws q some e).0.shows
  y_kept (goes_on {run = run} ex call e) alone =
      let g = going_on run call in
      let back : Holds (known_x ex) (known_y ex) run.at (take (need run.at.n) call.ws) =
      record { place = place_kept ex; shows = y_back ex call.ws alone.1 ∙ y_kept ex alone.0 } in
      (call_means run call (known_x ex) (known_y ex) back e).holds.shows
      ∙ ap (λ (n : ℕ). told_y n g.is.answer g.q (given_y run.at.n call.reply call.values (known_y ex))) (size_kept (goes_on ex call e))
      ∙ ap (λ (n : ℕ). told_y (length c.y0) g.is.answer g.q (given_y n call.reply call.values (known_y ex))) (size_kept ex)
  y_kept (is_refused_call {run = run} ex call e) alone =
      let n = run.at.n in
      let back : vector n (take (need n) call.ws) y ≡ known_y ex = y_back ex call.ws alone.1 ∙ y_kept ex alone.0 in
      let long : need n ≤ length call.ws = subst (λ (r : Run). need r.at.n ≤ length call.ws) (left_run ex) alone.1.0 in
      subst (λ (g : After Turn). vector g.is.run.at.n g.ws y ≡ known_y ex) (sym (refused_call run call e))
      (sym (y_first n call.ws long) ∙ back)

  pub values_kept : {run : Run} {h : List Answer} (ex : Exchange c run h) → LeftAlone ex → vector (length c.y0) (leaves ex).ws y ≡ known_y ex
  values_kept ex alone = subst (λ (n : ℕ). vector n (leaves ex).ws y ≡ known_y ex) (size_kept ex) (y_kept ex alone)
