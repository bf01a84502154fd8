-- A state that a run returns is never damaged, one that has ended included. So a caller who replies in kind, with slices that
-- are long enough, meets no refusal before the end; and after it number 10, whatever is handed over. What is in kind, the last
-- answer says: the state waits for what it asks for.
use Rattle.std.specs.Prelude.{◌≡◌, refl, List, ◌∷◌, true, ℕ, ◌*◌, ◌≤◌, length, Float, Some, None, Result, ⊤}
use Rattle.std.proofs.Math.Path.{sym, subst}
use Rattle.std.proofs.Common.{ap, ◌∙◌, arith}
use Rattle.std.proofs.Math.Bool.{false}
use Rattle.rules.specs.Types.{Answer, Derivative, Jacobian, Start, Step, End, Refused, Reply, Run, Turn, HasEnded, Ended, Refusal}
use Rattle.rules.specs.Places.{need}
use Rattle.rules.specs.State.{After, after}
use Rattle.rules.specs.Replies.{is_ended, wants, asks_for, Awaits}
use Rattle.rules.specs.Refusals.{number_of}
use Rattle.rules.specs.Begin.{nothing, ask_first, begin_run}
use Rattle.rules.specs.GoOn.{damaged, go_on_of}
use Rattle.rules.proofs.laws.GoOnLaws.{suited_passes, ended_refuses}
use Rattle.rules.specs.Answers.{is_end, is_refused}
use Rattle.rules.specs.Calls.{Configuration, beginning, Call, going_on, going_on_turn}
use Rattle.rules.proofs.laws.CallLaws.{beginning_cases, going_on_cases}
use Rattle.rules.proofs.promises.RefusalLaws.{passed_says, passed_answers, refused_call, refused_beginning}
use Rattle.rules.specs.History.{begun, called, Exchange, begins, goes_on, is_refused_call}
use Rattle.rules.proofs.laws.ExchangeLaws.{Kept, idle, works, exchange_kept}
use Rattle.rules.proofs.laws.SoundLaws.{nothing_undamaged, kept_undamaged}

pub never_damaged : {c : Configuration} {run : Run} {h : List Answer} → Exchange c run h → damaged run.awaited run.at ≡ false
never_damaged x = kept_undamaged (exchange_kept x)

-- a run has ended just where its last answer was the end
pub ended_is_told : {c : Configuration} {run : Run} {a : Answer} {h : List Answer} → Exchange c run (a ∷ h) → is_end a ≡ is_ended run.awaited
ended_is_told x = told (exchange_kept x)
  where
    told : {c : Configuration} {run : Run} {a : Answer} {h : List Answer} → Kept c run (a ∷ h) → is_end a ≡ is_ended run.awaited
    told (idle none) = refl
    told (works s i t) = t.ended

-- ---- what an answer asks for

-- the answer names what is awaited: the state returned with it waits for what it asks for
abbrev NamesAwaited : After Turn → Type 0
NamesAwaited g = Awaits g.is.run.at.n g.is.answer g.is.run.awaited

beginning_names : (c : Configuration) (ws q : List Float) → NamesAwaited (beginning c ws q)
unfolding begin_run ask_first
beginning_names c ws q = beginning_cases NamesAwaited c ws q (λ why. tt) (λ none. refl) (λ some few e r. refl)

-- whatever state is handed over, forged ones among it
call_names : (run : Run) (call : Call) → NamesAwaited (going_on run call)
call_names run call =
    going_on_cases NamesAwaited run call (λ why. tt) (λ e. let s = passed_says run call e in rw s.1 s.3)

-- so the last answer does in every exchange, also after calls that were refused
pub asked_in_kind :
    {c : Configuration} {run : Run} {a : Answer} {h : List Answer} → Exchange c run (a ∷ h) → Awaits run.at.n a run.awaited
asked_in_kind {c} (begins ws q e) = beginning_names c ws q
asked_in_kind (goes_on {run = run} x call e) = call_names run call
asked_in_kind {a = a} (is_refused_call {run = run} x call e) =
    let same = ap (λ (g : After Turn). g.is.run) (refused_call run call e) in
    subst (λ (r : Run). Awaits r.at.n a r.awaited) (sym same) (asked_in_kind x)

-- ---- what a caller meets

-- a call that replies in kind, with values enough and slices that are long enough
pub record Suits (run : Run) (call : Call) : Type 0 where
  pub count : ℕ
  pub kind : wants run.at.n run.awaited call.reply ≡ Some count
  pub enough : count ≤ length call.values
  pub works : need run.at.n ≤ length call.ws
  pub asks : 8 * run.at.n ≤ length call.q

unsuited : {k : ℕ} → None ≡ Some k → ⊥
unsuited e = let z : ◌≡◌ {A = ℕ} 0 1 = cc in absurd (omega arith)

-- a call that replies in kind to an answer of a run of n components: to a question all the values that it asks for, to a notice
-- continue, interrupt, or modified with a state
pub record RepliesTo (n : ℕ) (a : Answer) (call : Call) : Type 0 where
  pub count : ℕ
  pub kind : asks_for n a call.reply ≡ Some count
  pub enough : count ≤ length call.values

module _ {run : Run} {call : Call} (works : need run.at.n ≤ length call.ws) (asks : 8 * run.at.n ≤ length call.q) where
  kind_suits :
      {a : Answer} → ((r : Reply) → wants run.at.n run.awaited r ≡ asks_for run.at.n a r) → RepliesTo run.at.n a call →
      Suits run call
  kind_suits waits r =
      record { count = r.count; kind = waits call.reply ∙ r.kind; enough = r.enough; works = works; asks = asks }

  reply_suits : (a : Answer) → Awaits run.at.n a run.awaited → RepliesTo run.at.n a call → Suits run call
  reply_suits (Derivative x) waits r = kind_suits waits r
  reply_suits (Jacobian x) waits r = kind_suits waits r
  reply_suits (Start x) waits r = kind_suits waits r
  reply_suits (Step old new start h) waits r = kind_suits waits r
  reply_suits (End status h) waits r = absurd (unsuited r.kind)
  reply_suits (Refused why) waits r = absurd (unsuited r.kind)

-- what is replied to is no end
no_end : {n : ℕ} {call : Call} (a : Answer) → RepliesTo n a call → is_end a ≡ false
no_end (Derivative x) r = refl
no_end (Jacobian x) r = refl
no_end (Start x) r = refl
no_end (Step old new start h) r = refl
no_end (End status h) r = absurd (unsuited r.kind)
no_end (Refused why) r = refl

-- refused with HasEnded, and all that was handed over comes back as it was
abbrev pub ToldItEnded : Run → Call → Type 0
ToldItEnded run call = going_on run call ≡ after (record { answer = Refused HasEnded; run = run }) call.ws call.q

-- its number
pub number_10 : number_of HasEnded ≡ 10
unfolding number_of
number_10 = refl

told_it_ended : (run : Run) (call : Call) → damaged run.awaited run.at ≡ false → is_ended run.awaited ≡ true → ToldItEnded run call
unfolding go_on_of
told_it_ended run call whole over =
    rw (ended_refuses run.awaited run.at call.reply (length call.values) (length call.ws) (length call.q) whole over)

module _ {c : Configuration} {run : Run} {a : Answer} {h : List Answer} (x : Exchange c run (a ∷ h)) (call : Call) where
  -- before the end, no refusal
  pub no_refusal : is_end a ≡ false → Suits run call → is_refused (called run call).answer ≡ false
  unfolding go_on_of
  no_refusal before s =
      let going : is_ended run.awaited ≡ false = sym (ended_is_told x) ∙ before in
      let passes = suited_passes run.awaited run.at call.reply _ _ _ (never_damaged x) going s.kind s.works s.asks s.enough in
      subst (λ (k : Result ⊤ Refusal). is_refused (going_on_turn run call k).is.answer ≡ false) (sym passes)
      (passed_answers run call passes)

  -- a call that replies in kind to the answer told suits, and is not refused
  module _ (r : RepliesTo run.at.n a call) (works : need run.at.n ≤ length call.ws) (asks : 8 * run.at.n ≤ length call.q) where
    pub in_kind_suits : Suits run call
    in_kind_suits = reply_suits works asks a (asked_in_kind x) r

    pub in_kind_is_taken : is_refused (called run call).answer ≡ false
    in_kind_is_taken = no_refusal (no_end a r) in_kind_suits

  -- after the end, exactly number 10
  pub refused_after_the_end : is_end a ≡ true → ToldItEnded run call
  refused_after_the_end over = told_it_ended run call (never_damaged x) (sym (ended_is_told x) ∙ over)

-- ---- a beginning that is refused hands back a state that has ended too

pub refused_after_no_beginning :
    (c : Configuration) (ws q : List Float) (call : Call) → is_refused (begun c ws q).answer ≡ true → ToldItEnded (begun c ws q).run call
refused_after_no_beginning c ws q call e =
    let over = ap (λ (g : After Turn). g.is.run) (refused_beginning c ws q e) in
    subst (λ (run : Run). ToldItEnded run call) (sym over) (told_it_ended (record { awaited = Ended; at = nothing }) call nothing_undamaged refl)
