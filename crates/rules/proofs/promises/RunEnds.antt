-- A run ends. Whatever is replied, no exchange has more questions and notices than the demand's figure with T and A at the step
-- limit; and from any state of an exchange, a row of calls that each reply in kind reaches the end within that many of them.
use Rattle.std.specs.Prelude.{◌≡◌, refl, List, ◌∷◌, Bool, true, false, ◌⊎◌, ℕ, zero, suc, ◌+◌, ◌*◌, ◌≤◌}
use Rattle.std.proofs.Common.{sym, ◌∙◌, inl, inr, mul-le-mul, arith}
use Rattle.rules.specs.Types.{Answer, Run}
use Rattle.rules.specs.Replies.{is_ended}
use Rattle.rules.specs.Answers.{is_end, is_refused}
use Rattle.rules.specs.Calls.{Configuration, Call}
use Rattle.rules.specs.History.{called, Exchange, goes_on, questions_and_notices}
use Rattle.rules.specs.Bounds.{m, most}
use Rattle.rules.proofs.laws.HistoryLaws.{is_asked, last_taken, automatic_once, all_told}
use Rattle.rules.proofs.laws.ExchangeLaws.{Kept, idle, works, exchange_kept}
use Rattle.rules.proofs.promises.NeverDamaged.{Suits, ended_is_told, no_refusal}

-- ---- the statements

-- the state after the first k of a row of calls
abbrev pub after_calls : Run → (ℕ → Call) → ℕ → Run
after_calls run calls zero = run
after_calls run calls (suc k) = (called (after_calls run calls k) (calls k)).run

-- each call up to the end replies in kind, with slices that are long enough: nothing is said of what the values are
abbrev pub InKind : Run → (ℕ → Call) → Type 0
InKind run calls = (k : ℕ) → is_ended (after_calls run calls k).awaited ≡ false → Suits (after_calls run calls k) (calls k)

-- after so many calls, at most `limit`, the last answer is the end
pub record Reaches (c : Configuration) (run : Run) (calls : ℕ → Call) (limit : ℕ) : Type 0 where
  pub made : ℕ
  pub few : made ≤ limit
  pub last : Answer
  pub before : List Answer
  pub exchange : Exchange c (after_calls run calls made) (last ∷ before)
  pub ended : is_end last ≡ true

-- ---- no exchange goes on for longer

few_told : {c : Configuration} {run : Run} {h : List Answer} → Kept c run h → questions_and_notices h ≤ most c
few_told (idle none) = omega arith
few_told {c} {run} {h} (works s i t) =
    let p = run.at in
    let once = automatic_once c h in
    let told = all_told h in
    let limit = c.settings.max_steps in
    let product : p.limits.newton * p.steps.total ≤ m c * limit = mul-le-mul (omega arith) (omega arith) in
    omega arith

-- whatever is replied
pub no_longer : {c : Configuration} {run : Run} {h : List Answer} → Exchange c run h → questions_and_notices h ≤ most c
no_longer x = few_told (exchange_kept x)

-- ---- every row of calls reaches the end

-- after i calls the run still asks, and has asked more than i times
record Asks (c : Configuration) (run : Run) (calls : ℕ → Call) (i : ℕ) : Type 0 where
  last : Answer
  before : List Answer
  exchange : Exchange c (after_calls run calls i) (last ∷ before)
  going : is_end last ≡ false
  many : i + 1 ≤ questions_and_notices (last ∷ before)

module _ {c : Configuration} {run : Run} (calls : ℕ → Call) where
  -- the answer to the i-th call is the end, or the run still asks
  sorted :
      (i : ℕ) (b : Bool) {a : Answer} {h : List Answer} → is_end a ≡ b → is_refused a ≡ false → i ≤ questions_and_notices h →
      Exchange c (after_calls run calls i) (a ∷ h) → Reaches c run calls i ⊎ Asks c run calls i
  sorted i true {a} {h} e f many x = inl (record { made = i; few = omega arith; last = a; before = h; exchange = x; ended = e })
  sorted i false {a} {h} e f many x =
      let one_more = is_asked a h e f in inr (record { last = a; before = h; exchange = x; going = e; many = omega arith })

at_first :
    {c : Configuration} {run : Run} {h : List Answer} (calls : ℕ → Call) → Kept c run h → Exchange c run h →
    Reaches c run calls 0 ⊎ Asks c run calls 0
at_first calls (idle none) x = sorted calls 0 true refl refl (omega arith) x
at_first calls (works {a = a} s i t) x = sorted calls 0 (is_end a) refl (last_taken x) (omega arith) x

module _ {c : Configuration} {run : Run} (calls : ℕ → Call) (kind : InKind run calls) where
  another_call : (i : ℕ) → Reaches c run calls i ⊎ Asks c run calls i → Reaches c run calls (suc i) ⊎ Asks c run calls (suc i)
  another_call i (inl r) =
      inl (record { made = r.made; few = omega (arith, r.few); last = r.last; before = r.before; exchange = r.exchange; ended = r.ended })
  another_call i (inr g) =
      let now = after_calls run calls i in
      let suits = kind i (sym (ended_is_told g.exchange) ∙ g.going) in
      let taken = no_refusal g.exchange (calls i) g.going suits in
      sorted calls (suc i) (is_end (called now (calls i)).answer) refl taken (omega (arith, g.many)) (goes_on g.exchange (calls i) taken)

  reached : {h : List Answer} → Exchange c run h → (i : ℕ) → Reaches c run calls i ⊎ Asks c run calls i
  reached x zero = at_first calls (exchange_kept x) x
  reached x (suc i) = another_call i (reached x i)

-- as many calls as an exchange has questions and notices at most are enough: one that still asks after them would have more
enough_calls :
    {c : Configuration} {run : Run} {calls : ℕ → Call} → Reaches c run calls (most c) ⊎ Asks c run calls (most c) →
    Reaches c run calls (most c)
enough_calls (inl r) = r
enough_calls (inr g) = absurd (omega (arith, g.many, no_longer g.exchange))

-- from any state of an exchange, whatever the replies say
pub run_ends :
    {c : Configuration} {run : Run} {h : List Answer} → Exchange c run h → (calls : ℕ → Call) → InKind run calls →
    Reaches c run calls (most c)
run_ends {c} x calls kind = enough_calls (reached calls kind x (most c))
