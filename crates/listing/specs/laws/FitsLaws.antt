-- The row of a run's answers, as far as the pages need to know it: how many answers it has at most, and that each has a line of at
-- most `ample` bytes. A run that began has at most `most` questions and notices, which its limits keep small.
use Rattle.std.specs.Prelude.{◌≡◌, refl, Bool, true, false, List, [], ◌∷◌, ◌++◌, ℕ, zero, suc, ◌+◌, ◌*◌, ◌≤◌, length, Float}
use Rattle.std.proofs.Common.{sym, true≢false, mul-le-mul, arith}
use Rattle.matrix.specs.Size.{max_n}
use Rattle.rules.specs.Answers.{is_refused, is_question_or_notice}
use Rattle.rules.specs.State.{After}
use Rattle.rules.specs.Calls.{Configuration, beginning}
use Rattle.rules.specs.History.{questions_and_notices}
use Rattle.rules.proofs.laws.CheckLaws.{Bounded}
use Rattle.rules.proofs.laws.ExchangeLaws.{Kept, idle, works, exchange_kept}
use Rattle.rules.proofs.laws.GoOnLaws.{few_undamaged}
use Rattle.rules.specs.Bounds.{m}
use Rattle.rules.proofs.promises.NeverDamaged.{never_damaged}
use Rattle.rules.specs.Bounds.{most}
use Rattle.rules.proofs.promises.RunEnds.{no_longer}
use Rattle.listing.specs.Types.{Answer, Derivative, Jacobian, Start, Step, End, Refused, Run, Turn}
use Rattle.listing.specs.Replies.{replied}
use Rattle.listing.specs.Printed.{line_of, blank_work, blank_question}
use Rattle.listing.specs.Pages.{enough}
use Rattle.listing.specs.laws.ShortLaws.{ample, line_short}
use Rattle.listing.specs.laws.TellingLaws.{Come, come_on, come_to_begin}

-- from g on at most k answers come, and a page of `ample` bytes has room for the line of each; for the last one's it always has
pub data Fits (a : List Float) : ℕ → After Turn → Type 0 where
  fits_last : {k : ℕ} {g : After Turn} → is_question_or_notice g.is.answer ≡ false → Fits a (suc k) g
  fits_more : {k : ℕ} {g : After Turn} → is_question_or_notice g.is.answer ≡ true → length (line_of g) ≤ ample → Fits a k (replied a g) → Fits a (suc k) g

-- a number of answers that one page can come through
abbrev pub Fitting : List Float → After Turn → Type 0
Fitting a g = (k : ℕ) × (k ≤ enough) × Fits a k g

-- ---- a run that began

module _ {c : Configuration} (a : List Float) (wide : length a ≡ max_n * max_n) where
  -- k answers more are as many as an exchange can still have
  come_fits :
      (k : ℕ) (g : After Turn) (before : List ℕ) (past : List Answer) → Come c a g before past → most c ≤ questions_and_notices past + k →
      Fits a (suc k) g
  come_fits zero g before past come few = by_test _ refl
    where
      by_test : (b : Bool) → is_question_or_notice g.is.answer ≡ b → Fits a 1 g
      by_test true e = let counted = rw e at (no_longer come.exchange) in absurd (omega arith)
      by_test false e = fits_last e
  come_fits (suc k) g before past come few =
      by_test (λ e. let longer : questions_and_notices (g.is.answer ∷ past) ≡ 1 + questions_and_notices past = rw e in
      come_fits k (replied a g) (before ++ line_of g) (g.is.answer ∷ past) (come_on a wide g before past come e) (omega arith)) _ refl
    where
      by_test :
          (is_question_or_notice g.is.answer ≡ true → Fits a (suc k) (replied a g)) → (b : Bool) → is_question_or_notice g.is.answer ≡ b →
          Fits a (suc (suc k)) g
      by_test rest true e =
          let run = g.is.run in
          fits_more e (line_short g e (few_undamaged run.awaited run.at (never_damaged come.exchange))) (rest e)
      by_test rest false e = fits_last e

-- what is asked for or told is no refusal
no_refusal : (answer : Answer) → is_question_or_notice answer ≡ true → is_refused answer ≡ false
no_refusal (Derivative x) e = refl
no_refusal (Jacobian x) e = refl
no_refusal (Start x) e = refl
no_refusal (Step old new start h) e = refl
no_refusal (End status h) e = refl
no_refusal (Refused why) e = absurd (true≢false (sym e))

-- a run that asks has limits that were accepted
asking_bounded :
    {c : Configuration} {run : Run} {answer : Answer} {past : List Answer} → Kept c run (answer ∷ past) → is_question_or_notice answer ≡ true →
    Bounded c.settings
asking_bounded (idle none) e = absurd (true≢false (sym e))
asking_bounded (works s i t) e = s.bounded

-- so it has far fewer answers than a page can come through
most_enough : (c : Configuration) → Bounded c.settings → suc (most c) ≤ enough
most_enough c b =
    let limit = c.settings.max_steps in
    let patience : m c + 1 ≤ 65 = omega (arith, b.patience) in
    let product : (m c + 1) * limit ≤ 65 * 1000000 = mul-le-mul patience b.patient in
    omega (arith, b.patient)

-- every beginning: it asks, or it ends or is refused at once
pub beginning_fits : (c : Configuration) (a : List Float) → length a ≡ max_n * max_n → Fitting a (beginning c blank_work blank_question)
beginning_fits c a wide = by_test _ refl
  where
    by_test : (b : Bool) → is_question_or_notice (beginning c blank_work blank_question).is.answer ≡ b → Fitting a (beginning c blank_work blank_question)
    by_test true e =
        let g = beginning c blank_work blank_question in
        let come = come_to_begin {c = c} a wide (no_refusal g.is.answer e) in
        let few = most_enough c (asking_bounded (exchange_kept come.exchange) e) in
        (suc (most c), few, come_fits a wide (most c) g [] [] come (omega arith))
    by_test false e = (1, omega arith, fits_last e)
