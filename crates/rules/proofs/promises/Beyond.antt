-- What a call leaves alone, of any state and any slices: the workspace beyond the needed places, and the question slice beyond the
-- places that the answer wrote. An end and a refusal write nothing there.
use Rattle.std.specs.Prelude.{◌≡◌, refl, List, ◌++◌, ℕ, ◌*◌, ◌≤◌, length, take, drop, Float}
use Rattle.std.proofs.Common.{ap, ◌∙◌, length-take-le, drop_at}
use Rattle.rules.specs.Types.{Run, Turn}
use Rattle.rules.specs.Answers.{written}
use Rattle.rules.specs.Places.{need}
use Rattle.rules.specs.State.{After, after}
use Rattle.rules.proofs.laws.CheckLaws.{cleared}
use Rattle.rules.specs.Begin.{begin_run}
use Rattle.rules.specs.GoOn.{go_within}
use Rattle.rules.proofs.laws.GoOnLaws.{handed}
use Rattle.rules.proofs.laws.QuestionLaws.{Speaks, Says}
use Rattle.rules.proofs.laws.SpeakLaws.{replied_speaks, ask_first_speaks}
use Rattle.rules.specs.Calls.{Configuration, beginning, Call, going_on}
use Rattle.rules.proofs.laws.CallLaws.{beginning_cases, going_on_cases}

-- g is what a call for n components left of ws and q
pub record Spares (n : ℕ) (ws q : List Float) (g : After Turn) : Type 0 where
  pub beyond : drop (need n) g.ws ≡ drop (need n) ws
  pub rest : drop (written n g.is.answer) g.q ≡ drop (written n g.is.answer) q

stage_spares : {n : ℕ} {f : List Float → After Turn} (ws q : List Float) → Speaks (Says n) n f → 8 * n ≤ length q
    → Spares n ws q (after (f q).is ((f q).ws ++ drop (need n) ws) (f q).q)
stage_spares {n} ws q s h =
    let counted = s.fits.0 in
    rw (s.says q h)
    (record { beyond = drop_at s.ws _ _ s.long; rest = drop_at s.asked _ _ counted ∙ ap (λ (k : ℕ). drop k q) counted })

-- ---- going on and beginning

pub go_on_spares : (run : Run) (call : Call) → Spares run.at.n call.ws call.q (going_on run call)
unfolding go_within
go_on_spares run call =
    let n = run.at.n in
    going_on_cases (Spares n call.ws call.q) run call
    (λ why. record { beyond = refl; rest = refl })
    (λ e. let passed = handed run.awaited run.at call.reply call.values call.ws call.q e in
    let exact = length-take-le (need n) call.ws passed.works in
    let s = replied_speaks run.at call.values (take (need n) call.ws) exact run.awaited call.reply in
    stage_spares call.ws call.q s passed.ready.asks)

pub begin_spares : (c : Configuration) (ws q : List Float) → Spares (length c.y0) ws q (beginning c ws q)
unfolding begin_run
begin_spares c ws q =
    let n = length c.y0 in
    beginning_cases (Spares n ws q) c ws q
    (λ why. record { beyond = refl; rest = refl })
    (λ none. record { beyond = refl; rest = refl })
    (λ some few e. let passed = cleared _ n _ _ _ _ _ (length ws) (length q) e in
    let exact = length-take-le (need n) ws passed.works in
    let s = ask_first_speaks c.settings c.x0 c.xend c.y0 c.rtol c.rtols c.atol c.atols (take (need n) ws) exact in
    stage_spares ws q s passed.asks)
