-- What a form has that is accepted, test by test of `judged_of`, and back.
use Rattle.std.specs.Prelude.{◌≡◌, refl, true, ℕ, ◌≤◌, ltb, Result, Ok, Err, ⊤}
use Rattle.std.proofs.Math.Path.{ap}
use Rattle.std.proofs.Common.{◌∙◌}
use borrow.Author.Tests.{le-ltb, ltb-false}
use Rattle.rules.specs.declared.types.Refusal.{Refusal}
use Rattle.loops.specs.Refusal.{Outcome, gives}
use Rattle.loops.specs.laws.ChoiceLaws.{either, when_true, when_false}
use Rattle.job.specs.declared.form.Form.{Form}
use Rattle.job.specs.Types.{max_n}
use Rattle.job.specs.Packed.{length_for}
use Rattle.job.specs.Reading.{job_of}
use Rattle.job.specs.laws.ReadingLaws.{refuses_nothing}
use Rattle.job.specs.Writing.{fits_of, begins_of, begun_of, judged_of}

pub record Accepted (f : Form) (places cells : ℕ) : Type 0 where
  pub few : f.n ≤ max_n
  pub fits : fits_of f places cells ≡ true
  pub begins : begins_of (job_of f) ≡ Ok tt

begun_passes : (long k : ℕ) (check : Result ⊤ Refusal) → begun_of long check ≡ gives k → (check ≡ Ok tt) × (k ≡ long)
begun_passes long k (Ok tt) e = (refl, cc)
begun_passes long k (Err why) e = refuses_nothing e

module _ (f : Form) (places cells : ℕ) where
  -- what an outcome of `judged_of` says where it gives a length
  abbrev Says : Outcome ℕ → Type 0
  Says r = (k : ℕ) → r ≡ gives k → Accepted f places cells × (k ≡ length_for f.n)

  pub judged_accepts : Says (judged_of f places cells)
  unfolding judged_of
  judged_accepts =
      either Says (ltb max_n f.n) (λ _ k e. refuses_nothing e)
      (λ served. either Says (fits_of f places cells)
      (λ fits k e. let passes = begun_passes _ k (begins_of (job_of f)) e in
      (record { few = ltb-false _ _ served; fits = fits; begins = passes.0 }, passes.1))
      (λ _ k e. refuses_nothing e))

  pub accepted_judged : Accepted f places cells → judged_of f places cells ≡ gives (length_for f.n)
  unfolding judged_of
  accepted_judged h = when_false _ _ (le-ltb _ _ h.few) ∙ when_true _ _ h.fits ∙ ap (begun_of (length_for f.n)) h.begins
