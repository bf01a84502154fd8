-- `writer::begun` meets its contract: the code's tests are those that the beginning's checks come to (`begun_by_tests`), in their order.
-- Assumes nothing.
use mathlib.Core.Path.{◌≡◌, refl, sym, ◌∙◌}
use mathlib.Core.Bool.{Bool, true, false, not, ◌||◌}
use Prim.Native.Nat.{ℕ, zero, suc, ◌<◌, ◌≤◌}
use native.Mathlib.Omega.{arith}
use lib.Dec.{ltb}
use lib.Ieee
use lib.Ieee.{Float}
use borrow.Author.Tests.{eq-eqb, ne_eqb, lt-ltb, le-ltb}
use Rattle.loops.specs.Arithmetic.{+0}
use Rattle.loops.specs.Refusal.{Outcome, gives, refuses}
use Rattle.loops.specs.laws.ChoiceLaws.{when_true, when_false}
use Rattle.job.specs.declared.form.Form.{Form}
use Rattle.job.specs.Packed.{value_of}
use Rattle.job.specs.Reading.{job_of}
use Rattle.job.specs.Writing.{begins_of, begun_of}
use Rattle.job.specs.laws.BeginLaws.{begun_of_nothing, begun_by_tests}
use Rattle.job.proofs.writer.begun.Goals as goal
use Rattle.job.proofs.writer.begun.Goals.{then-double-via-then-double, then-double-via-else-double+then-double-2, then-f-gt1000000-via-then-f-gt1000000, then-f-gt1000000-via-else-f-gt1000000+then-f-gt64, else-not-f-via-then-not-f+else-double-3, else-not-f-via-else-not-f}

not_set : {b : Bool} → not b ≡ true → b ≡ false
not_set {b = true} e = sym e
not_set {b = false} e = refl

set : {b : Bool} → not b ≡ false → b ≡ true
set {b = true} e = refl
set {b = false} e = sym e

positive : (n : ℕ) → (n ≡ 0 → ⊥) → 0 < n
positive zero h = absurd (h (omega arith))
positive (suc n) h = omega arith

-- the answer that a way gives is that of the checks
abbrev Answers : Form → ℕ → Outcome ℕ → Type 0
Answers f long r = r ≡ begun_of long (begins_of (job_of f))

module _ (f : Form) (long : ℕ) (some : (f.n ≡ 0 → ⊥)) {r : Float} where
  module _ (is : r ≡ value_of f.rtol) where
    negative_rtol : Ieee.lt r +0 ≡ true → Answers f long (refuses 5)
    negative_rtol t = sym (when_true _ _ (rw (← is) t)) ∙ begun_by_tests f long (positive _ some)

    module _ (p : Ieee.lt r +0 ≡ false) {a : Float} (also : a ≡ value_of f.atol) where
      negative_atol : Ieee.lt a +0 ≡ true → Answers f long (refuses 5)
      negative_atol t = sym (when_false _ _ (rw (← is) p) ∙ when_true _ _ (rw (← also) t)) ∙ begun_by_tests f long (positive _ some)

      module _ (q : Ieee.lt a +0 ≡ false) where
        no_steps : f.max_steps ≡ 0 → Answers f long (refuses 6)
        no_steps e =
            sym (when_false _ _ (rw (← is) p) ∙ when_false _ _ (rw (← also) q) ∙ when_true _ _ (eq-eqb _ _ e)) ∙ begun_by_tests f long (positive _ some)

        module _ (steps : (f.max_steps ≡ 0 → ⊥)) where
          many_steps : 1000000 < f.max_steps → Answers f long (refuses 7)
          many_steps h =
              sym (when_false _ _ (rw (← is) p) ∙ when_false _ _ (rw (← also) q) ∙ when_false _ _ (ne_eqb _ _ steps) ∙ when_true _ _ (rw (lt-ltb _ _ h)))
              ∙ begun_by_tests f long (positive _ some)

          module _ (few : f.max_steps ≤ 1000000) where
            many_turns : 64 < f.newton_maxiter → Answers f long (refuses 7)
            many_turns h =
                sym (when_false _ _ (rw (← is) p) ∙ when_false _ _ (rw (← also) q) ∙ when_false _ _ (ne_eqb _ _ steps)
                ∙ when_true _ _ (rw (le-ltb 1000000 f.max_steps few, lt-ltb 64 f.newton_maxiter h)))
                ∙ begun_by_tests f long (positive _ some)

            module _ (less : f.newton_maxiter ≤ 64) where
              limits : (ltb 1000000 f.max_steps || ltb 64 f.newton_maxiter) ≡ false
              limits = rw (le-ltb 1000000 f.max_steps few, le-ltb 64 f.newton_maxiter less)

              automatic : f.automatic ≡ true → Answers f long (gives long)
              automatic t =
                  sym (when_false _ _ (rw (← is) p) ∙ when_false _ _ (rw (← also) q) ∙ when_false _ _ (ne_eqb _ _ steps) ∙ when_false _ _ limits
                  ∙ when_true _ _ t)
                  ∙ begun_by_tests f long (positive _ some)

              module _ (given : f.automatic ≡ false) {h : Float} (first : h ≡ value_of f.first_step) where
                zero_first : Ieee.eq h +0 ≡ true → Answers f long (refuses 8)
                zero_first t =
                    sym (when_false _ _ (rw (← is) p) ∙ when_false _ _ (rw (← also) q) ∙ when_false _ _ (ne_eqb _ _ steps) ∙ when_false _ _ limits
                    ∙ when_false _ _ given ∙ when_true _ _ (rw (← first) t))
                    ∙ begun_by_tests f long (positive _ some)

                passes : Ieee.eq h +0 ≡ false → Answers f long (gives long)
                passes t =
                    sym (when_false _ _ (rw (← is) p) ∙ when_false _ _ (rw (← also) q) ∙ when_false _ _ (ne_eqb _ _ steps) ∙ when_false _ _ limits
                    ∙ when_false _ _ given ∙ when_false _ _ (rw (← first) t))
                    ∙ begun_by_tests f long (positive _ some)

pub returns-then-f-eq0 : goal.returns-then-f-eq0
returns-then-f-eq0 c = sym (begun_of_nothing _ _ c.if-f-eq0.true)

pub returns-then-double : goal.returns-then-double
returns-then-double c =
    elim c.then-double.branch [
      | then-double-via-then-double w ↦ negative_rtol _ _ c.if-f-eq0.false c.double.ensures w.if-double.true
      | then-double-via-else-double+then-double-2 w ↦
          negative_atol _ _ c.if-f-eq0.false c.double.ensures w.if-double.false w.double-else-double.ensures w.if-double-2.true
    ]

pub returns-then-f-eq0-2 : goal.returns-then-f-eq0-2
returns-then-f-eq0-2 c = no_steps _ _ c.if-f-eq0.false c.double.ensures c.if-double.false c.double-else-double.ensures c.if-double-2.false c.if-f-eq0-2.true

pub returns-then-f-gt1000000 : goal.returns-then-f-gt1000000
returns-then-f-gt1000000 c =
    elim c.then-f-gt1000000.branch [
      | then-f-gt1000000-via-then-f-gt1000000 w ↦
          many_steps _ _ c.if-f-eq0.false c.double.ensures c.if-double.false c.double-else-double.ensures c.if-double-2.false c.if-f-eq0-2.false w.if-f-gt1000000.true
      | then-f-gt1000000-via-else-f-gt1000000+then-f-gt64 w ↦
          many_turns _ _ c.if-f-eq0.false c.double.ensures c.if-double.false c.double-else-double.ensures c.if-double-2.false c.if-f-eq0-2.false w.if-f-gt1000000.false w.if-f-gt64.true
    ]

pub returns-then-double-3 : goal.returns-then-double-3
returns-then-double-3 c =
    zero_first _ _ c.if-f-eq0.false c.double.ensures c.if-double.false c.double-else-double.ensures c.if-double-2.false c.if-f-eq0-2.false c.if-f-gt1000000.false c.if-f-gt64.false
    (not_set c.if-not-f.true) c.double-then-not-f.ensures c.if-double-3.true

pub returns : goal.returns
returns c =
    elim c.else-not-f.branch [
      | else-not-f-via-then-not-f+else-double-3 w ↦
          passes _ _ c.if-f-eq0.false c.double.ensures c.if-double.false c.double-else-double.ensures c.if-double-2.false c.if-f-eq0-2.false c.if-f-gt1000000.false c.if-f-gt64.false
          (not_set w.if-not-f.true) w.double-then-not-f.ensures w.if-double-3.false
      | else-not-f-via-else-not-f w ↦
          automatic _ _ c.if-f-eq0.false c.double.ensures c.if-double.false c.double-else-double.ensures c.if-double-2.false c.if-f-eq0-2.false c.if-f-gt1000000.false c.if-f-gt64.false
          (set w.if-not-f.false)
    ]
