-- What a form has that fits, test by test of `fits_of`.
use Rattle.std.specs.Prelude.{◌≡◌, ◌&&◌, ◌||◌, ℕ, ◌*◌, ◌^◌, ◌<◌, ltb}
use Rattle.std.proofs.Math.Bool.{Bool, true, not}
use Rattle.std.proofs.Math.Dec.{eqb}
use borrow.Author.Tests.{lt-ltb, eq-eqb, ltb-true, eqb-true}
use Rattle.loops.specs.laws.ChoiceLaws.{and_passes, and_first, and_second}
use Rattle.job.specs.declared.form.Form.{Form}
use Rattle.job.specs.Writing.{fits_of}

pub record Fits (f : Form) (places cells : ℕ) : Type 0 where
  pub long : places ≡ f.n
  pub square : cells ≡ f.n * f.n
  pub steps : f.max_steps < 2 ^ 20
  pub newton : f.newton_maxiter < 2 ^ 7
  pub unused : (not f.automatic || eqb f.first_step 0) ≡ true

module _ (f : Form) (places cells : ℕ) where
  pub fits_test : Fits f places cells → fits_of f places cells ≡ true
  unfolding fits_of
  fits_test h =
      and_passes (eq-eqb _ _ h.long) (and_passes (eq-eqb _ _ h.square) (and_passes (lt-ltb _ _ h.steps) (and_passes (lt-ltb _ _ h.newton) h.unused)))

  pub test_fits : fits_of f places cells ≡ true → Fits f places cells
  unfolding fits_of
  test_fits t =
      let tail : Bool = not f.automatic || eqb f.first_step 0 in
      let t1 : (eqb cells (f.n * f.n) && (ltb f.max_steps (2 ^ 20) && (ltb f.newton_maxiter (2 ^ 7) && tail))) ≡ true =
      and_second (eqb places f.n) _ t in
      let t2 : (ltb f.max_steps (2 ^ 20) && (ltb f.newton_maxiter (2 ^ 7) && tail)) ≡ true = and_second (eqb cells (f.n * f.n)) _ t1 in
      let t3 : (ltb f.newton_maxiter (2 ^ 7) && tail) ≡ true = and_second (ltb f.max_steps (2 ^ 20)) _ t2 in
      record {
        long = eqb-true _ _ (and_first _ _ t);
        square = eqb-true _ _ (and_first _ _ t1);
        steps = ltb-true _ _ (and_first _ _ t2);
        newton = ltb-true _ _ (and_first _ _ t3);
        unused = and_second (ltb f.newton_maxiter (2 ^ 7)) _ t3;
      }
