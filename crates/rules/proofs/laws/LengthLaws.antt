-- Every stage changes numbers in place: the workspace that it leaves is as long as the one that it was given. A length survives any
-- write, so that the stages that write aside of y are done (`AsideLaws`); here are the others.
use Rattle.std.specs.Prelude.{◌≡◌, List, ℕ, ◌+◌, length, set, take, drop, Float}
use Rattle.std.proofs.Common.{sym, ap, ◌∙◌, arith, length-append, take-append-drop}
use Rattle.std.proofs.Math.ListN.{length-set}
use Rattle.loops.specs.Loop.{loop}
use Rattle.loops.specs.laws.Order.{loop_keeps}
use Rattle.loops.specs.Part.{part, over}
use Rattle.rules.specs.Types.{Progress, Tolerance}
use Rattle.rules.specs.Places.{need, get, d}
use Rattle.rules.specs.Moves.{copy_turn, copied, fill_turn, filled, load_turn, loaded}
use Rattle.rules.specs.Judge.{newest_turn, newest, add_next_turn, add_next, summed_turn, summed, coeff_turn, coefficient, coeffs, cont_turn, prepared, accepted_ws}
use Rattle.rules.specs.Begin.{begin_ws}
use Rattle.rules.proofs.laws.AsideLaws.{Survives, tolerances_keep}

-- a list is as long as its first places and the others together
split_length : {A : Type 0} (n : ℕ) (l : List A) → length (take n l) + length (drop n l) ≡ length l
split_length n l = sym (length-append (take n l) (drop n l)) ∙ ap length (take-append-drop n l)

-- a list with a part of it put anew, where the part kept its length
over_length : {A : Type 0} (a n : ℕ) (g : List A → List A) (l : List A) → length (g (part a n l)) ≡ length (part a n l)
    → length (over a n g l) ≡ length l
over_length a n g l e =
    let whole : length (take a l) + length (drop a l) ≡ length l = split_length a l in
    let inner : length (part a n l) + length (drop n (drop a l)) ≡ length (drop a l) = split_length n (drop a l) in
    rw (length-append, length-append, e) (omega arith)

module _ (l : ℕ) where
  -- lists of l numbers
  abbrev Long : List Float → Type 0
  Long ws = length ws ≡ l

  pub long_survives : (n : ℕ) → Survives n Long
  long_survives n =
      record { set_aside = λ ws i x aside h. simp length-set h; over_before = λ a m g ws before e h. over_length a m g ws e ∙ h }

  -- a loop whose every turn keeps the length
  each : (lo hi : ℕ) (f : ℕ → List Float → List Float) (ws : List Float) → ((i : ℕ) (v : List Float) → Long v → Long (f i v))
      → Long ws → Long (loop lo hi f ws)
  each lo hi f ws k h = loop_keeps Long lo hi f ws (λ i v from below q. k i v q) h

  -- ---- copies and fills, wherever they write

  pub copied_long : (from to n : ℕ) (ws : List Float) → Long ws → Long (copied from to n ws)
  unfolding copied copy_turn
  copied_long from to n ws h = each _ _ (copy_turn from to) ws (λ i v q. simp length-set q) h

  pub filled_long : (to n : ℕ) (x : Float) (ws : List Float) → Long ws → Long (filled to n x ws)
  unfolding filled fill_turn
  filled_long to n x ws h = each _ _ (fill_turn to x) ws (λ i v q. simp length-set q) h

  pub loaded_long : (values : List Float) (from to n : ℕ) (ws : List Float) → Long ws → Long (loaded values from to n ws)
  unfolding loaded load_turn
  loaded_long values from to n ws h = each _ _ (load_turn values from to) ws (λ i v q. simp length-set q) h

  -- ---- an accepted step

  newest_long : (n order : ℕ) (ws : List Float) → Long ws → Long (newest n order ws)
  unfolding newest newest_turn
  newest_long n order ws h = each _ _ (newest_turn n order) ws (λ i v q. simp length-set q) h

  summed_long : (n order : ℕ) (ws : List Float) → Long ws → Long (summed n order ws)
  unfolding summed summed_turn add_next add_next_turn
  summed_long n order ws h =
      each _ _ (summed_turn n order) ws (λ j v q. each _ _ (add_next_turn n _) v (λ i u k. simp length-set k) q) h

  coeffs_long : (n order i : ℕ) (ws : List Float) → Long ws → Long (coeffs n order i ws)
  unfolding coeffs coeff_turn
  coeffs_long n order i ws h = each _ _ (coeff_turn n order i) ws (λ k v q. simp length-set q) h

  prepared_long : (n order : ℕ) (ws : List Float) → Long ws → Long (prepared n order ws)
  unfolding prepared cont_turn
  prepared_long n order ws h =
      each _ _ (cont_turn n order) ws
      (λ i v q. simp length-set (coeffs_long n order i (set v (coefficient n i 0) (get n v (d 0) i)) (simp length-set q))) h

  pub accepted_long : (n order : ℕ) (ws : List Float) → Long ws → Long (accepted_ws n order ws)
  unfolding accepted_ws
  accepted_long n order ws h = prepared_long n order _ (summed_long n order _ (newest_long n order _ (copied_long _ _ n ws h)))

  -- ---- the beginning

  pub begin_long : (n : ℕ) (y0 : List Float) (r : Tolerance) (rs : List Float) (a : Tolerance) (als : List Float) (ws : List Float)
      → Long ws → Long (begin_ws n y0 r rs a als ws)
  unfolding begin_ws
  begin_long n y0 r rs a als ws h =
      tolerances_keep (long_survives n) a als _ _ (omega arith)
      (tolerances_keep (long_survives n) r rs _ _ (omega arith) (loaded_long y0 0 _ n _ (filled_long 0 _ _ ws h)))

-- a workspace just as long as a state needs it
pub exact : (p : Progress) → Survives p.n (λ (ws : List Float). length ws ≡ need p.n)
exact p = long_survives (need p.n) p.n
