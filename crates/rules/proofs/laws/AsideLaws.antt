-- Every stage but an accepted step, a modification and the beginning writes aside of y's row in the workspace, before it or beyond it;
-- so it keeps whatever survives that. One walk over the stages, for two things that do: the workspace's length (`LengthLaws`), and
-- y itself (`YLaws`).
use Rattle.std.specs.Prelude.{◌≡◌, List, ◌⊎◌, ℕ, ◌+◌, ◌*◌, ◌≤◌, ◌<◌, length, set, take, Float, Option}
use Rattle.std.proofs.Common.{inl, inr, arith}
use Rattle.loops.specs.Loop.{loop}
use Rattle.loops.specs.Part.{part, over}
use Rattle.loops.specs.laws.ChoiceLaws.{either}
use Rattle.loops.specs.laws.Order.{loop_keeps}
use Rattle.loops.specs.laws.RowLaws.{inside}
use Rattle.matrix.specs.Lu.{lu_decomp_of}
use Rattle.matrix.specs.Linear.{lin_solve_of}
use Rattle.matrix.proofs.laws.LengthLaws.{factors_long, solution_long}
use Rattle.rules.specs.Types.{Progress, Pace, Tolerance, Scalar, Vector, Aim}
use Rattle.rules.specs.State.{Left}
use Rattle.rules.specs.Places.{row, y, rhs, d}
use Rattle.rules.specs.Moves.{copy_turn, copied, fill_turn, filled, load_turn, loaded}
use Rattle.rules.specs.Predict.{predict_turn, predict, scale_turn, scaled, psi_turn, psied}
use Rattle.rules.specs.Starting.{euler_turn, euler}
use Rattle.rules.specs.Newton.{residual_turn, residual, solved, correction, advance_turn, advanced}
use Rattle.rules.specs.Judge.{weigh_turn, weighed}
use Rattle.rules.specs.Factor.{matrix_turn, matrix_cells, diagonal, matrix_row, matrix, factored}
use Rattle.rules.specs.Order.{error_at, err_m, err_p}
use Rattle.rules.specs.Rescale.{change_d}
use Rattle.rules.specs.Attempt.{rescaled_d, to_hmax, to_hmin, fitted, cut_at_end, aimed, predicted_all}
use Rattle.rules.specs.Step.{error_ws}
use Rattle.rules.specs.Reply.{first_turn, first_difference, differences}
use Rattle.rules.specs.Begin.{tolerances}
use Rattle.rules.proofs.laws.RescaleLaws.{change_d_length}

-- what survives a number stored aside of y's row, and a part before it that is put anew and keeps its length
pub record Survives (n : ℕ) (P : List Float → Type 0) : Type 0 where
  pub set_aside : (ws : List Float) (i : ℕ) (x : Float) → (i < row n y) ⊎ (row n y + n ≤ i) → P ws → P (set ws i x)
  pub over_before :
      (a m : ℕ) (g : List Float → List Float) (ws : List Float) → a + m ≤ row n y → length (g (part a m ws)) ≡ length (part a m ws) →
      P ws → P (over a m g ws)

module _ {n : ℕ} {P : List Float → Type 0} (s : Survives n P) where
  before : (ws : List Float) (i : ℕ) (x : Float) → i < row n y → P ws → P (set ws i x)
  before ws i x h k = s.set_aside ws i x (inl h) k

  beyond : (ws : List Float) (i : ℕ) (x : Float) → row n y + n ≤ i → P ws → P (set ws i x)
  beyond ws i x h k = s.set_aside ws i x (inr h) k

  each :
      (hi : ℕ) (f : ℕ → List Float → List Float) (ws : List Float) → ((i : ℕ) (u : List Float) → i < hi → P u → P (f i u)) →
      P ws → P (loop 0 hi f ws)
  each hi f ws turns k = loop_keeps P 0 hi f ws (λ i u from below t. turns i u below t) k

  -- ---- copies and fills

  pub copied_before : (from to k : ℕ) (ws : List Float) → to + k ≤ row n y → P ws → P (copied from to k ws)
  unfolding copied copy_turn
  copied_before from to k ws h p = each k (copy_turn from to) ws (λ i u below t. before u _ _ (omega arith) t) p

  pub filled_before : (to k : ℕ) (x : Float) (ws : List Float) → to + k ≤ row n y → P ws → P (filled to k x ws)
  unfolding filled fill_turn
  filled_before to k x ws h p = each k (fill_turn to x) ws (λ i u below t. before u _ _ (omega arith) t) p

  filled_beyond : (to k : ℕ) (x : Float) (ws : List Float) → row n y + n ≤ to → P ws → P (filled to k x ws)
  unfolding filled fill_turn
  filled_beyond to k x ws h p = each k (fill_turn to x) ws (λ i u below t. beyond u _ _ (omega arith) t) p

  pub loaded_before : (values : List Float) (from to k : ℕ) (ws : List Float) → to + k ≤ row n y → P ws → P (loaded values from to k ws)
  unfolding loaded load_turn
  loaded_before values from to k ws h p = each k (load_turn values from to) ws (λ i u below t. before u _ _ (omega arith) t) p

  pub loaded_beyond : (values : List Float) (from to k : ℕ) (ws : List Float) → row n y + n ≤ to → P ws → P (loaded values from to k ws)
  unfolding loaded load_turn
  loaded_beyond values from to k ws h p = each k (load_turn values from to) ws (λ i u below t. beyond u _ _ (omega arith) t) p

  -- the beginning's tolerances
  pub tolerances_keep : (t : Tolerance) (values : List Float) (to : ℕ) (ws : List Float) → row n y + n ≤ to → P ws → P (tolerances t values to n ws)
  tolerances_keep (Scalar x) values to ws h p = filled_beyond to n x ws h p
  tolerances_keep Vector values to ws h p = loaded_beyond values 0 to n ws h p

  -- ---- the prediction

  scaled_keeps : (v : ℕ) (ws : List Float) → P ws → P (scaled n v ws)
  unfolding scaled scale_turn
  scaled_keeps v ws p = each n (scale_turn n v) ws (λ i u below t. before u _ _ (omega arith) t) p

  pub predicted_keeps : (order : ℕ) (ws : List Float) → P ws → P (predicted_all n order ws)
  unfolding predicted_all predict predict_turn psied psi_turn
  predicted_keeps order ws p =
      each n (psi_turn n order) _ (λ i u below t. before u _ _ (omega arith) t)
      (scaled_keeps _ _ (each n (predict_turn n order) ws (λ i u below t. before u _ _ (omega arith) t) p))

  pub euler_keeps : (x : Float) (ws : List Float) → P ws → P (euler n x ws)
  unfolding euler euler_turn
  euler_keeps x ws p = each n (euler_turn n x) ws (λ i u below t. beyond u _ _ (omega arith) t) p

  -- ---- Newton's iteration

  pub advanced_keeps : (ws : List Float) → P ws → P (advanced n ws)
  unfolding advanced advance_turn
  advanced_keeps ws p = each n (advance_turn n) ws (λ i u below t. before _ _ _ (omega arith) (before u _ _ (omega arith) t)) p

  residual_keeps : (c : Float) (ws : List Float) → P ws → P (residual n c ws)
  unfolding residual residual_turn
  residual_keeps c ws p = each n (residual_turn n c) ws (λ i u below t. before u _ _ (omega arith) t) p

  solved_keeps : (pivot : List ℕ) (ws : List Float) → P ws → P (solved n pivot ws)
  unfolding solved
  solved_keeps pivot ws p =
      let factors = part (n * n) (n * n) ws in
      s.over_before (row n rhs) n (λ b. (lin_solve_of factors b (take n pivot)).1) ws (omega arith)
      (solution_long factors (part (row n rhs) n ws) (take n pivot)) p

  pub correction_keeps : (c : Float) (pivot : List ℕ) (values ws : List Float) → P ws → P (correction n c pivot values ws)
  unfolding correction
  correction_keeps c pivot values ws p = solved_keeps pivot _ (residual_keeps c _ (loaded_before values 0 (row n rhs) n ws (omega arith) p))

  -- ---- the errors

  weighed_keeps : (k : Float) (v : ℕ) (ws : List Float) → P ws → P (weighed n k v ws)
  unfolding weighed weigh_turn
  weighed_keeps k v ws p = each n (weigh_turn n k v) ws (λ i u below t. before u _ _ (omega arith) t) p

  pub error_keeps : (order : ℕ) (ws : List Float) → P ws → P (error_ws n order ws)
  unfolding error_ws
  error_keeps order ws p = weighed_keeps _ _ _ (scaled_keeps _ ws p)

  pub error_below_keeps : (order : ℕ) (ws : List Float) → P ws → P (err_m n order ws).ws
  unfolding err_m error_at
  error_below_keeps order ws p = either (λ (a : Left Float). P a.ws) _ (λ _. weighed_keeps _ _ ws p) (λ _. p)

  pub error_above_keeps : (order : ℕ) (ws : List Float) → P ws → P (err_p n order ws).ws
  unfolding err_p error_at
  error_above_keeps order ws p = either (λ (a : Left Float). P a.ws) _ (λ _. weighed_keeps _ _ ws p) (λ _. p)

  -- ---- the matrix

  matrix_row_keeps : (c : Float) (r : ℕ) (ws : List Float) → r < n → P ws → P (matrix_row n c r ws)
  unfolding matrix_row diagonal matrix_cells matrix_turn
  matrix_row_keeps c r ws h p =
      let cells = each n (matrix_turn n c r) ws (λ j u below t. let among = inside h below in before u _ _ (omega arith) t) p in
      let among = inside h h in
      before _ _ _ (omega arith) cells

  pub factored_keeps : (c : Float) (pivot : List ℕ) (ws : List Float) → P ws → P (factored n c pivot ws).ws
  unfolding factored matrix
  factored_keeps c pivot ws p =
      let a = part (n * n) (n * n) (matrix n c ws) in
      s.over_before (n * n) (n * n) (λ _. (lu_decomp_of a (take n pivot)).1) (matrix n c ws) (omega arith) (factors_long a (take n pivot)).0
      (each n (matrix_row n c) ws (λ r u below t. matrix_row_keeps c r u below t) p)

  -- ---- the differences

  pub rescaled_keeps : (order : ℕ) (factor : Float) (ws : List Float) → P ws → P (rescaled_d n order factor ws)
  unfolding rescaled_d
  rescaled_keeps order factor ws p =
      s.over_before (row n (d 0)) (8 * n) (change_d n order factor) ws (omega arith)
      (change_d_length n order factor (part (row n (d 0)) (8 * n) ws)) p

  pub differences_keep : (x direction : Float) (ws : List Float) → P ws → P (differences n x direction ws)
  unfolding differences first_difference first_turn
  differences_keep x direction ws p =
      each n (first_turn n x direction) _ (λ i u below t. before u _ _ (omega arith) t)
      (copied_before _ _ n _ (omega arith) (filled_before _ _ _ ws (omega arith) p))

-- ---- the step's size

module _ (r : Progress) {P : List Float → Type 0} (s : Survives r.n P) where
  pub fitted_keeps : (ws : List Float) → P ws → P (fitted r ws).ws
  unfolding fitted to_hmin to_hmax
  fitted_keeps ws p =
      let above = either (λ (a : Left Pace). P a.ws) _ (λ _. rescaled_keeps s _ _ ws p) (λ _. p) in
      either (λ (a : Left Pace). P a.ws) _ (λ _. rescaled_keeps s _ _ _ above) (λ _. above)

  pub aimed_keeps : (ws : List Float) → P ws → P (aimed r ws).ws
  unfolding aimed cut_at_end
  aimed_keeps ws p =
      either (λ (a : Left (Option (Pace × Aim))). P a.ws) _
      (λ _. either (λ (a : Left (Option (Pace × Aim))). P a.ws) _ (λ _. p) (λ _. rescaled_keeps s _ _ ws p))
      (λ _. p)
