-- How a stage treats the question slice: it never reads it, and writes its first places, so many as the stage's answer says.
-- So a stage is, as a function of the question slice, one result, one workspace and one list that is put over the first places.
use Rattle.std.specs.Prelude.{◌≡◌, List, [], ◌++◌, Bool, ℕ, ◌+◌, ◌*◌, ◌≤◌, ◌<◌, length, take, drop, Float}
use Rattle.std.proofs.Math.Path.{refl}
use Rattle.std.proofs.Common.{sym, ap, ◌∙◌, subst, append_assoc, arith, length-drop, length-append, length-take-le, take_at, drop-drop}
use Rattle.std.proofs.Math.Bool.{true, false}
use Rattle.std.proofs.Math.Seq.{drop-append_seam}
use Rattle.loops.specs.Choice.{when◌then◌else◌}
use Rattle.loops.specs.Part.{part}
use Rattle.loops.specs.laws.RowLaws.{row_within}
use Rattle.rules.specs.Types.{Turn}
use Rattle.rules.specs.Places.{need, row, cont}
use Rattle.rules.specs.State.{After, after}
use Rattle.rules.specs.Replies.{Awaits}
use Rattle.rules.specs.Moves.{loaded}
use Rattle.rules.proofs.laws.PartLaws.{loaded_over}
use Rattle.rules.proofs.laws.LengthLaws.{loaded_long}
use Rattle.rules.specs.Attempt.{Tried, rejected, says, told}
use Rattle.rules.specs.Answers.{is_refused, written}

-- e over the first places of q
abbrev pub fronted : List Float → List Float → List Float
fronted e q = e ++ drop (length e) q

-- f, as a function of the question slice: `Fits` is what holds of its result and of how many places it writes
pub record Speaks {A : Type 0} (Fits : A → ℕ → Type 0) (n : ℕ) (f : List Float → After A) : Type 0 where
  pub is : A
  pub ws : List Float
  pub asked : List Float
  pub fits : Fits is (length asked)
  pub long : length ws ≡ need n
  pub says : (q : List Float) → 8 * n ≤ length q → f q ≡ after is ws (fronted asked q)

-- a turn's answer says how many places it wrote, its state has n components, the answer is no refusal, and the state waits for
-- what the answer asks for
abbrev pub Says : ℕ → Turn → ℕ → Type 0
Says n t k =
    (k ≡ written n t.answer) × (t.run.at.n ≡ n) × (is_refused t.answer ≡ false) × Awaits n t.answer t.run.awaited

-- so does an attempt's; a rejected one wrote nothing
abbrev pub SaysTried : ℕ → Tried → ℕ → Type 0
SaysTried n (rejected r) k = (k ≡ 0) × (r.n ≡ n)
SaysTried n (says t) k = Says n t k

module _ {A : Type 0} {Fits : A → ℕ → Type 0} {n : ℕ} where
  -- only slices that are long enough count
  pub speaks_alike : {f g : List Float → After A} → ((q : List Float) → 8 * n ≤ length q → f q ≡ g q) → Speaks Fits n g → Speaks Fits n f
  speaks_alike e s = record { is = s.is; ws = s.ws; asked = s.asked; fits = s.fits; long = s.long; says = λ q h. e q h ∙ s.says q h }

  -- ---- the ways to speak

  pub speaks_nothing : (a : A) (ws : List Float) → length ws ≡ need n → Fits a 0 → Speaks Fits n (λ q. after a ws q)
  speaks_nothing a ws h f = record { is = a; ws = ws; asked = []; fits = f; long = h; says = λ q _. refl }

  -- either way of a choice that does not read the slice
  pub speaks_either : (b : Bool) {f g : List Float → After A} → (b ≡ true → Speaks Fits n f) → (b ≡ false → Speaks Fits n g)
      → Speaks Fits n (λ q. when b then f q else g q)
  unfolding when◌then◌else◌
  speaks_either true s t = s refl
  speaks_either false s t = t refl

-- ---- the vector at a row, told in the first n places

part_length : (a n : ℕ) (l : List Float) → a + n ≤ length l → length (part a n l) ≡ n
part_length a n l h = length-take-le n (drop a l) (rw (length-drop a l) (omega arith))

row_inside : {v : ℕ} (n : ℕ) (ws : List Float) → v < 33 → length ws ≡ need n → row n v + n ≤ length ws
row_inside n ws v h = omega (arith, row_within n v)

told_fronted : (n v : ℕ) (ws q : List Float) → row n v + n ≤ length ws → n ≤ length q → told n v ws q ≡ fronted (part (row n v) n ws) q
told_fronted n v ws q h k = rw (part_length (row n v) n ws h) (loaded_over ws (row n v) 0 n q h (omega arith))

pub speaks_told :
    {A : Type 0} {Fits : A → ℕ → Type 0} {n : ℕ} (v : ℕ) (a : A) (ws : List Float) →
    v < 33 → length ws ≡ need n → Fits a n → Speaks Fits n (λ q. after a ws (told n v ws q))
speaks_told {Fits = Fits} {n = n} v a ws inside h f =
    let within = row_inside n ws inside h in
    record {
      is = a;
      ws = ws;
      asked = part (row n v) n ws;
      fits = subst (Fits a) (sym (part_length (row n v) n ws within)) f;
      long = h;
      says = λ q k. ap (λ (t : List Float). after a ws t) (told_fronted n v ws q within (omega arith));
    }

-- ---- a step's notice: y, and the coefficients after it

-- e over the first places of a list, then f over the next ones
front_twice : (e f q t : List Float) (n m : ℕ) → length e ≡ n → length f ≡ m → t ≡ fronted e q
    → take n t ++ (f ++ drop m (drop n t)) ≡ fronted (e ++ f) q
front_twice e f q t n m he hf ht =
    let first : take n t ≡ e = rw ht (take_at e (drop (length e) q) n he) in
    let rest : drop n t ≡ drop n q = rw (ht, ← he) (drop-append_seam e (drop (length e) q)) in
    rw (first, rest, drop-drop, length-append, he, hf, append_assoc)

notice_fronted : (n v : ℕ) (ws q : List Float) → row n v + n ≤ length ws → row n cont + 7 * n ≤ length ws → 8 * n ≤ length q →
    loaded ws (row n cont) n (7 * n) (told n v ws q) ≡ fronted (part (row n v) n ws ++ part (row n cont) (7 * n) ws) q
notice_fronted n v ws q h k room =
    let kept : length (told n v ws q) ≡ length q = loaded_long (length q) ws (row n v) 0 n q refl in
    let over-told = loaded_over ws (row n cont) n (7 * n) (told n v ws q) k (omega arith) in
    over-told
    ∙ front_twice (part (row n v) n ws) (part (row n cont) (7 * n) ws) q (told n v ws q) n (7 * n) (part_length (row n v) n ws h)
    (part_length (row n cont) (7 * n) ws k) (told_fronted n v ws q h (omega arith))

pub speaks_notice :
    {A : Type 0} {Fits : A → ℕ → Type 0} {n : ℕ} (v : ℕ) (a : A) (ws : List Float) →
    v < 33 → length ws ≡ need n → Fits a (8 * n) → Speaks Fits n (λ q. after a ws (loaded ws (row n cont) n (7 * n) (told n v ws q)))
speaks_notice {Fits = Fits} {n = n} v a ws inside h f =
    let within = row_inside n ws inside h in
    let within-cont : row n cont + 7 * n ≤ length ws = omega arith in
    let all : length (part (row n v) n ws ++ part (row n cont) (7 * n) ws) ≡ 8 * n =
    length-append (part (row n v) n ws) (part (row n cont) (7 * n) ws)
    ∙ rw (part_length (row n v) n ws within, part_length (row n cont) (7 * n) ws within-cont) (omega arith) in
    record {
      is = a;
      ws = ws;
      asked = part (row n v) n ws ++ part (row n cont) (7 * n) ws;
      fits = subst (Fits a) (sym all) f;
      long = h;
      says = λ q k. ap (λ (t : List Float). after a ws t) (notice_fronted n v ws q within within-cont k);
    }
