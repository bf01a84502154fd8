-- What holds of a job that was read: the file is as long as its components make it, and as many numbers are read of it as are asked for.
-- That it has at most as many components as are served stands in proofs/Serving.antt.
use Rattle.std.specs.Prelude.{◌≡◌, refl, true, List, [], ◌∷◌, ◌++◌, map, ℕ, zero, suc, eqb, length, Float}
use Rattle.std.proofs.Common.{ap, ◌∙◌, arith, length-append, eqb-true}
use Rattle.loops.specs.Choice.{when◌then◌else◌}
use Rattle.loops.specs.laws.ChoiceLaws.{and_first}
use Rattle.loops.specs.Refusal.{gives, refuses}
use Rattle.job.specs.declared.packed.Head.{Head}
use Rattle.job.specs.Packed.{words_of, value_of, doubles_of, length_for}
use Rattle.job.specs.declared.form.ReadError.{ReadError}
use Rattle.job.specs.declared.form.ReadError.TheVariants.{TooManyComponents, NoJob}
use Rattle.job.specs.Reading.{read_number, read_refusal, accepted_of}

-- a refusal gives nothing
pub refuses_nothing : {A B : Type 0} {number : ℕ} {x : B} → refuses number ≡ gives x → A
refuses_nothing e = let z : ◌≡◌ {A = ℕ} 0 1 = cc in absurd (omega arith)

-- each refusal is the one of its number
pub read_refused : (why : ReadError) → read_refusal (read_number why) ≡ why
unfolding read_refusal when◌then◌else◌
read_refused TooManyComponents = refl
read_refused NoJob = refl

-- ---- a form that was read

pub accepted_length : (s : List ℕ) (h : Head) → accepted_of s h ≡ true → length s ≡ length_for h.n
unfolding accepted_of
accepted_length s h t = eqb-true (length s) (length_for h.n) (and_first (eqb (length s) (length_for h.n)) _ t)

-- ---- words and their values

pub values_append : (u v : List ℕ) → map value_of (u ++ v) ≡ map value_of u ++ map value_of v
values_append [] v = refl
values_append (w ∷ u) v = ap (λ (l : List Float). value_of w ∷ l) (values_append u v)

pub values_long : (u : List ℕ) → length (map value_of u) ≡ length u
values_long [] = refl
values_long (w ∷ u) = let h : length (map value_of u) ≡ length u = values_long u in omega arith

-- as many as are asked for
pub words_long : (s : List ℕ) (i count : ℕ) → length (words_of s i count) ≡ count
unfolding words_of
words_long s i zero = refl
words_long s i (suc count) = let h = words_long s i count in simp length-append (omega arith)

pub doubles_long : (s : List ℕ) (i count : ℕ) → length (doubles_of s i count) ≡ count
doubles_long s i count = values_long (words_of s i count) ∙ words_long s i count
