-- Forms that fit and files that are accepted are one to one: a form's bytes are accepted and read as the form, and what is read of an
-- accepted file has that file as its bytes.
use Rattle.std.specs.Prelude.{◌≡◌, refl, Bool, false, ◌&&◌, ◌||◌, not, List, ◌++◌, ℕ, ◌+◌, ◌*◌, ◌^◌, ◌≤◌, ◌<◌, ltb, get_or}
use Rattle.std.proofs.Math.Path.{sym}
use Rattle.std.proofs.Common.{ap, subst, ◌∙◌, arith, take-append-drop, drop-drop, take_at, drop_at}
use Rattle.std.proofs.Math.Bool.{true}
use Rattle.std.proofs.Math.Nat.{zero-add}
use Rattle.std.proofs.Math.Dec.{eqb}
use Rattle.std.proofs.Math.ListN.{length, take, drop, length-append, length-drop, get_or-append}
use Rattle.std.proofs.Math.Seq.{take_all}
use borrow.Author.Tests.{le-ltb, eq-eqb, ltb-false, eqb-true}
use Rattle.loops.specs.Loop.{loop}
use Rattle.loops.specs.Refusal.{Outcome, gives, refuses}
use Rattle.loops.specs.laws.ChoiceLaws.{either, when_true, when_false, and_passes, and_first, and_second}
use Rattle.text.specs.Words.{bytes_of, Below}
use Rattle.text.proofs.laws.WordLaws.{number, length_bytes, number_same, number_of_bytes, bytes_of_number, number_small, below_append, bytes_small}
use Rattle.job.specs.declared.form.Form.{Form}
use Rattle.job.specs.Types.{max_n}
use Rattle.job.specs.Packed.{head_length, head_bits, head_of, field, word_of, words_of, length_for}
use Rattle.job.specs.Reading.{accepted_of, form_of, head_read, form_read}
use Rattle.job.specs.Writing.{bit, head_for, words_in, joined, packed_of}
use Rattle.job.specs.laws.FitLaws.{Fits}
use Rattle.job.specs.laws.HeadLaws.{bit_small, bit_back, bit_again, head_fields, head_joined}
use Rattle.job.specs.laws.ReadingLaws.{refuses_nothing, words_long}
use Rattle.job.specs.laws.JoinedLaws.{length_joined, words_add, word_joined, words_joined, joined_words, words_small, joined_small}

head_number : (s : List ℕ) → head_bits s ≡ number s 0 5
unfolding head_bits loop number
head_number s = refl

-- ---- read what was written

module _ (f : Form) (y0 a : List ℕ) (fits : Fits f (length y0) (length a)) where
  length_in : length (words_in f y0 a) ≡ 5 + f.n + f.n * f.n
  length_in = omega (arith, length-append y0 a, fits.long, fits.square)

  pub length_packed : length (packed_of f y0 a) ≡ length_for f.n
  unfolding packed_of
  length_packed = omega (arith, length-append (bytes_of 5 (head_for f)) (joined (words_in f y0 a)), length_bytes 5 (head_for f), length_joined (words_in f y0 a), length_in)

module _ (f : Form) (y0 a : List ℕ) (few : f.n ≤ max_n) (fits : Fits f (length y0) (length a)) (words : Below (2 ^ 64) (words_in f y0 a)) where
  head_small : head_for f < 2 ^ 40
  head_small = omega (arith, few, fits.steps, fits.newton, bit_small f.automatic)

  head_packed : head_bits (packed_of f y0 a) ≡ head_for f
  unfolding packed_of
  head_packed =
      let five : length (bytes_of 5 (head_for f)) ≡ 5 = length_bytes 5 (head_for f) in
      head_number _
      ∙ number_same (bytes_of 5 (head_for f) ++ joined (words_in f y0 a)) (bytes_of 5 (head_for f)) 0 0 5
      (λ i below. get_or-append (bytes_of 5 (head_for f)) (joined (words_in f y0 a)) 0 (0 + i) (omega arith))
      ∙ number_of_bytes 5 (head_for f) head_small

  word_packed : (i : ℕ) → i < 5 → word_of (packed_of f y0 a) i ≡ get_or (words_in f y0 a) i 0
  unfolding packed_of
  word_packed i below = word_joined (bytes_of 5 (head_for f)) (words_in f y0 a) (length_bytes 5 (head_for f)) words i (omega arith)

  words_packed : (i count : ℕ) → i + count ≤ 5 + f.n + f.n * f.n → words_of (packed_of f y0 a) i count ≡ take count (drop i (words_in f y0 a))
  unfolding packed_of
  words_packed i count room =
      words_joined (bytes_of 5 (head_for f)) (words_in f y0 a) (length_bytes 5 (head_for f)) words i count (omega (arith, length_in f y0 a fits))

  pub y0_packed : words_of (packed_of f y0 a) 5 f.n ≡ y0
  y0_packed = words_packed 5 f.n (omega arith) ∙ take_at y0 a f.n fits.long

  pub a_packed : words_of (packed_of f y0 a) (5 + f.n) (f.n * f.n) ≡ a
  a_packed =
      words_packed (5 + f.n) (f.n * f.n) (omega arith)
      ∙ ap (take (f.n * f.n)) (sym (drop-drop f.n 5 (words_in f y0 a)) ∙ drop_at y0 a f.n fits.long)
      ∙ take_all (f.n * f.n) a (omega (arith, fits.square))

  fields_packed :
      (field (head_for f) 34 6 ≡ f.n) × (field (head_for f) 14 20 ≡ f.max_steps) × (field (head_for f) 7 7 ≡ f.newton_maxiter)
      × (field (head_for f) 6 1 ≡ bit f.automatic) × (field (head_for f) 0 6 ≡ 0)
  fields_packed =
      head_fields f.n f.max_steps f.newton_maxiter (bit f.automatic) (omega (arith, few)) fits.steps fits.newton (bit_small f.automatic)

  form_packed : form_of (packed_of f y0 a) (head_of (head_for f)) ≡ f
  unfolding form_of
  form_packed =
      rw (fields_packed.0, fields_packed.1, fields_packed.2, fields_packed.3, bit_again f.automatic, word_packed 0 (omega arith), word_packed 1 (omega arith), word_packed 2 (omega arith), word_packed 3 (omega arith), word_packed 4 (omega arith))

  accepts_packed : accepted_of (packed_of f y0 a) (head_of (head_for f)) ≡ true
  unfolding accepted_of
  accepts_packed =
      let long : length (packed_of f y0 a) ≡ length_for (field (head_for f) 34 6) = rw fields_packed.0 (length_packed f y0 a fits) in
      let unused : (not (not (eqb (field (head_for f) 6 1) 0)) || eqb (word_of (packed_of f y0 a) 2) 0) ≡ true =
      rw (fields_packed.3, bit_again f.automatic, word_packed 2 (omega arith)) fits.unused in
      and_passes (eq-eqb _ _ long) (and_passes (eq-eqb _ _ fields_packed.4) unused)

  pub read_packed : form_read (packed_of f y0 a) ≡ gives f
  unfolding form_read head_read
  read_packed =
      let enough : head_length ≤ length (packed_of f y0 a) = omega (arith, length_packed f y0 a fits) in
      let served : field (head_for f) 34 6 ≤ max_n = rw fields_packed.0 (few) in
      when_false _ _ (le-ltb _ _ enough) ∙ rw head_packed (when_false _ _ (le-ltb _ _ served) ∙ when_true _ _ accepts_packed ∙ rw form_packed)

-- ---- its bytes are bytes

pub packed_small : (f : Form) (y0 a : List ℕ) → Below 256 (packed_of f y0 a)
unfolding packed_of
packed_small f y0 a = below_append 256 (bytes_of head_length (head_for f)) (joined (words_in f y0 a)) (bytes_small head_length (head_for f)) (joined_small (words_in f y0 a))

-- ---- write what was read

module _ (s : List ℕ) (bytes : Below 256 s) (w : ℕ) (is : w ≡ head_bits s) (enough : head_length ≤ length s) (accepts : accepted_of s (head_of w) ≡ true) where
  accepts_read : (length s ≡ length_for (field w 34 6)) × (field w 0 6 ≡ 0) × ((not (not (eqb (field w 6 1) 0)) || eqb (word_of s 2) 0) ≡ true)
  unfolding accepted_of
  accepts_read =
      let behind : (eqb (field w 0 6) 0 && (not (not (eqb (field w 6 1) 0)) || eqb (word_of s 2) 0)) ≡ true = and_second (eqb (length s) (length_for (field w 34 6))) _ accepts in
      (eqb-true _ _ (and_first _ _ accepts), eqb-true _ _ (and_first _ _ behind), and_second (eqb (field w 0 6) 0) _ behind)

  head_read_lem : head_for (form_of s (head_of w)) ≡ w
  unfolding form_of
  head_read_lem =
      let small : w < 2 ^ 40 = rw (is, head_number) (number_small s 0 5 bytes enough) in
      rw (bit_back (field w 6 1) (omega arith)) (head_joined w small accepts_read.1)

  words_read : words_in (form_of s (head_of w)) (words_of s 5 (field w 34 6)) (words_of s (5 + field w 34 6) (field w 34 6 * field w 34 6)) ≡ words_of s 0 (5 + field w 34 6 + field w 34 6 * field w 34 6)
  unfolding form_of words_of
  words_read =
      sym (rw (words_add s 0 (5 + field w 34 6) (field w 34 6 * field w 34 6), words_add s 0 5 (field w 34 6), zero-add (5 + field w 34 6)))

  packed_of_read : packed_of (form_of s (head_of w)) (words_of s 5 (field w 34 6)) (words_of s (5 + field w 34 6) (field w 34 6 * field w 34 6)) ≡ s
  unfolding packed_of
  packed_of_read =
      let head : bytes_of 5 w ≡ take 5 s = rw (is, head_number) (bytes_of_number s 0 5 bytes enough) in
      let rest : joined (words_of s 0 (5 + field w 34 6 + field w 34 6 * field w 34 6)) ≡ drop 5 s =
      joined_words s 0 (5 + field w 34 6 + field w 34 6 * field w 34 6) bytes (omega (arith, accepts_read.0))
      ∙ take_all (8 * (5 + field w 34 6 + field w 34 6 * field w 34 6)) (drop 5 s) (rw length-drop (omega (arith, accepts_read.0))) in
      rw (head_read_lem, words_read, head, rest) (take-append-drop 5 s)

  fits_read : Fits (form_of s (head_of w)) (length (words_of s 5 (field w 34 6))) (length (words_of s (5 + field w 34 6) (field w 34 6 * field w 34 6)))
  unfolding form_of
  fits_read =
      record {
        long = words_long s 5 (field w 34 6);
        square = words_long s (5 + field w 34 6) (field w 34 6 * field w 34 6);
        steps = omega arith;
        newton = omega arith;
        unused = accepts_read.2;
      }

  small_read : Below (2 ^ 64) (words_in (form_of s (head_of w)) (words_of s 5 (field w 34 6)) (words_of s (5 + field w 34 6) (field w 34 6 * field w 34 6)))
  small_read =
      subst (λ (l : List ℕ). Below (2 ^ 64) l) (sym words_read)
      (words_small s 0 (5 + field w 34 6 + field w 34 6 * field w 34 6) bytes (omega (arith, accepts_read.0)))

-- what was read of s: it fits, it is made of words, and its bytes are s
pub record Found (s : List ℕ) (f : Form) (y0 a : List ℕ) : Type 0 where
  pub few : f.n ≤ max_n
  pub fits : Fits f (length y0) (length a)
  pub words : Below (2 ^ 64) (words_in f y0 a)
  pub packed : packed_of f y0 a ≡ s

abbrev Back : List ℕ → Outcome Form → Type 0
Back s r = (f : Form) → r ≡ gives f → Found s f (words_of s 5 f.n) (words_of s (5 + f.n) (f.n * f.n))

refusal_back : (s : List ℕ) (number : ℕ) → Back s (refuses number)
refusal_back s number f e = refuses_nothing e

head_back : (s : List ℕ) → Below 256 s → (w : ℕ) → w ≡ head_bits s → head_length ≤ length s → Back s (head_read s (head_of w))
unfolding head_read form_of
head_back s bytes w is enough =
    either (Back s) (ltb max_n (field w 34 6)) (λ _. refusal_back s 1)
    (λ served. either (Back s) (accepted_of s (head_of w))
    (λ accepts f e.
    let here : f ≡ form_of s (head_of w) = cc in
    rw here
    record {
      few = ltb-false _ _ served;
      fits = fits_read s bytes w is enough accepts;
      words = small_read s bytes w is enough accepts;
      packed = packed_of_read s bytes w is enough accepts;
    })
    (λ _. refusal_back s 17))

pub packed_read : (s : List ℕ) → Below 256 s → Back s (form_read s)
unfolding form_read
packed_read s bytes =
    either (Back s) (ltb (length s) head_length) (λ _. refusal_back s 17) (λ enough. head_back s bytes (head_bits s) refl (ltb-false _ _ enough))
