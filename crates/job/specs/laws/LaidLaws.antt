-- Words put on a page one after the other: word after word makes the words, and the four parts of a job, put on a page that has room for
-- them, are the job.
use Rattle.std.specs.Prelude.{◌≡◌, true, List, [], ◌∷◌, ◌++◌, ℕ, ◌+◌, ◌*◌, ◌≤◌, ◌<◌, length, take, drop, get_or, Some, None}
use Rattle.std.proofs.Common.{sym, ap, ◌∙◌, true≢false, append_assoc, append-nil, add-zero, add-one, arith, length-append, take-append-drop, take-suc, length-take-le, le-leb, leb-true}
use Rattle.text.specs.Page.{Sheet, puts, room_for}
use Rattle.text.specs.Words.{bytes_of}
use Rattle.text.specs.laws.PageLaws.{laid, puts_whole, length_laid, puts_joined}
use Rattle.text.proofs.laws.WordLaws.{length_bytes}
use Rattle.job.specs.declared.form.Form.{Form}
use Rattle.job.specs.Packed.{place, length_for}
use Rattle.job.specs.Writing.{head_for, words_in, joined, packed_of}
use Rattle.job.specs.laws.JoinedLaws.{length_joined, joined_append}

-- ---- words on a page that has room for them

-- no word
pub none_put : (ws : List ℕ) (p : Sheet) → room_for (8 * length ws) p.0 (length p.1) ≡ true → p ≡ puts (joined (take 0 ws)) p
unfolding joined
none_put ws (None, out) room = absurd (true≢false (sym room))
none_put ws (Some at, out) room =
    let inside : at + 8 * length ws ≤ length out = leb-true (at + 8 * length ws) (length out) room in
    let none : at + length {A = ℕ} [] ≡ at = omega arith in
    sym (puts_whole [] at out (omega arith) ∙ rw (none, take-append-drop at out))

-- a word more
pub word_put : (ws : List ℕ) (i : ℕ) (p : Sheet) {q r : Sheet} → room_for (8 * length ws) p.0 (length p.1) ≡ true → i < length ws
    → q ≡ puts (joined (take i ws)) p → r ≡ puts (bytes_of 8 (get_or ws i 0)) q → r ≡ puts (joined (take (i + 1) ws)) p
unfolding joined
word_put ws i (None, out) room below e f = absurd (true≢false (sym room))
word_put ws i (Some at, out) room below e f =
    let inside : at + 8 * length ws ≤ length out = leb-true (at + 8 * length ws) (length out) room in
    let before : length (joined (take i ws)) ≡ 8 * length (take i ws) = length_joined (take i ws) in
    let passed : length (take i ws) ≡ i = length-take-le i ws (omega arith) in
    let eight : length (bytes_of 8 (get_or ws i 0)) ≡ 8 = length_bytes 8 (get_or ws i 0) in
    let both = length-append (joined (take i ws)) (bytes_of 8 (get_or ws i 0)) in
    let more : joined (take (i + 1) ws) ≡ joined (take i ws) ++ bytes_of 8 (get_or ws i 0) =
    rw (add-one, take-suc ws i 0, joined_append, joined, append-nil) in
    rw (f, e, more) (puts_joined (joined (take i ws)) (bytes_of 8 (get_or ws i 0)) at out (omega arith))

-- ---- text after text, from the beginning of a page on

module _ (out t : List ℕ) {p : Sheet} (e : p ≡ puts t (Some 0, out)) where
  -- what still has room
  pub room_after : (k : ℕ) → length t + k ≤ length out → room_for k p.0 (length p.1) ≡ true
  room_after k room =
      let first : 0 + length t ≤ length out = omega arith in
      rw (e, puts_whole t 0 out first) (le-leb (0 + length t + k) (length (laid t 0 out)) (omega (arith, length_laid t 0 out first)))

  pub put_after : (u : List ℕ) {q : Sheet} → length t + length u ≤ length out → q ≡ puts u p → q ≡ puts (t ++ u) (Some 0, out)
  put_after u room f = rw (f, e) (puts_joined t u 0 out (omega (arith, length-append t u)))

-- ---- the four parts of a job

-- the five words behind the head
abbrev pub singles : Form → List ℕ
singles f = f.x0 ∷ f.xend ∷ f.first_step ∷ f.rtol ∷ f.atol ∷ []

-- its parts so far
abbrev pub first : Form → List ℕ
first f = bytes_of 5 (head_for f)

abbrev pub second : Form → List ℕ
second f = first f ++ joined (singles f)

abbrev pub third : Form → List ℕ → List ℕ
third f y0 = second f ++ joined y0

pub first_long : (f : Form) → length (first f) ≡ 5
first_long f = length_bytes 5 (head_for f)

pub second_long : (f : Form) → length (second f) ≡ 45
second_long f = omega (arith, length-append (first f) (joined (singles f)), length_joined (singles f), first_long f)

pub third_long : (f : Form) (y0 : List ℕ) → length (third f y0) ≡ 45 + 8 * length y0
third_long f y0 = omega (arith, length-append (second f) (joined y0), length_joined y0, second_long f)

-- the page with the last of them holds the job
module _ (f : Form) (y0 a out : List ℕ) (long : length y0 ≡ f.n) (square : length a ≡ f.n * f.n) (room : length_for f.n ≤ length out) where
  pub packed_put : {p : Sheet} → p ≡ puts (third f y0 ++ joined a) (Some 0, out) → p.1 ≡ packed_of f y0 a ++ drop (length_for f.n) out
  unfolding packed_of
  packed_put e =
      let all : length (third f y0 ++ joined a) ≡ length_for f.n =
      omega (arith, length-append (third f y0) (joined a), length_joined a, third_long f y0, long, square) in
      let ends : 0 + length (third f y0 ++ joined a) ≡ length_for f.n = omega arith in
      let words : joined (words_in f y0 a) ≡ joined (singles f) ++ (joined y0 ++ joined a) = joined_append (singles f) (y0 ++ a) ∙ rw (joined_append y0 a) in
      ap (λ (s : Sheet). s.1) (e ∙ puts_whole (third f y0 ++ joined a) 0 out (omega arith)) ∙ rw (ends, words) (simp append_assoc)

-- ---- the same of bytes laid over a slice one text after the other

pub laid_joined : (t u : List ℕ) (at next : ℕ) (out : List ℕ) → next ≡ at + length t → next + length u ≤ length out → laid u next (laid t at out) ≡ laid (t ++ u) at out
laid_joined t u at next out e room =
    let both : length (t ++ u) ≡ length t + length u = length-append t u in
    let first : at + length t ≤ length out = omega arith in
    let second : at + length t + length u ≤ length (laid t at out) = omega (arith, length_laid t at out first) in
    let whole : at + length (t ++ u) ≤ length out = omega arith in
    rw e
    (ap (λ (p : Sheet). p.1)
    (sym (puts_whole u (at + length t) (laid t at out) second) ∙ ap (puts u) (sym (puts_whole t at out first)) ∙ puts_joined t u at out whole ∙ puts_whole (t ++ u) at out whole))

-- the four parts, laid one after the other, are the job
pub laid_packed : (f : Form) (y0 a out b c d e : List ℕ) → length y0 ≡ f.n → length a ≡ f.n * f.n → length_for f.n ≤ length out
    → b ≡ laid (bytes_of 5 (head_for f)) 0 out → c ≡ laid (joined (singles f)) 5 b → d ≡ laid (joined y0) (place 5) c → e ≡ laid (joined a) (place (5 + f.n)) d
    → e ≡ packed_of f y0 a ++ drop (length_for f.n) out
unfolding packed_of
laid_packed f y0 a out b c d e n m room p q r t =
    let five : length (bytes_of 5 (head_for f)) ≡ 5 = length_bytes 5 (head_for f) in
    let forty : length (joined (singles f)) ≡ 40 = length_joined (singles f) in
    let long : length (joined y0) ≡ 8 * length y0 = length_joined y0 in
    let square : length (joined a) ≡ 8 * length a = length_joined a in
    let l1 : length (bytes_of 5 (head_for f) ++ joined (singles f)) ≡ 45 = length-append (bytes_of 5 (head_for f)) (joined (singles f)) ∙ rw (five, forty) in
    let l2 : length ((bytes_of 5 (head_for f) ++ joined (singles f)) ++ joined y0) ≡ 45 + 8 * f.n =
    length-append (bytes_of 5 (head_for f) ++ joined (singles f)) (joined y0) ∙ omega arith in
    let l3 : length (((bytes_of 5 (head_for f) ++ joined (singles f)) ++ joined y0) ++ joined a) ≡ length_for f.n =
    length-append ((bytes_of 5 (head_for f) ++ joined (singles f)) ++ joined y0) (joined a) ∙ omega arith in
    let c2 : c ≡ laid (bytes_of 5 (head_for f) ++ joined (singles f)) 0 out = q ∙ rw p (laid_joined (bytes_of 5 (head_for f)) (joined (singles f)) 0 5 out (omega arith) (omega arith)) in
    let d2 : d ≡ laid ((bytes_of 5 (head_for f) ++ joined (singles f)) ++ joined y0) 0 out =
    r ∙ rw c2 (laid_joined (bytes_of 5 (head_for f) ++ joined (singles f)) (joined y0) 0 (place 5) out (omega arith) (omega arith)) in
    let e2 : e ≡ laid (((bytes_of 5 (head_for f) ++ joined (singles f)) ++ joined y0) ++ joined a) 0 out =
    t ∙ rw d2 (laid_joined ((bytes_of 5 (head_for f) ++ joined (singles f)) ++ joined y0) (joined a) 0 (place (5 + f.n)) out (omega arith) (omega arith)) in
    let words : joined (words_in f y0 a) ≡ joined (singles f) ++ (joined y0 ++ joined a) = joined_append (singles f) (y0 ++ a) ∙ rw (joined_append y0 a) in
    let ends : 0 + length (((bytes_of 5 (head_for f) ++ joined (singles f)) ++ joined y0) ++ joined a) ≡ length_for f.n = omega arith in
    e2 ∙ rw (ends, words) (simp append_assoc)

-- a word more
pub laid_word : (ws : List ℕ) (i at : ℕ) (out : List ℕ) → i < length ws → at + 8 * length ws ≤ length out
    → laid (bytes_of 8 (get_or ws i 0)) (at + 8 * i) (laid (joined (take i ws)) at out) ≡ laid (joined (take (i + 1) ws)) at out
unfolding joined
laid_word ws i at out below room =
    let before : length (joined (take i ws)) ≡ 8 * length (take i ws) = length_joined (take i ws) in
    let passed : length (take i ws) ≡ i = length-take-le i ws (omega arith) in
    let eight : length (bytes_of 8 (get_or ws i 0)) ≡ 8 = length_bytes 8 (get_or ws i 0) in
    let more : joined (take (i + 1) ws) ≡ joined (take i ws) ++ bytes_of 8 (get_or ws i 0) =
    rw (add-one, take-suc ws i 0, joined_append, joined, append-nil) in
    rw more (laid_joined (joined (take i ws)) (bytes_of 8 (get_or ws i 0)) at (at + 8 * i) out (omega arith) (omega arith))

pub laid_none : (ws : List ℕ) (at : ℕ) (out : List ℕ) → out ≡ laid (joined (take 0 ws)) at out
unfolding joined
laid_none ws at out = rw add-zero (sym (take-append-drop at out))

pub length_laid_words : (ws : List ℕ) (i at : ℕ) (out : List ℕ) → i ≤ length ws → at + 8 * length ws ≤ length out → length (laid (joined (take i ws)) at out) ≡ length out
length_laid_words ws i at out below room =
    let before : length (joined (take i ws)) ≡ 8 * length (take i ws) = length_joined (take i ws) in
    let passed : length (take i ws) ≡ i = length-take-le i ws below in
    length_laid (joined (take i ws)) at out (omega arith)
