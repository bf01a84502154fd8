-- The contracts of this crate leave no choice: two outcomes that meet one of them, from the same call, are the same answer and the
-- same bytes left on the page. Each `Meets..` is what the code's contract states of the answer and of what is seen of the page: an equation, for
-- `written` of the text that is lent, if there is one.
use Rattle.std.specs.Prelude.{◌≡◌, refl, Bool, true, false, not, List, [], ◌∷◌, ℕ, ◌+◌, length, Float, Option, None, Some, MatchOption}
use Rattle.std.proofs.Common.{sym, ap, ◌∙◌, arith, true≢false, le-leb}
use Rattle.std.specs.Float.{binary64}
use Rattle.std.specs.Float.Ieee.{to_bits, of_bits}
use Rattle.text.specs.Digits.{places_of, decimal, hexadecimal}
use Rattle.text.specs.Page.{Sheet, puts, stands_of, room_for, IsWritten}
use Rattle.text.specs.Words.{word_at, bytes_of}

-- ---- text put on a page: one lemma over the text

abbrev pub MeetsPut : List ℕ → Sheet → Option ℕ → List ℕ → Type 0
MeetsPut t page r out = ◌≡◌ {A = Sheet} (r, out) (puts t page)

module _ (page : Sheet) {r s : Option ℕ} {out other : List ℕ} where
  pub put_unique : (t : List ℕ) → MeetsPut t page r out → MeetsPut t page s other → (r ≡ s) × (out ≡ other)
  put_unique t m o = let same = m ∙ sym o in (ap (λ (p : Sheet). p.0) same, ap (λ (p : Sheet). p.1) same)

  pub put_byte_unique : (b : ℕ) → MeetsPut (b ∷ []) page r out → MeetsPut (b ∷ []) page s other → (r ≡ s) × (out ≡ other)
  put_byte_unique b = put_unique (b ∷ [])

  pub put_bytes_unique : (t : List ℕ) → MeetsPut t page r out → MeetsPut t page s other → (r ≡ s) × (out ≡ other)
  put_bytes_unique t = put_unique t

  pub put_count_unique : (n : ℕ) → MeetsPut (decimal n) page r out → MeetsPut (decimal n) page s other → (r ≡ s) × (out ≡ other)
  put_count_unique n = put_unique (decimal n)

  pub put_double_unique : (x : Float) → MeetsPut (hexadecimal x) page r out → MeetsPut (hexadecimal x) page s other → (r ≡ s) × (out ≡ other)
  put_double_unique x = put_unique (hexadecimal x)

  pub put_word_unique : (k w : ℕ) → MeetsPut (bytes_of k w) page r out → MeetsPut (bytes_of k w) page s other → (r ≡ s) × (out ≡ other)
  put_word_unique k w = put_unique (bytes_of k w)

-- the standard library's text, and whether it failed
abbrev pub MeetsWriteStr : List ℕ → Sheet → Bool → Sheet → Type 0
MeetsWriteStr t page failed r = (r ≡ puts t page) × (failed ≡ not (stands_of r.0))

pub write_str_unique : (t : List ℕ) (page : Sheet) {f g : Bool} {r s : Sheet} → MeetsWriteStr t page f r → MeetsWriteStr t page g s → (f ≡ g) × (r ≡ s)
write_str_unique t page m o =
    let same = m.0 ∙ sym o.0 in
    (m.1 ∙ ap (λ (p : Sheet). not (stands_of p.0)) same ∙ sym o.1, same)

-- ---- a page made, begun anew and closed: what is seen of it

abbrev pub MeetsNew : List ℕ → Sheet → Type 0
MeetsNew bytes r = r ≡ (Some 0, bytes)

pub new_unique : (bytes : List ℕ) {r s : Sheet} → MeetsNew bytes r → MeetsNew bytes s → r ≡ s
new_unique bytes m o = m ∙ sym o

abbrev pub MeetsAt : List ℕ → ℕ → Sheet → Type 0
MeetsAt bytes place r = r ≡ (Some place, bytes)

pub at_unique : (bytes : List ℕ) (place : ℕ) {r s : Sheet} → MeetsAt bytes place r → MeetsAt bytes place s → r ≡ s
at_unique bytes place m o = m ∙ sym o

abbrev pub MeetsClear : Sheet → Sheet → Type 0
MeetsClear page r = r ≡ (Some 0, page.1)

pub clear_unique : (page : Sheet) {r s : Sheet} → MeetsClear page r → MeetsClear page s → r ≡ s
clear_unique page m o = m ∙ sym o

abbrev pub MeetsClose : Sheet → Sheet → Type 0
MeetsClose page r = r ≡ (None, page.1)

pub close_unique : (page : Sheet) {r s : Sheet} → MeetsClose page r → MeetsClose page s → r ≡ s
close_unique page m o = m ∙ sym o

-- ---- what a page tells

abbrev pub MeetsPlace : Sheet → Option ℕ → Type 0
MeetsPlace page r = r ≡ page.0

pub place_unique : (page : Sheet) {r s : Option ℕ} → MeetsPlace page r → MeetsPlace page s → r ≡ s
place_unique page m o = m ∙ sym o

abbrev pub MeetsIsFull : Option ℕ → Bool → Type 0
MeetsIsFull place r = r ≡ not (stands_of place)

pub is_full_unique : (place : Option ℕ) {r s : Bool} → MeetsIsFull place r → MeetsIsFull place s → r ≡ s
is_full_unique place m o = m ∙ sym o

abbrev pub MeetsHasRoom : ℕ → Sheet → Bool → Type 0
MeetsHasRoom k page r = r ≡ room_for k page.0 (length page.1)

pub has_room_unique : (k : ℕ) (page : Sheet) {r s : Bool} → MeetsHasRoom k page r → MeetsHasRoom k page s → r ≡ s
has_room_unique k page m o = m ∙ sym o

-- of the text that is lent
abbrev pub MeetsWritten : Sheet → Option (List ℕ) → Type 0
MeetsWritten page r = MatchOption r (room_for 0 page.0 (length page.1) ≡ false) (IsWritten page)

-- there is a text where the place lies within, and none elsewhere
within_has : (page : Sheet) (t : List ℕ) → IsWritten page t → room_for 0 page.0 (length page.1) ≡ true
within_has (Some at, out) t w = let h = w.0 in le-leb (at + 0) (length out) (omega arith)
within_has (None, out) t w = absurd w

one_text : (page : Sheet) (t u : List ℕ) → IsWritten page t → IsWritten page u → t ≡ u
one_text (Some at, out) t u m o = m.1 ∙ sym o.1
one_text (None, out) t u m o = absurd m

pub written_unique : (page : Sheet) (r s : Option (List ℕ)) → MeetsWritten page r → MeetsWritten page s → r ≡ s
written_unique page None None m o = refl
written_unique page None (Some u) m o = absurd (true≢false (sym (within_has page u o) ∙ m))
written_unique page (Some t) None m o = absurd (true≢false (sym (within_has page t m) ∙ o))
written_unique page (Some t) (Some u) m o = ap Some (one_text page t u m o)

-- ---- the others give one value

abbrev pub MeetsStands : Option ℕ → Bool → Type 0
MeetsStands place r = r ≡ stands_of place

pub stands_unique : (place : Option ℕ) {r s : Bool} → MeetsStands place r → MeetsStands place s → r ≡ s
stands_unique place m o = m ∙ sym o

abbrev pub MeetsPlaces : ℕ → ℕ → Type 0
MeetsPlaces n r = r ≡ places_of n

pub places_unique : (n : ℕ) {r s : ℕ} → MeetsPlaces n r → MeetsPlaces n s → r ≡ s
places_unique n m o = m ∙ sym o

abbrev pub MeetsBits : Float → ℕ → Type 0
MeetsBits x r = r ≡ to_bits binary64 x

pub bits_unique : (x : Float) {r s : ℕ} → MeetsBits x r → MeetsBits x s → r ≡ s
bits_unique x m o = m ∙ sym o

abbrev pub MeetsDouble : ℕ → Float → Type 0
MeetsDouble w r = r ≡ of_bits binary64 w

pub double_unique : (w : ℕ) {r s : Float} → MeetsDouble w r → MeetsDouble w s → r ≡ s
double_unique w m o = m ∙ sym o

abbrev pub MeetsWordAt : List ℕ → ℕ → Option ℕ → Type 0
MeetsWordAt s at r = r ≡ word_at s at

pub word_at_unique : (s : List ℕ) (at : ℕ) {r t : Option ℕ} → MeetsWordAt s at r → MeetsWordAt s at t → r ≡ t
word_at_unique s at m o = m ∙ sym o
