-- `word_at`: the eight bytes are there or not, and the library's number of eight bytes is the word's fold.
use Rattle.std.proofs.Common.{◌≡◌, sym, ap, ◌∙◌, ℕ, ◌+◌, ◌≤◌, ◌<◌, List, length, get_or, take, drop, Some, None, arith, le-leb, le_refl, ◌⊎◌, inl, inr, get_or-drop}
use Rattle.std.proofs.lemmas.Bool.{lt-leb}
use Rattle.std.proofs.lemmas.List.{get_or-take}
use Rattle.std.proofs.lemmas.Slice.{between_to_end}
use Rattle.std.specs.Int.{from_be_bytes}
use mir.Syntax.{w64}
use Rattle.loops.specs.Loop.{turns, loop}
use Rattle.loops.specs.laws.ChoiceLaws.{when_true, when_false}
use Rattle.text.specs.Words.{word_at, word_from}
use Rattle.text.proofs.word.word_at.Goals as goal

too_few : (s : List ℕ) (at : ℕ) → length s < at + 8 → word_at s at ≡ None
unfolding word_at
too_few s at h = when_false _ _ (lt-leb (at + 8) (length s) h)

enough : (s : List ℕ) (at : ℕ) → at + 8 ≤ length s → word_at s at ≡ Some (word_from s at)
unfolding word_at
enough s at h = when_true _ _ (le-leb (at + 8) (length s) h)

beyond : (s : List ℕ) (at : ℕ) → (length s < at) ⊎ (length s < length s) → length s < at + 8
beyond s at (inl h) = omega arith
beyond s at (inr h) = absurd (omega arith)

byte : (s : List ℕ) (at : ℕ) (i : ℕ) → i < 8 → get_or (take 8 (drop at s)) i 0 ≡ get_or s (at + i) 0
byte s at i h = get_or-take 8 (drop at s) i 0 h ∙ get_or-drop at s i 0

folded : (s : List ℕ) (at : ℕ) (eight : List ℕ) → eight ≡ take 8 (drop at s) → from_be_bytes w64 eight ≡ word_from s at
unfolding word_from loop turns
folded s at eight e =
    let b = byte s at in
    let b0 = b 0 (omega arith) in
    let b1 = b 1 (omega arith) in
    let b2 = b 2 (omega arith) in
    let b3 = b 3 (omega arith) in
    let b4 = b 4 (omega arith) in
    let b5 = b 5 (omega arith) in
    let b6 = b 6 (omega arith) in
    let b7 = b 7 (omega arith) in
    rw e (omega arith)

pub returns-in_err-get : goal.returns-in_err-get
returns-in_err-get c = c.from_residual.ensures ∙ sym (too_few _ _ (beyond _ _ c.in_err-get.ensures.lookup.0))

pub returns-in_err-eight : goal.returns-in_err-eight
returns-in_err-eight c =
    let h = c.in_ok-get.ensures.lookup in
    let g = c.in_err-eight.ensures.cases in
    c.from_residual-in_err-eight.ensures ∙ sym (too_few _ _ (omega arith))

pub returns : goal.returns
returns c =
    let h = c.in_ok-get.ensures.lookup.0 in
    let g = c.in_ok-eight.ensures.cases in
    let room : c.args.at + 8 ≤ length c.args.s.now = (let n = g.enough in omega arith) in
    let part : c.in_ok-eight.eight.now ≡ take 8 (drop c.args.at c.args.s.now) = g.same ∙ ap (take 8) (h.2 ∙ between_to_end c.args.s.now c.args.at (length c.args.s.now) (le_refl (length c.args.s.now))) in
    ap Some (c.from_be_bytes.ensures ∙ folded _ _ _ part) ∙ sym (enough _ _ room)
