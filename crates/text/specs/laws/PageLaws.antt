-- What holds of pages: text put after text is the two put at once, where there is room for both. So a line that is written
-- field by field is the line.
use Rattle.std.specs.Prelude.{◌≡◌, refl, List, ◌++◌, ℕ, ◌+◌, ◌≤◌, take, drop, Some}
use Rattle.std.proofs.Common.{sym, ap, ◌∙◌, append_assoc, arith, length-append, length-drop, take_at, drop_at, drop-drop, length-take-le, le-leb}
use Rattle.std.proofs.Math.ListN.{length}
use Rattle.loops.specs.laws.ChoiceLaws.{when_true}
use Rattle.text.specs.Page.{puts}

-- the bytes with t laid over them from `at` on
abbrev pub laid : List ℕ → ℕ → List ℕ → List ℕ
laid t at out = take at out ++ (t ++ drop (at + length t) out)

module _ (t : List ℕ) (at : ℕ) (out : List ℕ) (room : at + length t ≤ length out) where
  pub puts_whole : puts t (Some at, out) ≡ (Some (at + length t), laid t at out)
  unfolding puts
  puts_whole = when_true _ _ (le-leb (at + length t) (length out) room)

  front_length : length (take at out ++ t) ≡ at + length t
  front_length =
      let e : length (take at out) ≡ at = length-take-le at out (omega arith) in
      simp length-append (omega arith)

  -- what stands before the next place, and from it on
  pub before_next : take (at + length t) (laid t at out) ≡ take at out ++ t
  before_next = rw (← append_assoc) (take_at (take at out ++ t) (drop (at + length t) out) (at + length t) front_length)

  pub after_next : drop (at + length t) (laid t at out) ≡ drop (at + length t) out
  after_next = rw (← append_assoc) (drop_at (take at out ++ t) (drop (at + length t) out) (at + length t) front_length)

  pub length_laid : length (laid t at out) ≡ length out
  length_laid =
      let e : length (take at out) ≡ at = length-take-le at out (omega arith) in
      simp (length-append, length-drop) (omega arith)

pub puts_joined : (t u : List ℕ) (at : ℕ) (out : List ℕ) → at + length (t ++ u) ≤ length out → puts u (puts t (Some at, out)) ≡ puts (t ++ u) (Some at, out)
puts_joined t u at out room =
    let e : length (t ++ u) ≡ length t + length u = length-append t u in
    let first : at + length t ≤ length out = omega arith in
    let second : at + length t + length u ≤ length (laid t at out) = omega (arith, length_laid t at out first) in
    let next : at + length t + length u ≡ at + length (t ++ u) = omega arith in
    let beyond : drop (at + length t + length u) (laid t at out) ≡ drop (at + length (t ++ u)) out =
    sym (drop-drop (length u) (at + length t) (laid t at out))
    ∙ ap (drop (length u)) (after_next t at out first)
    ∙ drop-drop (length u) (at + length t) out
    ∙ ap (λ (n : ℕ). drop n out) next in
    rw (puts_whole t at out first, puts_whole u (at + length t) (laid t at out) second, puts_whole (t ++ u) at out room)
    (rw (before_next t at out first, beyond, next, append_assoc, append_assoc) refl)
