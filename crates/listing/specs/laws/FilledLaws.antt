-- What holds of a page under way: what one answer does to it, that it stays within its bytes, and how its answers are counted.
use Rattle.std.specs.Prelude.{◌≡◌, refl, true, false, List, ℕ, zero, suc, ◌-◌, ◌≤◌, ◌<◌, length, Float, Option, None, Some}
use Rattle.std.proofs.Common.{sym, ◌∙◌, subst, arith}
use Rattle.std.proofs.Math.Path.{ap}
use Rattle.loops.specs.laws.ChoiceLaws.{either, when_true, when_false}
use Rattle.text.specs.Page.{Sheet as Put, puts}
use Rattle.lines.specs.Lines.{refusal_line}
use Rattle.rules.specs.Answers.{is_question_or_notice}
use Rattle.rules.specs.State.{After, after}
use Rattle.listing.specs.Types.{Run, Turn}
use Rattle.listing.specs.Printed.{line_of}
use Rattle.listing.specs.Pages.{UnderWay, sheet_of, turn_of, onward, answered_at, answered, goes_on, filled, enough, refused_at, page_from, next_page}
use Rattle.listing.specs.laws.PutLaws.{PutAt, put_at}
use Rattle.listing.specs.declared.opening.Said.{Said}
use Rattle.listing.specs.declared.opening.Said.TheVariants.{Told, NoJob, Over}
use Rattle.listing.specs.declared.opening.Listing.{Listing}
use Rattle.listing.specs.declared.pages.Sheet.{Sheet}
use Rattle.listing.specs.declared.pages.Stop.TheVariants.{Not, NoRoom}

-- ---- one answer

module _ (a : List Float) (s : After Sheet) (out : List ℕ) {place : Option ℕ} {page : List ℕ} (put : ◌≡◌ {A = Put} (place, page) (puts (line_of (turn_of s)) (Some s.is.length, out))) where
  -- by the place that its line came to
  at_place : {p : Option ℕ} → place ≡ p → answered_at a (turn_of s) s.is.length (p, page) ≡ answered a (s, out)
  unfolding answered
  at_place e = ap (answered_at a (turn_of s) s.is.length) (ap (λ (p : Option ℕ). (p, page)) (sym e) ∙ put)

  pub answer_put : {next : ℕ} {r : After Sheet} → place ≡ Some next → r ≡ onward a (turn_of s) next → ◌≡◌ {A = UnderWay} (r, page) (answered a (s, out))
  answer_put e f = rw f (at_place e)

  pub answer_not_put : place ≡ None → ◌≡◌ {A = UnderWay} (sheet_of (turn_of s) s.is.length NoRoom, page) (answered a (s, out))
  answer_not_put e = at_place e

-- ---- within the page

abbrev pub Within : UnderWay → Type 0
Within u = u.0.is.length ≤ length u.1

onward_within : (a : List Float) (g : After Turn) (next : ℕ) (page : List ℕ) → next ≤ length page → Within (onward a g next, page)
unfolding onward
onward_within a g next page h =
    either (λ (s : After Sheet). s.is.length ≤ length page) (is_question_or_notice g.is.answer) (λ _. h) (λ _. h)

answered_at_within :
    (a : List Float) (g : After Turn) (at : ℕ) (out : List ℕ) (p : Put) → PutAt (line_of g) at out p → at ≤ length out → Within (answered_at a g at p)
answered_at_within a g at out (Some next, page) put h = onward_within a g next page put.0
answered_at_within a g at out (None, page) put h = rw put h

pub answered_within : (a : List Float) (u : UnderWay) → Within u → Within (answered a u)
unfolding answered
answered_within a (s, out) h = answered_at_within a (turn_of s) s.is.length out (puts (line_of (turn_of s)) (Some s.is.length, out)) (put_at _ _ _) h

filled_within : (k : ℕ) (a : List Float) (u : UnderWay) → Within u → Within (filled k a u)
unfolding filled
filled_within zero a u h = h
filled_within (suc k) a u h = either Within (goes_on u.0.is.stop) (λ _. filled_within k a (answered a u) (answered_within a u h)) (λ _. h)

refused_within : (number : ℕ) (run : Run) (out : List ℕ) (p : Put) → PutAt (refusal_line number) 0 out p → (refused_at number run p).0.length ≤ length (refused_at number run p).1
refused_within number run out (Some next, page) put = put.0
refused_within number run out (None, page) put = omega arith

page_within : (a : List Float) (said : Said) (run : Run) (ws q : List Float) (out : List ℕ) → let p = page_from a said run ws q out in p.0.is.length ≤ length p.1
page_within a (Told answer) run ws q out = filled_within enough a (sheet_of (after (record { answer = answer; run = run }) ws q) 0 Not, out) (omega arith)
page_within a (NoJob number) run ws q out = refused_within number run out (puts (refusal_line number) (Some 0, out)) (put_at _ _ _)
page_within a Over run ws q out = omega arith

-- a page's text lies within its bytes
pub next_page_within : (a : List Float) (l : After Listing) (out : List ℕ) → (next_page a l out).0.is.length ≤ length (next_page a l out).1
unfolding next_page
next_page_within a l out = page_within a l.is.said l.is.run l.ws l.q out

-- ---- answer by answer

pub filled_none : (k : ℕ) (a : List Float) (u : UnderWay) → k ≡ 0 → filled k a u ≡ u
unfolding filled
filled_none zero a u e = refl
filled_none (suc k) a u e = absurd (omega arith)

pub filled_stops : (k : ℕ) (a : List Float) (u : UnderWay) → goes_on u.0.is.stop ≡ false → filled k a u ≡ u
unfolding filled
filled_stops zero a u e = refl
filled_stops (suc k) a u e = when_false _ _ e

filled_suc : (k : ℕ) (a : List Float) (u : UnderWay) → goes_on u.0.is.stop ≡ true → filled (suc k) a u ≡ filled k a (answered a u)
unfolding filled
filled_suc k a u e = when_true _ _ e

pub filled_more : (k : ℕ) (a : List Float) (u : UnderWay) → 0 < k → goes_on u.0.is.stop ≡ true → filled k a u ≡ filled (k - 1) a (answered a u)
filled_more k a u some e =
    let one_more : suc (k - 1) ≡ k = omega arith in
    subst (λ (j : ℕ). filled j a u ≡ filled (k - 1) a (answered a u)) one_more (filled_suc (k - 1) a u e)
