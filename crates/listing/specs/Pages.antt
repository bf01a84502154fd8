-- A listing, page by page: what is due goes from call to call by value, and each page takes as many whole lines as it has room for.
-- That the pages, one after another, are the whole output is in promises/PagesJoin.antt, that they come to their end in PagesEnd.antt.
use Rattle.std.specs.Prelude.{Bool, true, false, List, ℕ, zero, suc, ◌-◌, ◌^◌, take, Float, None, Some}
use Rattle.loops.specs.Choice.{when◌then◌else◌}
use Rattle.loops.specs.Refusal.{gives, refuses}
use Rattle.text.specs.Page.{Sheet as Put, puts}
use Rattle.lines.specs.Lines.{refusal_line}
use Rattle.rules.specs.Answers.{is_question_or_notice}
use Rattle.rules.specs.State.{After, after}
use Rattle.rules.specs.Begin.{nothing}
use Rattle.rules.specs.Calls.{beginning}
use Rattle.job.specs.Reading.{ReadOutcome, configuration_of}
use Rattle.listing.specs.Types.{Ended, Run, Turn}
use Rattle.listing.specs.Replies.{replied}
use Rattle.listing.specs.Printed.{line_of, reading}
use Rattle.listing.specs.declared.opening.Said.{Said}
use Rattle.listing.specs.declared.opening.Said.TheVariants.{Told, NoJob, Over}
use Rattle.listing.specs.declared.opening.Listing.{Listing}
use Rattle.listing.specs.declared.pages.Page.{Page}
use Rattle.listing.specs.declared.pages.Sheet.{Sheet}
use Rattle.listing.specs.declared.pages.Stop.{Stop}
use Rattle.listing.specs.declared.pages.Stop.TheVariants.{Not, NoRoom, AtEnd}

-- ---- what is due

-- the line of a turn's answer
abbrev pub due_of : Turn → Listing
due_of t = record { said = Told t.answer; run = t.run }

-- the line of a file's refusal: there is no run, and its state is that of one with nothing to do, which has ended
abbrev pub refused_of : ℕ → Listing
refused_of number = record { said = NoJob number; run = record { awaited = Ended; at = nothing } }

-- nothing more
abbrev pub over_of : Run → Listing
over_of run = record { said = Over; run = run }

-- ---- opening: what is due first, and what the array for A holds. A run that begins has its matrix there; otherwise it stays

abbrev pub due_after : After Turn → After Listing
due_after g = after (due_of g.is) g.ws g.q

-- a run's beginning, where its matrix was read to b
abbrev pub begun_with : After Turn → List Float → List Float → After Listing × List Float
begun_with g b a = (due_after g, when is_question_or_notice g.is.answer then b else a)

abbrev pub opened_from : ReadOutcome → List Float → List Float → List Float → After Listing × List Float
opened_from (gives job, y0, b) a ws q = begun_with (beginning (configuration_of job (take job.n y0)) ws q) b a
opened_from (refuses number, y0, b) a ws q = (after (refused_of number) ws q, a)

unfoldable pub opened : List ℕ → List Float → List Float → List Float → After Listing × List Float
opened s a ws q = opened_from (reading s) a ws q

-- ---- a page under way: the sheet, and the page's bytes

abbrev pub UnderWay : Type 0
UnderWay = After Sheet × List ℕ

abbrev pub sheet_of : After Turn → ℕ → Stop → After Sheet
sheet_of g length stop = after (record { turn = g.is; length = length; stop = stop }) g.ws g.q

-- what the sheet's run said last
abbrev pub turn_of : After Sheet → After Turn
turn_of s = after s.is.turn s.ws s.q

-- past the line of an answer: the reply to it, or the listing's end
unfoldable pub onward : List Float → After Turn → ℕ → After Sheet
onward a g length = when is_question_or_notice g.is.answer then sheet_of (replied a g) length Not else sheet_of g length AtEnd

-- by whether the line was put: where it has no room it stays due
abbrev pub answered_at : List Float → After Turn → ℕ → Put → UnderWay
answered_at a g length (Some next, out) = (onward a g next, out)
answered_at a g length (None, out) = (sheet_of g length NoRoom, out)

unfoldable pub answered : List Float → UnderWay → UnderWay
answered a (s, out) = answered_at a (turn_of s) s.is.length (puts (line_of (turn_of s)) (Some s.is.length, out))

abbrev pub goes_on : Stop → Bool
goes_on Not = true
goes_on NoRoom = false
goes_on AtEnd = false

-- at most k answers
unfoldable pub filled : ℕ → List Float → UnderWay → UnderWay
filled zero a u = u
filled (suc k) a u = when goes_on u.0.is.stop then filled k a (answered a u) else u

-- more answers than any run has
abbrev pub enough : ℕ
enough = 2 ^ 64 - 1

-- ---- a page: what is due after it, how many bytes it has, and the bytes

abbrev pub Paged : Type 0
Paged = After Page × List ℕ

abbrev pub page_of : Listing → ℕ → Page
page_of l length = record { listing = l; length = length }

abbrev pub stopped_of : Stop → Turn → Listing
stopped_of Not t = due_of t
stopped_of NoRoom t = due_of t
stopped_of AtEnd t = over_of t.run

abbrev pub given_of : Sheet → Page
given_of s = page_of (stopped_of s.stop s.turn) s.length

abbrev pub paged_of : UnderWay → Paged
paged_of (s, out) = (after (given_of s.is) s.ws s.q, out)

-- the page on which a file's refusal is put, and its bytes
abbrev pub refused_at : ℕ → Run → Put → Page × List ℕ
refused_at number run (Some length, out) = (page_of (over_of run) length, out)
refused_at number run (None, out) = (page_of (record { said = NoJob number; run = run }) 0, out)

abbrev pub page_from : List Float → Said → Run → List Float → List Float → List ℕ → Paged
page_from a (Told answer) run ws q out = paged_of (filled enough a (sheet_of (after (record { answer = answer; run = run }) ws q) 0 Not, out))
page_from a (NoJob number) run ws q out =
    let p = refused_at number run (puts (refusal_line number) (Some 0, out)) in (after p.0 ws q, p.1)
page_from a Over run ws q out = (after (page_of (over_of run) 0) ws q, out)

unfoldable pub next_page : List Float → After Listing → List ℕ → Paged
next_page a l out = page_from a l.is.said l.is.run l.ws l.q out
