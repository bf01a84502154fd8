-- A page as it is seen: the place where the next text goes, beside the bytes. Text is put on it whole, or not begun.
use Rattle.std.specs.Prelude.{◌≡◌, Bool, true, false, List, ◌++◌, ℕ, ◌+◌, ◌≤◌, leb, length, take, drop, Option, None, Some}
use Rattle.loops.specs.Choice.{when◌then◌else◌}
use Rattle.text.specs.declared.page.Page.{Page}

-- the place is none where the page is full
abbrev pub Sheet : Type 0
Sheet = Option ℕ × List ℕ

-- what is seen of a page
abbrev pub seen : Page → Sheet
seen page = (page.place, page.bytes.now)

-- the two are pages over the same lent slice
abbrev pub SamePage : Page → Page → Type 0
SamePage old new = new.bytes.ghost_name ≡ old.bytes.ghost_name

-- a page that is not full
abbrev pub stands_of : Option ℕ → Bool
stands_of (Some at) = true
stands_of None = false

-- whether a page of len bytes has room for k bytes at its place
abbrev pub room_for : ℕ → Option ℕ → ℕ → Bool
room_for k (Some at) len = leb (at + k) len
room_for k None len = false

-- the text is what stands before the place, which lies within the bytes
abbrev pub IsWritten : Sheet → List ℕ → Type 0
IsWritten (Some at, out) text = (at ≤ length out) × (text ≡ take at out)
IsWritten (None, out) text = ⊥

-- The text t put on a page: at its place, over what stood there. Where there is no room for the whole of it the page is
-- full, and a full page stays as it is.
unfoldable pub puts : List ℕ → Sheet → Sheet
puts t (Some at, out) =
    when leb (at + length t) (length out) then (Some (at + length t), take at out ++ (t ++ drop (at + length t) out)) else (None, out)
puts t (None, out) = (None, out)
