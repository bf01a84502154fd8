-- Where the next text goes once a page was written out. Whether a write is done is not ours to say, and no contract tells it: it
-- stands here as a truth value of which nothing is known. What it is, and the page and its place, decide the place that comes back.
use Rattle.std.specs.Prelude.{◌≡◌, Bool, ℕ, ◌+◌, leb, List, ◌++◌, take, ⊤, Option, None, Some}
use Rattle.std.specs.Io.KnownBytes.{Keeps}
use Rattle.loops.specs.Choice.{when◌then◌else◌}

-- A page of `len` bytes, written out up to its place: it begins anew, or is full where the write failed or there was no such
-- part of it to write. A full page stays full.
unfoldable pub flushed : Bool → ℕ → Option ℕ → Option ℕ
flushed written len (Some at) = when leb at len then (when written then Some 0 else None) else None
flushed written len None = None

-- the same, but only where fewer than `line` bytes are left on it
unfoldable pub made_roomy : Bool → ℕ → ℕ → Option ℕ → Option ℕ
unfolding flushed
made_roomy written len line (Some at) = when leb (at + line) len then Some at else flushed written len (Some at)
made_roomy written len line None = None

-- r is the place that comes back, whatever became of the write
pub record Flushed (len : ℕ) (place r : Option ℕ) : Type 0 where
  pub written : Bool
  pub is : r ≡ flushed written len place

pub record MadeRoomy (len line : ℕ) (place r : Option ℕ) : Type 0 where
  pub written : Bool
  pub is : r ≡ made_roomy written len line place

-- What a writer held and the bytes behind it are what it holds now and the bytes then behind it, where that is known.
abbrev pub SaysTheSame : Option (List ℕ) → Option (List ℕ) → List ℕ → List ℕ → Type 0
SaysTheSame None new before after = ⊤
SaysTheSame (Some held) None before after = ⊥
SaysTheSame (Some held) (Some holds) before after = held ++ before ≡ holds ++ after

-- What was written and then the page up to its place are as they were: no byte of it is lost, none comes twice. A full page is not
-- written. Where a write fails a part of it may be.
abbrev pub KeepsSaid : Option (List ℕ) → Option (List ℕ) → List ℕ → Option ℕ → Option ℕ → Type 0
KeepsSaid old new out (Some at) (Some next) = SaysTheSame old new (take at out) (take next out)
KeepsSaid old new out (Some at) None = ⊤
KeepsSaid old new out None r = Keeps old new
