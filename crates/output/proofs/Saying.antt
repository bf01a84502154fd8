-- When what was said stays as it was: where nothing was written, and where just the page up to its place was.
use Rattle.std.specs.Prelude.{◌≡◌, true, ℕ, List, take, [], Option, None, Some, Result, Ok, Err, OnOk}
use Rattle.std.specs.Io.KnownBytes.{Appends, Keeps}
use Rattle.std.specs.Result.{is_ok}
use Rattle.std.proofs.Common.{refl, arith}
use Rattle.std.proofs.lemmas.Grind.{common_steps}
use Rattle.output.specs.Output.{SaysTheSame, KeepsSaid}

unwritten : (held : Option (List ℕ)) (page : List ℕ) → SaysTheSame held held page page
unwritten None page = tt
unwritten (Some held) page = refl

kept : (held : Option (List ℕ)) → Keeps held held
kept None = tt
kept (Some held) = refl

pub same_place : (held : Option (List ℕ)) (out : List ℕ) (place : Option ℕ) → KeepsSaid held held out place place
same_place held out (Some at) = unwritten held (take at out)
same_place held out None = kept held

pub given_up : (held : Option (List ℕ)) (out : List ℕ) (place : Option ℕ) → KeepsSaid held held out place None
given_up held out (Some at) = tt
given_up held out None = kept held

pub broken_off : (old new : Option (List ℕ)) (out : List ℕ) {at : ℕ} {place : Option ℕ} → place ≡ Some at → KeepsSaid old new out place None
broken_off old new out p = rw p tt

appended : (old new : Option (List ℕ)) (page : List ℕ) → Appends old new page → SaysTheSame old new page []
appended None new page h = tt
appended (Some held) None page h = h
appended (Some held) (Some holds) page h = grind (arith, common_steps)

pub written_out : (old new : Option (List ℕ)) (out : List ℕ) (at : ℕ) {place : Option ℕ} → place ≡ Some at → Appends old new (take at out) → KeepsSaid old new out place (Some 0)
written_out old new out at p h = rw p (appended old new (take at out) h)

pub of_ok : {T E P : Type 0} (r : Result T E) → is_ok r ≡ true → OnOk r P → P
of_ok (Ok x) e h = h
of_ok (Err x) e h = absurd cc
