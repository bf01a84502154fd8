-- What putting text on a page comes to, in the terms of the code that does it: with room, and without.
use Rattle.std.proofs.Common.{◌≡◌, refl, sym, false, List, [], ◌∷◌, ◌++◌, ℕ, ◌+◌, ◌-◌, ◌≤◌, ◌<◌, length, take, drop, slice_set, Option, None, Some, arith, le-leb, add-one, drop-drop, length-drop, length-take-le}
use Rattle.loops.specs.laws.ChoiceLaws.{when_true, when_false}
use lib.Seq.{set_split}
use borrow.Rule.Slice.PartMut.{put_mid}
use Rattle.text.specs.Page.{Sheet, puts, room_for}

-- what is laid over the bytes that have room is the text put there
laid_is_put : (t out : List ℕ) (at : ℕ) {place next : Option ℕ} → place ≡ Some at → at + length t ≤ length out → next ≡ Some (at + length t)
    → ◌≡◌ {A = Sheet} (next, take at out ++ (t ++ drop (at + length t) out)) (puts t (place, out))
unfolding puts
laid_is_put t out at p h n = rw (n, p) (sym (when_true _ _ (le-leb (at + length t) (length out) h)))

-- as a row of k bytes, or as one byte
pub row_is_put :
    (t out : List ℕ) (at k : ℕ) {now part : List ℕ} {place next : Option ℕ} → length t ≡ k → now ≡ out →
    (place ≡ Some at) × (at + k ≤ length out) × (next ≡ Some (at + k)) → part ≡ t →
    ◌≡◌ {A = Sheet} (next, put_mid at (at + k - at) now part) (puts t (place, out))
row_is_put t out at k l s p e =
    let d : at + k - at ≡ length t = omega arith in
    let laid : put_mid at (length t) out t ≡ take at out ++ (t ++ drop (at + length t) out) = rw drop-drop refl in
    rw (s, e, d, laid) (laid_is_put t out at p.0 (rw l p.1) (rw l p.2))

pub byte_is_put :
    (b : ℕ) (out : List ℕ) (at : ℕ) {now : List ℕ} {place next : Option ℕ} → now ≡ out →
    (place ≡ Some at) × (at + 1 ≤ length out) × (next ≡ Some (at + 1)) → ◌≡◌ {A = Sheet} (next, slice_set now at b) (puts (b ∷ []) (place, out))
byte_is_put b out at s p =
    let inside : at < length out = (let room = p.1 in omega arith) in
    rw (s, set_split out at b inside, ← add-one) (laid_is_put (b ∷ []) out at p.0 p.1 p.2)

-- and where they have none the page is full
pub refused_is_put :
    (t out : List ℕ) (k : ℕ) (place : Option ℕ) {now : List ℕ} {next : Option ℕ} → length t ≡ k → now ≡ out → (room_for k place (length out) ≡ false) × (next ≡ None) →
    ◌≡◌ {A = Sheet} (next, now) (puts t (place, out))
unfolding puts
refused_is_put t out k None l s f = rw (s, f.1) refl
refused_is_put t out k (Some at) l s f = rw (s, f.1) (sym (when_false _ _ (rw l f.0)))

-- how long the part is that k bytes take
pub part_length : (out : List ℕ) (at k : ℕ) → at + k ≤ length out → length (take (at + k - at) (drop at out)) ≡ k
part_length out at k h =
    let d : at + k - at ≡ k = omega arith in
    rw d (length-take-le k (drop at out) (rw length-drop (omega arith)))
