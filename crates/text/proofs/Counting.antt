-- A number between one power of ten and the next has so many decimal digits: by induction, a division by ten takes one of both.
use Rattle.std.proofs.Common.{◌≡◌, refl, ℕ, zero, suc, ◌+◌, ◌*◌, ◌/◌, ◌^◌, ◌≤◌, ◌<◌, max, arith, pow-suc}
use Rattle.std.proofs.lemmas.Bool.{lt-ltb, le-ltb}
use Rattle.loops.specs.laws.ChoiceLaws.{when_true, when_false}
use Rattle.text.specs.Digits.{places_within, places_of}

places_last : (more n : ℕ) → n < 10 → places_within more n ≡ 1
unfolding places_within
places_last zero n h = refl
places_last (suc more) n h = when_true _ _ (lt-ltb n 10 h)

places_more : (more n : ℕ) → 10 ≤ n → places_within (suc more) n ≡ places_within more (n / 10) + 1
unfolding places_within
places_more more n h = when_false _ _ (le-ltb n 10 h)

ten_pow_pos : (k : ℕ) → 0 < 10 ^ k
ten_pow_pos zero = omega arith
ten_pow_pos (suc k) = let e : 10 ^ suc k ≡ 10 ^ k * 10 = pow-suc 10 k in let h : 0 < 10 ^ k = ten_pow_pos k in omega arith

between : (more k n : ℕ) → 10 ^ k ≤ n → n < 10 * 10 ^ k → k ≤ more → places_within more n ≡ k + 1
between more zero n low high h = places_last more n (omega arith)
between zero (suc k) n low high h = elim h [ ]
between (suc more) (suc k) n low high h =
    let e : 10 ^ suc k ≡ 10 ^ k * 10 = pow-suc 10 k in
    let p : 0 < 10 ^ k = ten_pow_pos k in
    let rest : places_within more (n / 10) ≡ k + 1 = between more k (n / 10) (omega arith) (omega arith) (omega arith) in
    let one : places_within (suc more) n ≡ places_within more (n / 10) + 1 = places_more more n (omega arith) in
    omega arith

-- none is counted as one
pub places_of_power : (k n m : ℕ) → m ≡ max n 1 → 10 ^ k ≤ m → m < 10 * 10 ^ k → k < 20 → k + 1 ≡ places_of n
places_of_power k zero m e low high h =
    let p : 0 < 10 ^ k = ten_pow_pos k in
    let one : places_within 19 0 ≡ 1 = places_last 19 0 (omega arith) in
    let t : places_within 19 1 ≡ k + 1 = between 19 k 1 (omega arith) (omega arith) (omega arith) in
    let u : places_within 19 1 ≡ 1 = places_last 19 1 (omega arith) in
    omega arith
places_of_power k (suc n) m e low high h =
    let t : places_within 19 (suc n) ≡ k + 1 = between 19 k (suc n) (omega arith) (omega arith) (omega arith) in
    omega arith
