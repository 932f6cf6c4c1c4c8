-- A number that was spelled at a place stands there, and what stands there is what it spells.
use Rattle.std.proofs.Common.{◌≡◌, ℕ, ◌+◌, ◌^◌, ◌≤◌, ◌<◌, List, ◌++◌, length, get_or, take, drop, refl, sym, ap, ◌∙◌, arith, inl, inr}
use Rattle.std.specs.Int.{Width, w32, w64, byte_len, from_be_bytes, to_be_bytes}
use Rattle.std.proofs.lemmas.Bool.{cases_lt}
use Rattle.std.proofs.lemmas.List.{take_at, take-append-drop, drop-drop, length-take, length-drop, get_or-drop, get_or-take, get_or_past}
use Rattle.std.proofs.lemmas.Nat.{be_bytes_4, be_bytes_8, from_be_bytes-to_be_bytes_4, from_be_bytes-to_be_bytes_8}
use Rattle.sota_polfile.specs.Places.{number_at}

abbrev pub IsBytes : List ℕ → Type 0
IsBytes bytes = (i : ℕ) → get_or bytes i 0 < 256

IsBytes-drop : (n : ℕ) (bytes : List ℕ) → IsBytes bytes → IsBytes (drop n bytes)
IsBytes-drop n bytes h i = rw get_or-drop (h (n + i))

IsBytes-take : (n : ℕ) (bytes : List ℕ) → IsBytes bytes → IsBytes (take n bytes)
IsBytes-take n bytes h i =
    elim (cases_lt i n) [
      | inl lt ↦ rw (get_or-take n bytes i 0 lt) (h i)
      | inr le ↦ rw (get_or_past (take n bytes) i 0 (omega (arith, length-take n bytes))) (omega arith)
    ]

-- what the two conversions of a width do
pub record IsWide (w : Width) (limit : ℕ) : Type 0 where
  pub len : (n : ℕ) → length (to_be_bytes w n) ≡ byte_len w
  pub back : (bytes : List ℕ) → length bytes ≡ byte_len w → IsBytes bytes → to_be_bytes w (from_be_bytes w bytes) ≡ bytes
  pub again : (n : ℕ) → n < limit → from_be_bytes w (to_be_bytes w n) ≡ n
  pub below : (bytes : List ℕ) → IsBytes bytes → from_be_bytes w bytes < limit

pub wide32 : IsWide w32 (2 ^ 32)
wide32 = record {
  len = λ n. refl;
  back = λ bytes len fits. be_bytes_4 bytes _ len fits refl;
  again = λ n lt. from_be_bytes-to_be_bytes_4 n lt;
  below = λ bytes fits. omega (arith, fits 0, fits 1, fits 2, fits 3);
}

pub wide64 : IsWide w64 (2 ^ 64)
wide64 = record {
  len = λ n. refl;
  back = λ bytes len fits. be_bytes_8 bytes _ len fits refl;
  again = λ n lt. from_be_bytes-to_be_bytes_8 n lt;
  below = λ bytes fits. omega (arith, fits 0, fits 1, fits 2, fits 3, fits 4, fits 5, fits 6, fits 7);
}

-- what stands further on, where it is known how the bytes go on at a place
pub moved : (at k : ℕ) (bytes text : List ℕ) → drop at bytes ≡ text → drop (at + k) bytes ≡ drop k text
moved at k bytes text e = sym (drop-drop k at bytes) ∙ ap (drop k) e

pub room : (at k : ℕ) (bytes text : List ℕ) → drop at bytes ≡ text → 1 ≤ k → k ≤ length text → at + k ≤ length bytes
room at k bytes text e some long = omega (arith, length-drop at bytes, ap length e)

pub number_again : (w : Width) (limit : ℕ) (wide : IsWide w limit) (bytes rest : List ℕ) (at n : ℕ) → n < limit → drop at bytes ≡ to_be_bytes w n ++ rest → number_at w bytes at ≡ n
unfolding number_at
number_again w limit wide bytes rest at n lt e =
    ap (λ (text : List ℕ). from_be_bytes w (take (byte_len w) text)) e
    ∙ ap (from_be_bytes w) (take_at (to_be_bytes w n) rest (byte_len w) (wide.len n))
    ∙ wide.again n lt

pub number_takes : (w : Width) (limit : ℕ) (wide : IsWide w limit) (bytes : List ℕ) (at : ℕ) → IsBytes bytes → at + byte_len w ≤ length bytes → drop at bytes ≡ to_be_bytes w (number_at w bytes at) ++ drop (at + byte_len w) bytes
unfolding number_at
number_takes w limit wide bytes at fits within =
    let front = take (byte_len w) (drop at bytes) in
    let long : length front ≡ byte_len w = omega (arith, length-take (byte_len w) (drop at bytes), length-drop at bytes) in
    let back : to_be_bytes w (from_be_bytes w front) ≡ front = wide.back front long (IsBytes-take (byte_len w) (drop at bytes) (IsBytes-drop at bytes fits)) in
    rw (back, ← drop-drop (byte_len w) at bytes) (sym (take-append-drop (byte_len w) (drop at bytes)))

pub number_below : (w : Width) (limit : ℕ) (wide : IsWide w limit) (bytes : List ℕ) (at : ℕ) → IsBytes bytes → number_at w bytes at < limit
unfolding number_at
number_below w limit wide bytes at fits = wide.below (take (byte_len w) (drop at bytes)) (IsBytes-take (byte_len w) (drop at bytes) (IsBytes-drop at bytes fits))
