-- Runs of a list, and lists with a run replaced.
use Rattle.std.proofs.Common.{◌≡◌, ℕ, ◌+◌, ◌-◌, ◌<◌, ◌≤◌, List, [], ◌∷◌, ◌++◌, length, map, take, drop, set, suc, sym, ap, ◌∙◌, arith, append_assoc, length-append, length-take, length-drop, take-append-drop, take_at, drop_at, drop-drop, take-take, take-add, Option, Some, refl}
use Rattle.std.proofs.lemmas.List.{set_split, set-append_right, take-append-le, drop-append-le, drop-take, take-map, drop-map}
use Rattle.sota_bank.specs.Places.{somes}

pub somes-map : {X : Type 0} (xs : List X) → somes (map Some xs) ≡ xs
somes-map [] = refl
somes-map (x ∷ xs) = ap (λ l. x ∷ l) (somes-map xs)

module _ {Y : Type 0} where
  -- cs, with ds in place of the len elements from the index from on
  abbrev pub replaced : List Y → ℕ → ℕ → List Y → List Y
  replaced cs from len ds = take from cs ++ (ds ++ drop (from + len) cs)

  run-append : (xs ys : List Y) (s n : ℕ) → s + n ≤ length xs → take n (drop s (xs ++ ys)) ≡ take n (drop s xs)
  run-append xs ys s n within =
      let less : s ≤ length xs = omega arith in let rest : n ≤ length (drop s xs) = omega (arith, length-drop s xs) in
      ap (take n) (drop-append-le s xs ys less) ∙ take-append-le n (drop s xs) ys rest

  module _ (cs ds : List Y) (from len : ℕ) (within : from + len ≤ length cs) (long : length ds ≡ len) where
    front_long : length (take from cs) ≡ from
    front_long = omega (arith, length-take from cs)

    pub length-replaced : length (replaced cs from len ds) ≡ length cs
    length-replaced =
        let rest = drop (from + len) cs in
        omega (arith, length-append (take from cs) (ds ++ rest), length-append ds rest, length-take from cs, length-drop (from + len) cs)

    -- a run before the part that is replaced
    pub run-before : (s n : ℕ) → s + n ≤ from → take n (drop s (replaced cs from len ds)) ≡ take n (drop s cs)
    run-before s n before =
        let in_front : s + n ≤ length (take from cs) = omega (arith, front_long) in
        run-append (take from cs) (ds ++ drop (from + len) cs) s n in_front ∙ sym (run-append (take from cs) (drop from cs) s n in_front) ∙ ap (λ l. take n (drop s l)) (take-append-drop from cs)

    past : drop (from + len) (replaced cs from len ds) ≡ drop (from + len) cs
    past =
        ap (drop (from + len)) (sym (append_assoc (take from cs) ds (drop (from + len) cs)))
        ∙ drop_at (take from cs ++ ds) (drop (from + len) cs) (from + len) (omega (arith, length-append (take from cs) ds, front_long))

    -- a run behind it
    pub run-after : (s n : ℕ) → from + len ≤ s → take n (drop s (replaced cs from len ds)) ≡ take n (drop s cs)
    run-after s n behind =
        let k = s - (from + len) in let is : from + len + k ≡ s = omega arith in
        ap (λ j. take n (drop j (replaced cs from len ds))) (sym is) ∙ ap (take n) (sym (drop-drop k (from + len) (replaced cs from len ds)))
        ∙ ap (λ l. take n (drop k l)) past ∙ ap (take n) (drop-drop k (from + len) cs) ∙ ap (λ j. take n (drop j cs)) is

    -- the part itself
    pub run-inside : take len (drop from (replaced cs from len ds)) ≡ ds
    run-inside =
        ap (take len) (drop_at (take from cs) (ds ++ drop (from + len) cs) from front_long) ∙ take_at ds (drop (from + len) cs) len long

  -- a run in which a part is replaced
  pub run-replaced : (cs ds : List Y) (s n f len : ℕ) → f + len ≤ n → s + n ≤ length cs → length ds ≡ len
      → take n (drop s (replaced cs (s + f) len ds)) ≡ replaced (take n (drop s cs)) f len ds
  run-replaced cs ds s n f len fits within long =
      let l = drop s cs in let rest = drop (s + f + len) cs in
      let behind : s ≤ length (take (s + f) cs) = omega (arith, length-take (s + f) cs) in
      let front : length (take f l) ≡ f = omega (arith, length-take f l, length-drop s cs) in
      let m = n - f in let k = m - len in let is_n : f + m ≡ n = omega arith in let is_m : len + k ≡ m = omega arith in
      let on : f + len + k ≡ n = omega arith in let same : s + (f + len) ≡ s + f + len = omega arith in
      let tail : take m (ds ++ rest) ≡ ds ++ drop (f + len) (take n l) =
      ap (λ j. take j (ds ++ rest)) (sym is_m) ∙ take-add len k (ds ++ rest) ∙ (λ i. take_at ds rest len long i ++ take k (drop_at ds rest len long i))
      ∙ ap (λ q. ds ++ take k q) (ap (λ j. drop j cs) (sym same) ∙ sym (drop-drop (f + len) s cs))
      ∙ ap (λ q. ds ++ q) (sym (drop-take (f + len) k l) ∙ ap (λ j. drop (f + len) (take j l)) on) in
      ap (take n) (drop-append-le s (take (s + f) cs) (ds ++ rest) behind ∙ ap (λ q. q ++ (ds ++ rest)) (drop-take s f cs))
      ∙ ap (λ j. take j (take f l ++ (ds ++ rest))) (sym is_n) ∙ take-add f m (take f l ++ (ds ++ rest))
      ∙ (λ i. take_at (take f l) (ds ++ rest) f front i ++ take m (drop_at (take f l) (ds ++ rest) f front i))
      ∙ (λ i. sym (take-take f n l (omega arith)) i ++ tail i)

  -- a place more
  pub replaced-more : (cs ds : List Y) (from len : ℕ) (c : Y) → from + len < length cs → length ds ≡ len
      → set (replaced cs from len ds) (from + len) c ≡ replaced cs from (len + 1) (ds ++ c ∷ [])
  replaced-more cs ds from len c lt long =
      let rest = drop (from + len) cs in let front : length (take from cs) ≡ from = omega (arith, length-take from cs) in
      let inner : from + len - from ≡ len = omega arith in let none : len - len ≡ 0 = omega arith in let on : from + len + 1 ≡ from + (len + 1) = omega arith in
      let more : 0 < length rest = omega (arith, length-drop (from + len) cs) in
      let next : set rest 0 c ≡ c ∷ drop (from + (len + 1)) cs = set_split rest 0 c more ∙ ap (λ l. c ∷ l) (drop-drop 1 (from + len) cs ∙ ap (λ j. drop j cs) on) in
      set-append_right (take from cs) (ds ++ rest) from (from + len) c front (omega arith) ∙ ap (λ j. take from cs ++ set (ds ++ rest) j c) inner
      ∙ ap (λ l. take from cs ++ l) (set-append_right ds rest len len c long (omega arith) ∙ ap (λ j. ds ++ set rest j c) none ∙ ap (λ l. ds ++ l) next
      ∙ sym (append_assoc ds (c ∷ []) (drop (from + (len + 1)) cs)))

  pub replaced-none : (cs : List Y) (from : ℕ) → replaced cs from 0 [] ≡ cs
  replaced-none cs from = let same : from + 0 ≡ from = omega arith in ap (λ j. take from cs ++ drop j cs) same ∙ take-append-drop from cs

  pub set-replaced : (cs : List Y) (i : ℕ) (c : Y) → i < length cs → set cs i c ≡ replaced cs i 1 (c ∷ [])
  set-replaced cs i c lt = let one : suc i ≡ i + 1 = omega arith in set_split cs i c lt ∙ ap (λ j. take i cs ++ c ∷ drop j cs) one

-- a part of a run that is written is written
pub part_written : {X : Type 0} (l : List (Option X)) (xs : List X) (n f m : ℕ) → f + m ≤ n → take n l ≡ map Some xs → take m (drop f l) ≡ map Some (take m (drop f xs))
part_written l xs n f m fits e =
    sym (drop-take f m l) ∙ ap (drop f) (sym (take-take (f + m) n l fits) ∙ ap (take (f + m)) e ∙ take-map Some (f + m) xs) ∙ drop-map Some f (take (f + m) xs) ∙ ap (map Some) (drop-take f m xs)
