-- Rows one after the other in a file, for both versions: where each row begins, what is read there and whether it has a fault.
use Rattle.std.proofs.Common.{◌≡◌, ℕ, suc, ◌+◌, ◌≤◌, List, [], ◌∷◌, ◌++◌, length, drop, map, Option, None, refl, sym, ap, ◌∙◌, append_assoc, arith}
use Rattle.std.specs.List.{flat_map, range_with_len}
use Rattle.sota_polfile.specs.declared.fault.PolicyFault.{PolicyFault}
use Rattle.sota_polfile.specs.Faults.{fault_among}
use Rattle.sota_polfile.proofs.FileFaults.{among_passed, among_none}

module _ {Row : Type 0} (bytes : List ℕ) (start : ℕ → ℕ) (read : ℕ → Row) where
  -- n rows from row k on
  abbrev pub rows_from : ℕ → ℕ → List Row
  rows_from k n = map read (range_with_len k n)

  module _ (fault : ℕ → Option PolicyFault) (rest : List ℕ) where
    -- rows that were spelled from row k on, and the rest behind them
    pub record AllStand (k : ℕ) (rows : List Row) : Type 0 where
      pub none : fault_among fault k (length rows) ≡ None
      pub are : rows_from k (length rows) ≡ rows
      pub behind : drop (start (k + length rows)) bytes ≡ rest

    pub none_stand : (k : ℕ) → drop (start k) bytes ≡ rest → AllStand k []
    none_stand k e =
        let same : k + 0 ≡ k = omega arith in
        record { none = among_none fault k; are = refl; behind = rw same e }

    pub more_stand : (k : ℕ) (row : Row) (rows : List Row) → fault k ≡ None → read k ≡ row → AllStand (k + 1) rows → AllStand k (row ∷ rows)
    more_stand k row rows none is others =
        let end : k + suc (length rows) ≡ k + 1 + length rows = omega arith in
        record {
          none = among_passed fault k (length rows) none ∙ others.none;
          are = rw (is, others.are) refl;
          behind = rw end others.behind;
        }

  module _ (spelled : Row → List ℕ) where
    -- n rows from row k on that are what they spell
    pub record AllSpelled (k n : ℕ) : Type 0 where
      pub text : drop (start k) bytes ≡ flat_map spelled (rows_from k n) ++ drop (start (k + n)) bytes
      pub within : start (k + n) ≤ length bytes

    pub none_spelled : (k : ℕ) → start k ≤ length bytes → AllSpelled k 0
    none_spelled k within =
        let same : k + 0 ≡ k = omega arith in
        record { text = rw same refl; within = rw same within }

    pub more_spelled : (k n : ℕ) → drop (start k) bytes ≡ spelled (read k) ++ drop (start (k + 1)) bytes → AllSpelled (k + 1) n → AllSpelled k (suc n)
    more_spelled k n here others =
        let end : k + suc n ≡ k + 1 + n = omega arith in
        record {
          text = rw end (here ∙ ap (λ (t : List ℕ). spelled (read k) ++ t) others.text ∙ sym (append_assoc (spelled (read k)) (flat_map spelled (rows_from (k + 1) n)) (drop (start (k + 1 + n)) bytes)));
          within = rw end others.within;
        }
