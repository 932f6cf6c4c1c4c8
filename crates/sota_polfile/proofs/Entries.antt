-- Entries of both versions that were spelled at a place stand there, and what stands there is what they spell.
use Rattle.std.proofs.Common.{◌≡◌, ℕ, ◌+◌, ◌*◌, ◌^◌, ◌≤◌, List, ◌++◌, length, drop, refl, ap, ◌∙◌, arith}
use Rattle.std.specs.List.{flat_map, AllByRecursion}
use Rattle.std.specs.Int.{w32, w64, to_be_bytes}
use Rattle.sota_polfile.specs.declared.bracket_entry.BracketEntry.{BracketEntry}
use Rattle.sota_polfile.specs.declared.entry.PolicyEntry.{PolicyEntry}
use Rattle.sota_polfile.specs.Entry.{IsEntry, IsBracketEntry}
use Rattle.sota_polfile.specs.Spelling.{spelled_entry}
use Rattle.sota_polfile.specs.Places.{number_at, entry_at}
use Rattle.sota_polfile.specs.BracketFile.{spelled_bracket_entry, bracket_entry_at}
use Rattle.sota_polfile.proofs.Numbers.{IsBytes, wide32, wide64, moved, number_again, number_takes, number_below}
use Rattle.sota_polfile.proofs.Lists.{length-items, items_from, items_again, items_take}

-- ---- version 1

entry_again : (bytes rest : List ℕ) (at : ℕ) (entry : PolicyEntry) → IsEntry entry → drop at bytes ≡ spelled_entry entry ++ rest → (entry_at bytes at ≡ entry) × (drop (at + 12) bytes ≡ rest)
unfolding spelled_entry
entry_again bytes rest at entry fits e =
    let arc : number_at w32 bytes at ≡ entry.arc = number_again w32 (2 ^ 32) wide32 bytes (to_be_bytes w64 entry.value ++ rest) at entry.arc fits.arc e in
    let value : number_at w64 bytes (at + 4) ≡ entry.value = number_again w64 (2 ^ 64) wide64 bytes rest (at + 4) entry.value fits.value (moved at 4 bytes _ e) in
    (rw (arc, value) refl, moved at 12 bytes _ e)

entry_takes : (bytes : List ℕ) (at : ℕ) → IsBytes bytes → at + 12 ≤ length bytes → (drop at bytes ≡ spelled_entry (entry_at bytes at) ++ drop (at + 12) bytes) × IsEntry (entry_at bytes at)
unfolding spelled_entry
entry_takes bytes at fits within =
    let arc : drop at bytes ≡ to_be_bytes w32 (number_at w32 bytes at) ++ drop (at + 4) bytes = number_takes w32 (2 ^ 32) wide32 bytes at fits (omega arith) in
    let value : drop (at + 4) bytes ≡ to_be_bytes w64 (number_at w64 bytes (at + 4)) ++ drop (at + 4 + 8) bytes = number_takes w64 (2 ^ 64) wide64 bytes (at + 4) fits (omega arith) in
    let twelve : at + 4 + 8 ≡ at + 12 = omega arith in
    (arc ∙ ap (λ (text : List ℕ). to_be_bytes w32 (number_at w32 bytes at) ++ text) (rw twelve at value), record { arc = number_below w32 (2 ^ 32) wide32 bytes at fits; value = number_below w64 (2 ^ 64) wide64 bytes (at + 4) fits })

length-entry : (entry : PolicyEntry) → length (spelled_entry entry) ≡ 12
unfolding spelled_entry
length-entry entry = refl

pub length-entries : (entries : List PolicyEntry) → length (flat_map spelled_entry entries) ≡ 12 * length entries
length-entries entries = length-items 12 IsEntry spelled_entry length-entry entries

pub entries_again : (bytes : List ℕ) (at k : ℕ) (entries : List PolicyEntry) (rest : List ℕ) → AllByRecursion IsEntry entries → drop (at + 12 * k) bytes ≡ flat_map spelled_entry entries ++ rest → (items_from 12 IsEntry spelled_entry bytes (entry_at bytes) at k (length entries) ≡ entries) × (drop (at + 12 * (k + length entries)) bytes ≡ rest)
entries_again bytes = items_again 12 IsEntry spelled_entry bytes (entry_at bytes) (λ rest at entry is e. entry_again bytes rest at entry is e)

pub entries_take : (bytes : List ℕ) → IsBytes bytes → (at k n : ℕ) → at + 12 * (k + n) ≤ length bytes → (drop (at + 12 * k) bytes ≡ flat_map spelled_entry (items_from 12 IsEntry spelled_entry bytes (entry_at bytes) at k n) ++ drop (at + 12 * (k + n)) bytes) × AllByRecursion IsEntry (items_from 12 IsEntry spelled_entry bytes (entry_at bytes) at k n)
entries_take bytes fits = items_take 12 IsEntry spelled_entry bytes (entry_at bytes) (λ at within. entry_takes bytes at fits within)

-- ---- version 2

bracket_entry_again : (bytes rest : List ℕ) (at : ℕ) (entry : BracketEntry) → IsBracketEntry entry → drop at bytes ≡ spelled_bracket_entry entry ++ rest → (bracket_entry_at bytes at ≡ entry) × (drop (at + 20) bytes ≡ rest)
unfolding spelled_bracket_entry
bracket_entry_again bytes rest at entry fits e =
    let arc : number_at w32 bytes at ≡ entry.arc = number_again w32 (2 ^ 32) wide32 bytes ((to_be_bytes w64 entry.lower ++ to_be_bytes w64 entry.upper) ++ rest) at entry.arc fits.arc e in
    let lower : number_at w64 bytes (at + 4) ≡ entry.lower = number_again w64 (2 ^ 64) wide64 bytes (to_be_bytes w64 entry.upper ++ rest) (at + 4) entry.lower fits.lower (moved at 4 bytes _ e) in
    let upper : number_at w64 bytes (at + 12) ≡ entry.upper = number_again w64 (2 ^ 64) wide64 bytes rest (at + 12) entry.upper fits.upper (moved at 12 bytes _ e) in
    (rw (arc, lower, upper) refl, moved at 20 bytes _ e)

bracket_entry_takes : (bytes : List ℕ) (at : ℕ) → IsBytes bytes → at + 20 ≤ length bytes → (drop at bytes ≡ spelled_bracket_entry (bracket_entry_at bytes at) ++ drop (at + 20) bytes) × IsBracketEntry (bracket_entry_at bytes at)
unfolding spelled_bracket_entry
bracket_entry_takes bytes at fits within =
    let arc : drop at bytes ≡ to_be_bytes w32 (number_at w32 bytes at) ++ drop (at + 4) bytes = number_takes w32 (2 ^ 32) wide32 bytes at fits (omega arith) in
    let lower : drop (at + 4) bytes ≡ to_be_bytes w64 (number_at w64 bytes (at + 4)) ++ drop (at + 4 + 8) bytes = number_takes w64 (2 ^ 64) wide64 bytes (at + 4) fits (omega arith) in
    let upper : drop (at + 12) bytes ≡ to_be_bytes w64 (number_at w64 bytes (at + 12)) ++ drop (at + 12 + 8) bytes = number_takes w64 (2 ^ 64) wide64 bytes (at + 12) fits (omega arith) in
    let twelve : at + 4 + 8 ≡ at + 12 = omega arith in
    let twenty : at + 12 + 8 ≡ at + 20 = omega arith in
    let values : drop (at + 4) bytes ≡ to_be_bytes w64 (number_at w64 bytes (at + 4)) ++ (to_be_bytes w64 (number_at w64 bytes (at + 12)) ++ drop (at + 20) bytes) = rw twelve at lower ∙ ap (λ (text : List ℕ). to_be_bytes w64 (number_at w64 bytes (at + 4)) ++ text) (rw twenty at upper) in (
      arc ∙ ap (λ (text : List ℕ). to_be_bytes w32 (number_at w32 bytes at) ++ text) values,
      record {
        arc = number_below w32 (2 ^ 32) wide32 bytes at fits;
        lower = number_below w64 (2 ^ 64) wide64 bytes (at + 4) fits;
        upper = number_below w64 (2 ^ 64) wide64 bytes (at + 12) fits;
      },
    )

length-bracket_entry : (entry : BracketEntry) → length (spelled_bracket_entry entry) ≡ 20
unfolding spelled_bracket_entry
length-bracket_entry entry = refl

pub length-bracket_entries : (entries : List BracketEntry) → length (flat_map spelled_bracket_entry entries) ≡ 20 * length entries
length-bracket_entries entries = length-items 20 IsBracketEntry spelled_bracket_entry length-bracket_entry entries

pub bracket_entries_again : (bytes : List ℕ) (at k : ℕ) (entries : List BracketEntry) (rest : List ℕ) → AllByRecursion IsBracketEntry entries → drop (at + 20 * k) bytes ≡ flat_map spelled_bracket_entry entries ++ rest → (items_from 20 IsBracketEntry spelled_bracket_entry bytes (bracket_entry_at bytes) at k (length entries) ≡ entries) × (drop (at + 20 * (k + length entries)) bytes ≡ rest)
bracket_entries_again bytes = items_again 20 IsBracketEntry spelled_bracket_entry bytes (bracket_entry_at bytes) (λ rest at entry is e. bracket_entry_again bytes rest at entry is e)

pub bracket_entries_take : (bytes : List ℕ) → IsBytes bytes → (at k n : ℕ) → at + 20 * (k + n) ≤ length bytes → (drop (at + 20 * k) bytes ≡ flat_map spelled_bracket_entry (items_from 20 IsBracketEntry spelled_bracket_entry bytes (bracket_entry_at bytes) at k n) ++ drop (at + 20 * (k + n)) bytes) × AllByRecursion IsBracketEntry (items_from 20 IsBracketEntry spelled_bracket_entry bytes (bracket_entry_at bytes) at k n)
bracket_entries_take bytes fits = items_take 20 IsBracketEntry spelled_bracket_entry bytes (bracket_entry_at bytes) (λ at within. bracket_entry_takes bytes at fits within)
