-- Bytes are read by the version that their first eight say.
use Rattle.std.proofs.Common.{◌≡◌, ℕ, true, false, List, Result, Ok, Err, IfOk, inl, inr, refl, sym, ap, ◌∙◌}
use Rattle.std.proofs.lemmas.Bool.{cases_Bool}
use Rattle.std.specs.Prelude.{nat_eq}
use Rattle.std.specs.List.{starts_with}
use Rattle.std.specs.Result.{result_map_both}
use Rattle.sota_units.specs.Memory.{Answers}
use Rattle.sota_polfile.specs.Words.{is_shortage}
use Rattle.sota_polfile.specs.declared.any.AnyTable.{AnyTable}
use Rattle.sota_polfile.specs.declared.any.AnyTable.TheVariants.{One, Two}
use Rattle.sota_polfile.specs.declared.fault.PolicyFault.{PolicyFault}
use Rattle.sota_polfile.specs.Table.{Table, IsTable}
use Rattle.sota_polfile.specs.Bracket.{Bracket, IsBracket}
use Rattle.sota_polfile.specs.Spelling.{spelled_head, spelling}
use Rattle.sota_polfile.specs.Faults.{policy_of}
use Rattle.sota_polfile.specs.BracketFile.{bracket_magic, bracket_spelling, bracket_of, IsAny, any_spelling, any_of}
use Rattle.sota_polfile.proofs.Numbers.{IsBytes}
use Rattle.sota_polfile.proofs.Files as one
use Rattle.sota_polfile.proofs.BracketFiles as two

module _ (bytes : List ℕ) where
  pub any_two : starts_with nat_eq bytes bracket_magic ≡ true → any_of bytes ≡ result_map_both Two (λ fault. fault) (bracket_of bytes)
  unfolding any_of
  any_two begins = rw begins refl

  pub any_one : starts_with nat_eq bytes bracket_magic ≡ false → any_of bytes ≡ result_map_both One (λ fault. fault) (policy_of bytes)
  unfolding any_of
  any_one begins = rw begins refl

-- ---- what is spelled is read

begins_as_one : (table : Table) → starts_with nat_eq (spelling table) bracket_magic ≡ false
unfolding spelling spelled_head
begins_as_one table = refl

pub one_again : (table : Table) → IsTable table → any_of (spelling table) ≡ Ok (One table)
one_again table is = any_one (spelling table) (begins_as_one table) ∙ ap (λ (r : Result Table PolicyFault). result_map_both One (λ fault. fault) r) (one.read_again table is)

pub two_again : (table : Bracket) → IsBracket table → any_of (bracket_spelling table) ≡ Ok (Two table)
two_again table is = any_two (bracket_spelling table) (two.said table is).clean.head.begins ∙ ap (λ (r : Result Bracket PolicyFault). result_map_both Two (λ fault. fault) r) (two.read_again table is)

pub any_again : (table : AnyTable) → IsAny table → any_of (any_spelling table) ≡ Ok table
any_again (One table) is = one_again table is
any_again (Two table) is = two_again table is

-- ---- what is read was spelled

from_two : (bytes : List ℕ) (r : Result Bracket PolicyFault) (table : AnyTable) → IsBytes bytes → bracket_of bytes ≡ r → result_map_both Two (λ fault. fault) r ≡ Ok table → IsAny table × (bytes ≡ any_spelling table)
from_two bytes (Ok found) table fits is e = let same : Two found ≡ table = cc in rw (← same) (two.read_spelled bytes found fits is)
from_two bytes (Err fault) table fits is e = absurd cc

from_one : (bytes : List ℕ) (r : Result Table PolicyFault) (table : AnyTable) → IsBytes bytes → policy_of bytes ≡ r → result_map_both One (λ fault. fault) r ≡ Ok table → IsAny table × (bytes ≡ any_spelling table)
from_one bytes (Ok found) table fits is e = let same : One found ≡ table = cc in rw (← same) (one.read_spelled bytes found fits is)
from_one bytes (Err fault) table fits is e = absurd cc

pub any_spelled : (bytes : List ℕ) (table : AnyTable) → IsBytes bytes → any_of bytes ≡ Ok table → IsAny table × (bytes ≡ any_spelling table)
any_spelled bytes table fits e = elim (cases_Bool (starts_with nat_eq bytes bracket_magic)) [
  | inl begins ↦ from_two bytes (bracket_of bytes) table fits refl (sym (any_two bytes begins) ∙ e)
  | inr other ↦ from_one bytes (policy_of bytes) table fits refl (sym (any_one bytes other) ∙ e)
]

pub reads_spelled : (bytes : List ℕ) (r : Result AnyTable PolicyFault) → IsBytes bytes → Answers is_shortage r (any_of bytes) → IfOk r (λ table. IsAny table × (bytes ≡ any_spelling table))
reads_spelled bytes (Ok table) fits given = any_spelled bytes table fits given
reads_spelled bytes (Err fault) fits given = tt
