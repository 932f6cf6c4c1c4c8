-- What holds of an ask that is not refused.
use Rattle.std.proofs.Common.{ℕ, ◌≡◌, ◌<◌, ◌≤◌, nat_le, Bool, true, false, Option, None, Some, refl, option_map, ⊎_elim, if◌then◌else◌}
use Rattle.std.specs.Option.{option_or}
use Rattle.std.proofs.lemmas.Bool.{cases_lt, lt-ltb, leb-true}
use Rattle.sota_units.specs.Limits.{BUDGET_LIMIT}
use Rattle.sota_network.specs.Network.{Net}
use Rattle.sota_network.specs.Region.{table_cells, broad_cells}
use Rattle.sota_units.specs.Ids.{is_node_number}
use Rattle.sota_bounds.specs.Range.{range_fault}
use Rattle.sota_bounds.specs.Faults.{TABLE_LIMIT, cells_fault, region_fault}
use Rattle.sota_bounds.specs.declared.range.RangeFault.{RangeFault}
use Rattle.sota_bounds.specs.declared.range.RangeFault.TheVariants.{NoOrigin, NoDest, Budget}
use Rattle.sota_bounds.specs.declared.fault.RegionFault.{RegionFault}
use Rattle.sota_bounds.specs.declared.fault.RegionFault.TheVariants.{TableCells}
use Rattle.sota_bounds.specs.AskFaults.{range_cause, size_cause}
use Rattle.sota_session.specs.Asks.{ask_fault}
use Rattle.sota_session.specs.declared.ask.Ask.{Ask}

neither : (range : Option RangeFault) (size : Option RegionFault)
    → option_or (option_map range_cause range) (option_map size_cause size) ≡ None
    → (range ≡ None) × (size ≡ None)
neither None None none = (refl, refl)
neither None (Some fault) none = absurd (cc)
neither (Some fault) size none = absurd (cc)

in-range : (origin dest short : Bool)
    → (if origin then (if dest then (if short then None else Some Budget) else Some NoDest)
    else Some NoOrigin) ≡ None → short ≡ true
in-range true true true none = refl
in-range true true false none = absurd (cc)
in-range true false short none = absurd (cc)
in-range false dest short none = absurd (cc)

small : (table broad : ℕ) → cells_fault table broad ≡ None → table ≤ TABLE_LIMIT
small table broad none =
    ⊎_elim
    (λ (large : TABLE_LIMIT < table).
    let found : Some (TableCells table) ≡ None = (rw (lt-ltb TABLE_LIMIT table large) at none) in
    absurd (cc))
    (λ (fits : table ≤ TABLE_LIMIT). fits)
    (cases_lt TABLE_LIMIT table)

module _ (net : Net) (ask : Ask) (accepted : ask_fault net ask ≡ None) where
  both : (range_fault net ask.origin ask.dest ask.budget ≡ None)
      × (region_fault net ask.origin ask.dest ask.budget ≡ None)
  both = neither (range_fault net ask.origin ask.dest ask.budget)
      (region_fault net ask.origin ask.dest ask.budget) accepted

  pub within-budget : ask.budget ≤ BUDGET_LIMIT
  within-budget =
      leb-true ask.budget BUDGET_LIMIT
      (in-range (is_node_number net.nodes ask.origin) (is_node_number net.nodes ask.dest) (nat_le ask.budget BUDGET_LIMIT) both.0)

  pub few-cells : table_cells net ask.origin ask.dest ask.budget ≤ TABLE_LIMIT
  few-cells =
      small (table_cells net ask.origin ask.dest ask.budget)
      (broad_cells net ask.origin ask.dest ask.budget) both.1
