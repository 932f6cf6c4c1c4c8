-- What planning with departure periods answers, and why it is refused.
use Rattle.std.specs.Prelude.{ℕ, ◌+◌, ◌*◌, not, nat_lt}
use Rattle.std.specs.Prelude.{Bool, true, false}
use Rattle.std.specs.Prelude.{List, Option, None, Some, Result, Ok, Err, codes}
use Rattle.std.specs.Prelude.{if◌then◌else◌}
use Rattle.std.specs.List.{sum_by}
use Rattle.sota_units.specs.Ids.{is_node_number}
use Rattle.sota_units.specs.Limits.{BUDGET_LIMIT}
use Rattle.sota_network.specs.Network.{Net}
use Rattle.sota_network.specs.Region.{broad_at}
use Rattle.sota_period.specs.Periods.{first_net, timed_net}
use Rattle.sota_period.specs.Grid.{tlo, thi, tchoice}
use Rattle.sota_period.specs.declared.plan.TimedAnswer.{TimedAnswer}
use Rattle.sota_period.specs.declared.fault.TimedFault.{TimedFault}
use Rattle.sota_period.specs.declared.fault.TimedFault.TheVariants.{NoOrigin, NoDest, Budget}
use Rattle.sota_period.specs.declared.fault.TimedFault.TheVariants.{TimedCells, TimedBroad}
use Rattle.sota_period.specs.declared.fault.TimedFault.TheVariants.{NoMemory}

-- the most timed cells and timed broad cells that are planned for
abbrev pub TIMED_LIMIT : ℕ
TIMED_LIMIT = 60000000

abbrev pub TIMED_BROAD_LIMIT : ℕ
TIMED_BROAD_LIMIT = 40000000

-- one cell for each node and budget
abbrev pub timed_cells : ℕ → ℕ → ℕ
timed_cells nodes budget = nodes * (budget + 1)

-- for each arc that is broad in a period: a cell for each budget, and the span of its ticks there
abbrev pub timed_broad : List (ℕ × Net) → ℕ → ℕ
timed_broad periods budget =
    sum_by (λ p. sum_by (broad_at budget (budget + 1)) p.1.arcs) periods

-- too many timed cells, or else too many timed broad cells
abbrev pub timed_cells_fault : List (ℕ × Net) → ℕ → Option TimedFault
timed_cells_fault periods budget =
    if nat_lt TIMED_LIMIT (timed_cells (first_net periods).nodes budget)
    then Some (TimedCells (timed_cells (first_net periods).nodes budget)) else
    if nat_lt TIMED_BROAD_LIMIT (timed_broad periods budget)
    then Some (TimedBroad (timed_broad periods budget)) else None

-- the first that stands: no origin, no destination, a budget or a count above its limit
abbrev pub timed_fault : List (ℕ × Net) → ℕ → ℕ → ℕ → Option TimedFault
timed_fault periods origin dest budget =
    if not (is_node_number (first_net periods).nodes origin) then Some NoOrigin else
    if not (is_node_number (first_net periods).nodes dest) then Some NoDest else
    if nat_lt BUDGET_LIMIT budget then Some Budget else timed_cells_fault periods budget

-- the two values and the choice at the origin
abbrev pub timed_answer : List (ℕ × Net) → ℕ → ℕ → ℕ → ℕ → TimedAnswer
timed_answer periods origin dest budget deadline = record {
  lower = tlo (timed_net periods deadline) dest origin budget;
  upper = thi (timed_net periods deadline) dest origin budget;
  next = tchoice (timed_net periods deadline) dest origin budget;
}

-- the fault where there is one, else the answer
abbrev pub timed_result : List (ℕ × Net) → ℕ → ℕ → ℕ → ℕ → Result TimedAnswer TimedFault
timed_result periods origin dest budget deadline =
    elim (timed_fault periods origin dest budget) [
      | None ↦ Ok (timed_answer periods origin dest budget deadline)
      | Some fault ↦ Err fault
    ]

-- want of memory has no cause in what was handed in
abbrev pub is_shortage : TimedFault → Bool
is_shortage NoMemory = true
is_shortage _ = false

-- the name of a fault, as replies print it
abbrev pub timed_word : TimedFault → List ℕ
timed_word NoOrigin = codes "NoOrigin"
timed_word NoDest = codes "NoDest"
timed_word Budget = codes "Budget"
timed_word (TimedCells count) = codes "TimedCells"
timed_word (TimedBroad count) = codes "TimedBroad"
timed_word NoMemory = codes "NoMemory"

-- the count that is printed after it
abbrev pub timed_count : TimedFault → Option ℕ
timed_count (TimedCells count) = Some count
timed_count (TimedBroad count) = Some count
timed_count _ = None
