-- The greatest sums of the arcs that leave a node, at so many budgets from one on, and of these
-- those of some arcs alone.
use Rattle.std.specs.Prelude.{ℕ, ◌≡◌, ◌+◌, ◌*◌, ◌<◌, ◌≤◌, max, nat_lt, List, slice_index}
use Rattle.std.specs.Prelude.{slice_index_or, Option, None, Some, if◌then◌else◌}
use Rattle.sota_network.specs.Network.{arc_at}
use Rattle.sota_network.specs.Grid.{plain_sum, best_sum, choice_of}
use Rattle.sota_network.specs.declared.network.Arc.{Arc}
use Rattle.sota_kept.specs.NodeTables.{lower_in, upper_in}
use Rattle.sota_tables.specs.Views.{TablesView, table_at}
use Rattle.sota_fill.specs.Beaten.{IsRaised}
use Rattle.sota_fill.specs.declared.sources.Sources.{Sources}
use Rattle.sota_fill.specs.declared.target.Target.{Target}

-- the value of each node at each budget, by the tables
abbrev pub Values : Type 0
Values = ℕ → ℕ → ℕ

abbrev pub lower_by : Target → TablesView → Values
lower_by target tables = lower_in target.dest (table_at tables)

abbrev pub upper_by : Target → TablesView → Values
upper_by target tables = upper_in target.dest (table_at tables)

abbrev pub lower_from : {Z : Type 0} → Sources Z → Values
lower_from sources = lower_by sources.target.now sources.tables.now

abbrev pub upper_from : {Z : Type 0} → Sources Z → Values
upper_from sources = upper_by sources.target.now sources.tables.now

-- ---- of all arcs that leave node i
-- the sums are the best
abbrev pub AreBest : Target → Values → ℕ → ℕ → ℕ → List ℕ → Type 0
AreBest target values i from count sums = (x : ℕ) → x < count
    → slice_index sums x ≡ best_sum target.network.now values i (from + x)

-- the choices are the least numbers of arcs with the best sums, where these are not 0
abbrev pub AreChoices : Target → Values → ℕ → ℕ → ℕ → List (Option ℕ) → Type 0
AreChoices target values i from count choices = (x : ℕ) → x < count
    → slice_index_or choices x None
    ≡ choice_of target.network.now.arcs (λ arc. plain_sum arc values (from + x)) i

-- none of the best sums is below a floor times the scale
abbrev pub AreFrom : Target → Values → ℕ → ℕ → ℕ → ℕ → Type 0
AreFrom target values i from count floor = (x : ℕ) → x < count
    → target.network.now.scale * floor ≤ best_sum target.network.now values i (from + x)

-- ---- of one arc more
-- each sum becomes the greater of itself and that of the arc
abbrev pub AreRaised : Target → Values → ℕ → ℕ → ℕ → List ℕ → List ℕ → Type 0
AreRaised target values number from count old new = (arc : Arc)
    → arc_at target.network.now number ≡ Some arc → (x : ℕ) → x < count
    → slice_index new x ≡ max (slice_index old x) (plain_sum arc values (from + x))

-- the same, but sums of the arc below a floor times the scale may be passed over
abbrev pub AreRaisedFrom : Target → Values → ℕ → ℕ → ℕ → ℕ → List ℕ → List ℕ → Type 0
AreRaisedFrom target values number from count floor old new = (arc : Arc)
    → arc_at target.network.now number ≡ Some arc → (x : ℕ) → x < count
    → IsRaised (target.network.now.scale * floor) (slice_index old x)
    (plain_sum arc values (from + x)) (slice_index new x)

-- the arc is the choice where its sum is above the greatest so far
abbrev pub AreChosen : Target → Values → ℕ → ℕ → ℕ → List ℕ → List (Option ℕ)
    → List (Option ℕ) → Type 0
AreChosen target values number from count sums old new = (arc : Arc)
    → arc_at target.network.now number ≡ Some arc → (x : ℕ) → x < count
    → slice_index_or new x None ≡ if nat_lt (slice_index sums x) (plain_sum arc values (from + x))
    then Some number else slice_index_or old x None
