-- The upper side of a bracket table that holds is exceeded by no arc.
use Rattle.std.proofs.Common.{ℕ, ◌≡◌, ◌≢◌, ◌+◌, ◌-◌, ◌*◌, ◌<◌, ◌≤◌, true, List, [], ◌∷◌, get_or, All, Option, Some, None, inl, inr, refl, ◌∙◌, arith, ⊎_elim}
use Rattle.std.proofs.lemmas.Bool.{cases_Bool, cases_lt, cases_eq}
use Rattle.sota_units.specs.Rounding.{ONE}
use Rattle.sota_hist.specs.Time.{IsTime, is_closed, least_tick, total}
use Rattle.sota_network.specs.Network.{Net, IsNet, IsArc, arc_at}
use Rattle.sota_network.specs.Grid.{weighed, plain_sum}
use Rattle.sota_network.specs.Laws.{SumLaws, TickLaws}
use Rattle.sota_network.specs.Sound.{Covers}
use Rattle.sota_network.specs.declared.network.Arc.{Arc}
use Rattle.sota_polfile.specs.Table.{entry_from}
use Rattle.sota_polfile.specs.Bracket.{Bracket, IsBracket, bracket_row_of}
use Rattle.sota_polfile.specs.declared.bracket_entry.BracketEntry.{BracketEntry}
use Rattle.sota_polfile.specs.declared.bracket_row.BracketRow.{BracketRow}
use Rattle.sota_check.specs.Bracketed.{first_at, upper, IsBracketed}
use Rattle.sota_check.proofs.Standing.{row-there, row-valid, entry-is, first-is, upper-is, upper-below, upper-by, upper-whole, upper-dest}

-- values of 0 at all budgets that a time leaves make 0
weighed-late : SumLaws → TickLaws → (v : ℕ → ℕ) (t : ℕ) (time : List (ℕ × ℕ)) → IsTime time → ((u : ℕ) → u + least_tick time ≤ t → v u ≡ 0) → weighed v t time ≡ 0
weighed-late sums ticks v t time valid none =
    let late : All (λ (p : ℕ × ℕ). p.0 ≤ t → v (t - p.0) ≡ 0) time = λ k d inside within. none (t - (get_or time k d).0) (omega (arith, ticks.least time valid k d inside, within)) in
    let same : weighed v t time ≡ weighed (λ u. 0) t time = sums.agree v (λ u. 0) t time late in
    let nothing : weighed (λ u. 0) t time ≤ total time * 0 = sums.whole (λ u. 0) 0 t time valid (λ u below. omega arith) in
    omega (arith, same, nothing)

weighed-closed : (v : ℕ → ℕ) (t : ℕ) (ps : List (ℕ × ℕ)) → is_closed ps ≡ true → weighed v t ps ≡ 0
weighed-closed v t [] closed = refl
weighed-closed v t (p ∷ ps) closed = absurd (cc)

-- ---- no arc exceeds an upper value

module _ (sums : SumLaws) (ticks : TickLaws) (net : Net) (valid : IsNet net) (arcs : (e : ℕ) (arc : Arc) → arc_at net e ≡ Some arc → IsArc net arc) (table : Bracket) (is : IsBracket table) (holds : IsBracketed net table) where
  -- below the first budget of a node its head's upper values are 0
  head-late : (arc : Arc) (bound : ℕ) → IsArc net arc → bound ≤ first_at table arc.head → (u : ℕ) → u < bound → upper table arc.head u ≡ 0
  head-late arc bound fits below u early =
      let there = row-there table arc.head is.size fits.head.0 (omega (arith, fits.head.1, holds.certified.nodes)) in
      let row : BracketRow = there.0 in
      let first : first_at table arc.head ≡ row.first = first-is table arc.head u row there.1 in
      ⊎_elim
      (λ (at : arc.head ≡ table.head.dest). absurd (omega (arith, first, ((row-valid table is arc.head row there.1).numbers.dest at).0)))
      (λ (off : arc.head ≡ table.head.dest → ⊥). upper-is table arc.head u row there.1 off ∙ upper-below row u (omega (arith, first)))
      (cases_eq arc.head table.head.dest)

  -- who comes too late for the first budget is worth nothing
  sum-late : (t e : ℕ) (arc : Arc) → arc_at net e ≡ Some arc → arc.tail ≢ table.head.dest → t < first_at table arc.tail → plain_sum arc (upper table) t ≡ 0
  sum-late t e arc at off early =
      let fits : IsArc net arc = arcs e arc at in
      elim (cases_Bool (is_closed arc.time)) [
        | inl closed ↦ weighed-closed (upper table arc.head) t arc.time closed
        | inr opened ↦
            let falls : first_at table arc.tail ≤ first_at table arc.head + least_tick arc.time = holds.potential e arc at off opened in
            weighed-late sums ticks (upper table arc.head) t arc.time fits.time
            (λ u left. head-late arc (first_at table arc.head) fits (omega arith) u (omega (arith, falls, left, early)))
      ]

  elsewhere-by : (i t e : ℕ) (arc : Arc) → i ≢ table.head.dest → arc_at net e ≡ Some arc → arc.tail ≡ i → (row : BracketRow) → bracket_row_of table i ≡ Some row → row.first ≤ t → (o : Option BracketEntry) → entry_from row.first row.entries t ≡ o → plain_sum arc (upper table) t ≤ upper table i t * net.scale
  elsewhere-by i t e arc off at tail row here late None none =
      let fits : IsArc net arc = arcs e arc at in
      let whole : upper table i t ≡ ONE = upper-is table i t row here off ∙ upper-by row t late None none in
      let few : plain_sum arc (upper table) t ≤ total arc.time * ONE = sums.whole (upper table arc.head) ONE t arc.time fits.time (λ u below. upper-whole table arc.head u) in
      rw whole (omega (arith, few, fits.total))
  elsewhere-by i t e arc off at tail row here late (Some entry) some =
      holds.uppers i t entry (entry-is table i t row here ∙ some) e arc at tail

  elsewhere : (i t e : ℕ) (arc : Arc) → i ≢ table.head.dest → arc_at net e ≡ Some arc → arc.tail ≡ i → plain_sum arc (upper table) t ≤ upper table i t * net.scale
  elsewhere i t e arc off at tail =
      let fits : IsArc net arc = arcs e arc at in
      let there = row-there table i is.size (omega (arith, fits.tail.0, tail)) (omega (arith, fits.tail.1, tail, holds.certified.nodes)) in
      let row : BracketRow = there.0 in
      ⊎_elim
      (λ (early : t < row.first).
      let late : plain_sum arc (upper table) t ≡ 0 = sum-late t e arc at (rw tail off) (rw tail (omega (arith, first-is table i t row there.1))) in
      omega (arith, late))
      (λ (late : row.first ≤ t). elsewhere-by i t e arc off at tail row there.1 late (entry_from row.first row.entries t) refl)
      (cases_lt t row.first)

  pub covers : Covers net table.head.dest (upper table)
  covers = record {
    at_dest = λ t. omega (arith, upper-dest table table.head.dest t refl);
    elsewhere = elsewhere;
  }
