-- The policy of an ask by the least times of its nodes.
use Rattle.std.proofs.Common.{ℕ, zero, suc, ◌≡◌, ◌≢◌, ◌+◌, ◌-◌, ◌<◌, ◌≤◌, true, List, length, slice_get, Option, Some, None, refl, sym, ◌∙◌, ap, arith, ⊎_elim, subst}
use Rattle.std.specs.List.{All, filter_map, cons_option, range_with_len}
use Rattle.std.proofs.lemmas.Bool.{cases_lt, lt-ltb, le-ltb, le-leb}
use Rattle.std.proofs.lemmas.Option.{get_or_from_slice_get, slice_get_within}
use Rattle.std.proofs.lemmas.List.FromFn.{length-map-range_with_len, get_or-map-range_with_len}
use Rattle.sota_network.specs.Network.{Net}
use Rattle.sota_network.specs.Walks.{IsLeastTime}
use Rattle.sota_network.specs.Reach.{in_region}
use Rattle.sota_network.specs.Region.{pairs_at, need, pairs_between, need_between, HasLeastTimes}
use Rattle.sota_polfile.specs.declared.entry.PolicyEntry.{PolicyEntry}
use Rattle.sota_polfile.specs.declared.row.PolicyRow.{PolicyRow}
use Rattle.sota_check.specs.Planned.{grid_entry, IsGridRow, IsPlanFile}
use Rattle.sota_session.specs.Plans.{first_budget, plan_row, row_of, plan_table}
use Rattle.sota_session.specs.declared.ask.Ask.{Ask}
use Rattle.sota_session.proofs.Planned.{found-all}

-- what is found at a number stands somewhere in the list
place-after : {X : Type 0} (other : Option X) (xs : List X) (k : ℕ) (x : X) → slice_get xs k ≡ Some x → (j : ℕ) × (slice_get (cons_option other xs) j ≡ Some x)
place-after None xs k x at = (k, at)
place-after (Some y) xs k x at = (suc k, at)

found-there : {X : Type 0} (f : ℕ → Option X) (a n t : ℕ) (x : X) → a ≤ t → t < a + n → f t ≡ Some x → (k : ℕ) × (slice_get (filter_map f (range_with_len a n)) k ≡ Some x)
found-there {X = X} f a zero t x low high is = absurd (omega arith)
found-there {X = X} f a (suc n) t x low high is =
    ⊎_elim
    (λ (later : a < t).
    let rest = found-there f (a + 1) n t x (omega arith) (omega arith) is in
    place-after (f a) (filter_map f (range_with_len (a + 1) n)) rest.0 x rest.1)
    (λ (here : t ≤ a).
    let at : t ≡ a = omega arith in
    (0, ap (λ (found : Option X). slice_get (cons_option found (filter_map f (range_with_len (a + 1) n))) 0) (ap f (sym at) ∙ is)))
    (cases_lt a t)

-- the laws of the region of an ask
pub record HasLaws (net : Net) (ask : Ask) : Type 0 where
  pub counted : (i : ℕ) → 1 ≤ pairs_at net ask.origin ask.dest ask.budget i → HasLeastTimes net ask.origin ask.dest ask.budget i
  pub inside : (i t : ℕ) → in_region net ask.origin ask.dest ask.budget i t ≡ true → HasLeastTimes net ask.origin ask.dest ask.budget i
  pub pairs : (i : ℕ) (to from : Option ℕ) → i ≢ ask.dest → IsLeastTime net ask.dest i ask.dest to → IsLeastTime net ask.dest ask.origin i from
      → pairs_at net ask.origin ask.dest ask.budget i ≡ pairs_between ask.budget to from
  pub needs : (i : ℕ) (to from : Option ℕ) → i ≢ ask.dest → IsLeastTime net ask.dest i ask.dest to → IsLeastTime net ask.dest ask.origin i from
      → need net ask.origin ask.dest ask.budget i ≡ need_between ask.budget to from

module _ (net : Net) (ask : Ask) (laws : HasLaws net ask) where
  abbrev count : ℕ → ℕ
  count i = pairs_at net ask.origin ask.dest ask.budget i

  count-is : (i : ℕ) (times : HasLeastTimes net ask.origin ask.dest ask.budget i) → count i ≡ ask.budget + 1 - (times.to + times.from)
  count-is i times = laws.pairs i (Some times.to) (Some times.from) times.elsewhere times.onward times.came

  first-is : (i : ℕ) (times : HasLeastTimes net ask.origin ask.dest ask.budget i) → first_budget net ask i ≡ times.to
  first-is i times =
      let fits : times.to + times.from ≤ ask.budget = times.within in
      let needed : need net ask.origin ask.dest ask.budget i ≡ ask.budget + 1 - times.from =
      laws.needs i (Some times.to) (Some times.from) times.elsewhere times.onward times.came ∙ (rw (le-leb (times.to + times.from) ask.budget fits) refl) in
      omega (arith, needed, count-is i times, fits)

  length-is : (i : ℕ) → length (plan_row net ask i).entries ≡ count i
  length-is i = length-map-range_with_len (grid_entry net ask.dest i) (first_budget net ask i) (count i)

  entry-is : (i j : ℕ) (entry : PolicyEntry) → slice_get (plan_row net ask i).entries j ≡ Some entry → entry ≡ grid_entry net ask.dest i (first_budget net ask i + j)
  entry-is i j entry at =
      let within : j < length (plan_row net ask i).entries = slice_get_within (plan_row net ask i).entries j entry at in
      sym (get_or_from_slice_get (plan_row net ask i).entries j entry entry at)
      ∙ get_or-map-range_with_len (grid_entry net ask.dest i) (first_budget net ask i) (count i) j (first_budget net ask i + j) entry (omega (arith, within, length-is i)) refl

  row-filed : (i : ℕ) → HasLeastTimes net ask.origin ask.dest ask.budget i → IsGridRow net ask.origin ask.dest ask.budget (plan_row net ask i)
  row-filed i times = record {
    elsewhere = times.elsewhere;
    onward = subst (λ (n : ℕ). IsLeastTime net ask.dest i ask.dest (Some n)) (sym (first-is i times)) times.onward;
    back = times.from;
    came = times.came;
    count = omega (arith, length-is i, first-is i times, count-is i times, times.within);
    entries = entry-is i;
  }

  found-filed : (i : ℕ) (row : PolicyRow) → row_of net ask i ≡ Some row → IsGridRow net ask.origin ask.dest ask.budget row
  found-filed i row is =
      ⊎_elim
      (λ (some : 0 < count i).
      let here : Some (plan_row net ask i) ≡ Some row = (rw (lt-ltb 0 (count i) some) at is) in
      let same : plan_row net ask i ≡ row = cc in
      subst (IsGridRow net ask.origin ask.dest ask.budget) same (row-filed i (laws.counted i some)))
      (λ (none : count i ≤ 0).
      let nothing : None ≡ Some row = (rw (le-ltb 0 (count i) none) at is) in
      absurd (cc))
      (cases_lt 0 (count i))

  abbrev rows : List PolicyRow
  rows = filter_map (row_of net ask) (range_with_len 1 net.nodes)

  rows-filed : All (IsGridRow net ask.origin ask.dest ask.budget) rows
  rows-filed = found-all (IsGridRow net ask.origin ask.dest ask.budget) (row_of net ask) 1 net.nodes (λ i low high row is. found-filed i row is)

  row-at : (k : ℕ) (row : PolicyRow) → slice_get rows k ≡ Some row → IsGridRow net ask.origin ask.dest ask.budget row
  row-at k row at =
      subst (IsGridRow net ask.origin ask.dest ask.budget) (get_or_from_slice_get rows k row row at) (rows-filed k row (slice_get_within rows k row at))

  node-filed : (i t : ℕ) → in_region net ask.origin ask.dest ask.budget i t ≡ true → (k : ℕ) × (row : PolicyRow) × (slice_get rows k ≡ Some row) × (row.node ≡ i)
  node-filed i t inside =
      let times = laws.inside i t inside in
      let some : 0 < count i = omega (arith, count-is i times, times.within) in
      let here : row_of net ask i ≡ Some (plan_row net ask i) = rw (lt-ltb 0 (count i) some) refl in
      let found = found-there (row_of net ask) 1 net.nodes i (plan_row net ask i) times.node.0 (omega (arith, times.node.1)) here in
      (found.0, plan_row net ask i, found.1, refl)

  pub plan-filed : IsPlanFile net ask.origin ask.dest ask.budget (plan_table net ask)
  unfolding plan_table
  plan-filed = record { head = refl; rows = row-at; nodes = node-filed }
