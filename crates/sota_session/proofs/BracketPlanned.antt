-- The bracket of an ask by the least times of its nodes.
use Rattle.std.proofs.Common.{ℕ, zero, suc, ◌≡◌, ◌≢◌, ◌+◌, ◌-◌, ◌<◌, ◌≤◌, ◌&&◌, nat_le, Bool, true, false, map, length, slice_get, Option, Some, None, option_and_then, refl, sym, ◌∙◌, ap, arith, ⊎_elim, if◌then◌else◌, inl, inr, ◌⊎◌}
use Rattle.std.specs.Option.{option_map_or}
use Rattle.std.specs.List.{range_with_len}
use Rattle.std.proofs.lemmas.Bool.{cases_Bool, cases_lt, le-leb, lt-leb, true≢false, leb-true}
use Rattle.std.proofs.lemmas.Option.{slice_get-get_or, slice_get_past}
use Rattle.std.proofs.lemmas.List.FromFn.{length-map-range_with_len, get_or-map-range_with_len}
use Rattle.sota_network.specs.Network.{Net, IsNode}
use Rattle.sota_network.specs.Walks.{IsLeastTime}
use Rattle.sota_network.specs.Reach.{in_region}
use Rattle.sota_network.specs.Region.{HasLeastTimes, is_between}
use Rattle.sota_kept.specs.Ticks.{END_LIMIT, up_to}
use Rattle.sota_polfile.specs.Table.{entry_from}
use Rattle.sota_polfile.specs.Bracket.{bracket_row_of, bracket_entry_of}
use Rattle.sota_polfile.specs.declared.bracket_entry.BracketEntry.{BracketEntry}
use Rattle.sota_polfile.specs.declared.bracket_row.BracketRow.{BracketRow}
use Rattle.sota_check.specs.PlannedBracket.{grid_bracket, first_budget_by, IsPlannedBracket}
use Rattle.sota_session.specs.Brackets.{bracket_row, plan_bracket}
use Rattle.sota_session.specs.declared.ask.Ask.{Ask}
use Rattle.sota_session.proofs.Bracketing.{HasTimes, count, first, first-is, count-is}

both : (a b : Bool) → (a && b) ≡ true → (a ≡ true) × (b ≡ true)
both true true e = (refl, refl)
both true false e = absurd (cc)
both false b e = absurd (cc)

-- what is listed stands at its place
listed-at : {X : Type 0} (f : ℕ → X) (a n k : ℕ) → k < n → slice_get (map f (range_with_len a n)) k ≡ Some (f (a + k))
listed-at f a n k less =
    let inside : k < length (map f (range_with_len a n)) = omega (arith, less, length-map-range_with_len f a n) in
    slice_get-get_or (map f (range_with_len a n)) k (f (a + k)) inside
    ∙ ap (λ x. Some x) (get_or-map-range_with_len f a n k (a + k) (f (a + k)) less refl)

listed-past : {X : Type 0} (f : ℕ → X) (a n k : ℕ) → n ≤ k → slice_get (map f (range_with_len a n)) k ≡ None
listed-past f a n k past = slice_get_past (map f (range_with_len a n)) k (omega (arith, past, length-map-range_with_len f a n))

same-first : (time : Option ℕ) → up_to END_LIMIT time ≡ first_budget_by time
same-first None = refl
same-first (Some n) = refl

-- the entry of a row for a budget
within-row : (f : ℕ → BracketEntry) (a n t : ℕ) → a ≤ t → t < a + n → entry_from a (map f (range_with_len a n)) t ≡ Some (f t)
within-row f a n t low high =
    let at : a + (t - a) ≡ t = omega (arith, low) in
    rw (le-leb a t low) (listed-at f a n (t - a) (omega (arith, low, high)) ∙ ap (λ (u : ℕ). Some (f u)) at)

below-row : (f : ℕ → BracketEntry) (a n t : ℕ) → t < a → entry_from a (map f (range_with_len a n)) t ≡ None
below-row f a n t low = rw (lt-leb a t low) refl

above-row : (f : ℕ → BracketEntry) (a n t : ℕ) → a + n ≤ t → entry_from a (map f (range_with_len a n)) t ≡ None
above-row f a n t high = rw (le-leb a t (omega (arith, high))) (listed-past f a n (t - a) (omega (arith, high)))

outside-row : (f : ℕ → BracketEntry) (a n t : ℕ) → (a ≤ t → t < a + n → ⊥) → entry_from a (map f (range_with_len a n)) t ≡ None
outside-row f a n t out =
    ⊎_elim
    (λ (low : t < a). below-row f a n t low)
    (λ (from : a ≤ t).
    ⊎_elim
    (λ (less : t < a + n). absurd (out from less))
    (λ (past : a + n ≤ t). above-row f a n t past)
    (cases_lt t (a + n)))
    (cases_lt t a)

module _ (net : Net) (ask : Ask) (laws : HasTimes net ask)
    (inside : (i t : ℕ) → in_region net ask.origin ask.dest ask.budget i t ≡ true → HasLeastTimes net ask.origin ask.dest ask.budget i)
    (between : (i t to from : ℕ) → i ≢ ask.dest → IsLeastTime net ask.dest i ask.dest (Some to) → IsLeastTime net ask.dest ask.origin i (Some from)
    → in_region net ask.origin ask.dest ask.budget i t ≡ is_between ask.budget (Some to) (Some from) t)
    (found : (i : ℕ) → IsNode net i → (to : Option ℕ) × IsLeastTime net ask.dest i ask.dest to) where
  abbrev region : ℕ → ℕ → Bool
  region i t = in_region net ask.origin ask.dest ask.budget i t

  table-row : (i : ℕ) → IsNode net i → bracket_row_of (plan_bracket net ask) i ≡ Some (bracket_row net ask i)
  unfolding plan_bracket
  table-row zero node = absurd (omega (arith, node.0))
  table-row (suc k) node =
      let less : k < net.nodes = omega (arith, node.1) in
      let at : 1 + k ≡ suc k = omega arith in
      listed-at (bracket_row net ask) 1 net.nodes k less ∙ ap (λ (i : ℕ). Some (bracket_row net ask i)) at

  no-row : (i : ℕ) → (IsNode net i → ⊥) → bracket_row_of (plan_bracket net ask) i ≡ None
  unfolding plan_bracket
  no-row zero none = refl
  no-row (suc k) none =
      ⊎_elim
      (λ (less : k < net.nodes). absurd (none ((let low : 1 ≤ suc k = omega arith in low), (let high : suc k ≤ net.nodes = omega (arith, less) in high))))
      (λ (past : net.nodes ≤ k). listed-past (bracket_row net ask) 1 net.nodes k past)
      (cases_lt k net.nodes)

  -- the budgets of a row are those of the region
  row-in : (i t : ℕ) → region i t ≡ true → (first net ask laws i ≤ t) × (t < first net ask laws i + count net ask laws i)
  row-in i t within =
      let times = inside i t within in
      let is : (nat_le times.to t && nat_le (t + times.from) ask.budget) ≡ true = sym (between i t times.to times.from times.elsewhere times.onward times.came) ∙ within in
      let low : times.to ≤ t = leb-true times.to t (both (nat_le times.to t) (nat_le (t + times.from) ask.budget) is).0 in
      let high : t + times.from ≤ ask.budget = leb-true (t + times.from) ask.budget (both (nat_le times.to t) (nat_le (t + times.from) ask.budget) is).1 in
      (omega (arith, low, first-is net ask laws i times), omega (arith, high, first-is net ask laws i times, count-is net ask laws i times, times.within))

  row-out : (i t : ℕ) → region i t ≡ false → first net ask laws i ≤ t → t < first net ask laws i + count net ask laws i → ⊥
  row-out i t outside low high =
      let times = laws.counted i (omega (arith, low, high)) in
      let from : times.to ≤ t = omega (arith, low, first-is net ask laws i times) in
      let to : t + times.from ≤ ask.budget = omega (arith, high, first-is net ask laws i times, count-is net ask laws i times, times.within) in
      let within : region i t ≡ true = between i t times.to times.from times.elsewhere times.onward times.came ∙ (rw (le-leb times.to t from, le-leb (t + times.from) ask.budget to) refl) in
      true≢false (sym within ∙ outside)

  abbrev entry_if : Bool → ℕ → ℕ → Option BracketEntry
  entry_if within i t = if within then Some (grid_bracket net ask.dest i t) else None

  row-entry : (i t : ℕ) → (within : Bool) → region i t ≡ within → entry_from (bracket_row net ask i).first (bracket_row net ask i).entries t ≡ entry_if within i t
  row-entry i t true within =
      let at = row-in i t within in
      within-row (grid_bracket net ask.dest i) (first net ask laws i) (count net ask laws i) t at.0 at.1
  row-entry i t false outside =
      outside-row (grid_bracket net ask.dest i) (first net ask laws i) (count net ask laws i) t (row-out i t outside)

  node-cases : (i : ℕ) → IsNode net i ⊎ (IsNode net i → ⊥)
  node-cases i =
      ⊎_elim
      (λ (low : 0 < i).
      ⊎_elim
      (λ (over : net.nodes < i). inr (λ node. absurd (omega (arith, over, node.1))))
      (λ (fits : i ≤ net.nodes). inl ((let one : 1 ≤ i = omega (arith, low) in one), fits))
      (cases_lt net.nodes i))
      (λ (none : i ≤ 0). inr (λ node. absurd (omega (arith, none, node.0))))
      (cases_lt 0 i)

  entry-at : (i t : ℕ) → bracket_entry_of (plan_bracket net ask) i t ≡ entry_if (region i t) i t
  entry-at i t =
      ⊎_elim
      (λ (node : IsNode net i).
      ap (option_and_then (λ (row : BracketRow). entry_from row.first row.entries t)) (table-row i node) ∙ row-entry i t (region i t) refl)
      (λ (none : IsNode net i → ⊥).
      ap (option_and_then (λ (row : BracketRow). entry_from row.first row.entries t)) (no-row i none)
      ∙ ⊎_elim
      (λ (within : region i t ≡ true). absurd (none (inside i t within).node))
      (λ (outside : region i t ≡ false). ap (λ (b : Bool). entry_if b i t) (sym outside))
      (cases_Bool (region i t)))
      (node-cases i)

  pub bracket-is-planned : IsPlannedBracket net ask.origin ask.dest ask.budget (plan_bracket net ask)
  unfolding plan_bracket
  bracket-is-planned = record {
    head = refl;
    firsts = λ i node off.
        let least = found i node in
        (least.0, least.1, ap (λ (row : Option BracketRow). option_map_or (λ row. row.first) row 0) (table-row i node) ∙ laws.times i least.0 least.1 ∙ same-first least.0);
    entries = entry-at;
  }
