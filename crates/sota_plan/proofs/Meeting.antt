-- Tables in which an ask finds all that it wants.
use Rattle.std.proofs.Common.{ℕ, ◌≡◌, ◌+◌, ◌-◌, ◌<◌, ◌≤◌, ◌||◌, ◌==◌, not, nat_le, nat_lt, Bool, true, false, if◌then◌else◌, List, [], ◌∷◌, length, get_or, Option, None, Some, refl, sym, ◌∙◌, ap, subst, arith, ⊎_elim}
use Rattle.std.proofs.lemmas.Bool.{and_parts, cases_eq, cases_lt, eqb-true, le-leb, leb-true, le-ltb, lt-leb, true≢false}
use Rattle.sota_network.specs.Network.{Net, IsNet, IsNode}
use Rattle.sota_network.specs.Numbers.{listed}
use Rattle.sota_network.specs.Region.{need}
use Rattle.sota_network.specs.Laws.{ListLaws}
use Rattle.sota_bounds.specs.Cells.{listed_need}
use Rattle.sota_bounds.specs.Regions.{IsRegion}
use Rattle.sota_bounds.specs.declared.ask.AskRegion.{AskRegion}
use Rattle.sota_kept.specs.Ticks.{END_LIMIT, least_to}
use Rattle.sota_kept.specs.NodeTables.{NodeTable, IsNodeTable, known_end, emptied_table, rebased_table}
use Rattle.sota_kept.specs.States.{is_dest}
use Rattle.sota_kept.specs.TableLists.{AreTables}
use Rattle.sota_kept.specs.Asks.{IsPrepared}
use Rattle.sota_bounds.specs.Search.{time_at}
use Rattle.sota_tables.specs.Views.{TablesView, HasNode, table_at, lists_of}
use Rattle.sota_plan.specs.Met.{has_all}
use Rattle.sota_plan.specs.Steps.{base_by, too_many, StepsTaken}
use Rattle.sota_plan.proofs.Preparing.{NeedsWithin, need-is}
use Rattle.sota_plan.proofs.Stepping.{TableIs, TimesAre, CellsAre, bases-at, steps-prepared}

-- ---- a table that has its base is not rebased
abbrev empty_at : ℕ → ℕ → NodeTable
empty_at front base = record { front = front; base = base; lower = []; upper = []; choices = [] }

empty-is : (front base least : ℕ) (lower upper : List ℕ) (choices : List (Option ℕ)) → base ≡ least → length lower ≡ 0 → length upper ≡ 0 → length choices ≡ 0
    → empty_at front least ≡ record { front = front; base = base; lower = lower; upper = upper; choices = choices }
empty-is front base least [] [] [] is none none' none'' = ap (empty_at front) (sym is)
empty-is front base least (x ∷ xs) upper choices is some none' none'' = absurd (omega (arith, some))
empty-is front base least [] (x ∷ xs) choices is none some none'' = absurd (omega (arith, some))
empty-is front base least [] [] (x ∷ xs) is none none' some = absurd (omega (arith, some))

stays : (front base least : ℕ) (lower upper : List ℕ) (choices : List (Option ℕ)) → length lower ≡ front - base → length upper ≡ front - base → length choices ≡ front - base → (front ≤ least → base ≡ least)
    → rebased_table least (record { front = front; base = base; lower = lower; upper = upper; choices = choices }) ≡ record { front = front; base = base; lower = lower; upper = upper; choices = choices }
stays front base least lower upper choices low high all based =
    ⊎_elim
    (λ (above : least < front). rw (lt-leb front least above) refl)
    (λ (below : front ≤ least).
    let is : base ≡ least = based below in
    rw (le-leb front least below) (empty-is front base least lower upper choices is (omega (arith, low, is, below)) (omega (arith, high, is, below)) (omega (arith, all, is, below))))
    (cases_lt least front)

-- a test that numbers pass, and one more
pub each-more : (test : ℕ → Bool) (k : ℕ) → ((i : ℕ) → 1 ≤ i → i ≤ k → test i ≡ true) → test (k + 1) ≡ true → (i : ℕ) → 1 ≤ i → i ≤ k + 1 → test i ≡ true
each-more test k before here i low high =
    ⊎_elim
    (λ (at : i ≡ k + 1). ap test at ∙ here)
    (λ (off : i ≡ k + 1 → ⊥). before i low (omega (arith, high, off)))
    (cases_eq i (k + 1))

pub not-so : (b : Bool) → not b ≡ true → b ≡ false
not-so true h = absurd (true≢false (sym h))
not-so false h = refl

dest-is : (d : Option ℕ) (dest : ℕ) → is_dest d dest ≡ true → d ≡ Some dest
dest-is None dest h = absurd (true≢false (sym h))
dest-is (Some d) dest h = ap Some (eqb-true d dest h)

module _ (laws : ListLaws) (times : TimesAre) (net : Net) (valid : IsNet net) (region : AskRegion) (is : IsRegion region net region.origin region.dest region.budget) (v : TablesView) (long : (length v.fronts ≡ net.nodes) × (length v.bases ≡ net.nodes))
    (each : (i : ℕ) → HasNode v i → has_all v region i ≡ true) where
  node-has : (i : ℕ) → IsNode net i → HasNode v i
  node-has i node = (node.0, (let high : i ≤ length v.fronts = omega (arith, node.1, long.0) in high))

  base-is : (i : ℕ) → IsNode net i → base_by region.least i ≡ least_to net region.dest i
  base-is i node = sym (times net region.dest END_LIMIT region.dest i (time_at region.least i) valid (is.least i node))

  parts : (i : ℕ) → IsNode net i → (nat_le (listed_need region.need i) (known_end (table_at v i)) ≡ true) × ((nat_lt (base_by region.least i) (table_at v i).front || ((table_at v i).base == base_by region.least i)) ≡ true)
  parts i node = and_parts (nat_le (listed_need region.need i) (known_end (table_at v i))) (nat_lt (base_by region.least i) (table_at v i).front || ((table_at v i).base == base_by region.least i)) (each i (node-has i node))

  -- each node's need is met
  pub met-need : NeedsWithin net region.origin region.dest region.budget → (i : ℕ) → IsNode net i → need net region.origin region.dest region.budget i ≤ known_end (table_at v i)
  met-need within i node =
      let enough : listed_need region.need i ≤ known_end (table_at v i) = leb-true (listed_need region.need i) (known_end (table_at v i)) (parts i node).0 in
      subst (λ (n : ℕ). n ≤ known_end (table_at v i)) (need-is laws net valid region is within i node) enough

  -- and none without an entry above its least time has another base
  pub met-base : (i : ℕ) → IsNode net i → (table_at v i).front ≤ least_to net region.dest i → (table_at v i).base ≡ least_to net region.dest i
  met-base i node low =
      let base : ℕ = base_by region.least i in
      let none : nat_lt base (table_at v i).front ≡ false = le-ltb base (table_at v i).front (omega (arith, low, base-is i node)) in
      let same : ((table_at v i).base == base) ≡ true = sym (ap (λ (b : Bool). b || ((table_at v i).base == base)) none) ∙ (parts i node).1 in
      eqb-true (table_at v i).base base same ∙ base-is i node

  -- so the first three steps of the ask change nothing
  pub met-prepared : TableIs → AreTables (lists_of v) net.nodes → is_dest v.dest region.dest ≡ true → too_many v region.need (length v.fronts) ≡ false → CellsAre net region.origin region.dest region.budget v v
      → IsPrepared net region.origin region.dest region.budget (lists_of v) (lists_of v)
  met-prepared table held towards fits counted =
      let bases : List ℕ = listed (base_by region.least) net.nodes in
      let base : (i : ℕ) → IsNode net i → get_or bases (i - 1) 0 ≡ least_to net region.dest i = λ i node. bases-at laws bases region.least net.nodes refl times net valid region.dest i node.0 node.1 (is.least i node) in
      let node-of : (i : ℕ) → HasNode v i → IsNode net i = λ i has. (has.0, (let high : i ≤ net.nodes = omega (arith, has.1, long.0) in high)) in
      let kept : (i : ℕ) → IsNode net i → rebased_table (least_to net region.dest i) (table_at v i) ≡ table_at v i =
      λ i node.
      let shape : IsNodeTable (table_at v i) = subst IsNodeTable (table v i) (held.tables i node.0 node.1) in
      stays (table_at v i).front (table_at v i).base (least_to net region.dest i) (table_at v i).lower (table_at v i).upper (table_at v i).choices shape.lower shape.upper shape.choices (met-base i node) in
      let steps : StepsTaken v v region.dest region.need bases = record {
        mid = v;
        nodes = refl;
        based = λ i has.
            sym (ap (λ (b : ℕ). rebased_table b (table_at v i)) (base i (node-of i has)) ∙ kept i (node-of i has))
            ∙ ap (λ (b : Bool). rebased_table (get_or bases (i - 1) 0) (if not b then emptied_table (table_at v i) else table_at v i)) (sym towards);
        last = λ i has. ap (λ (b : Bool). if b then rebased_table (get_or bases (i - 1) 0) (emptied_table (table_at v i)) else table_at v i) (sym fits);
      } in
      steps-prepared laws table net region.origin region.dest region.budget v v region.need bases long is.need base (dest-is v.dest region.dest towards) (refl, refl) steps counted
