-- Rows of which one is another.
use Rattle.std.proofs.Common.{ℕ, zero, suc, ◌≡◌, ◌+◌, ◌-◌, ◌<◌, ◌≤◌, min, List, [], ◌∷◌, ◌++◌, length, get_or, set, replicate, Option, None, refl, sym, ◌∙◌, ap, arith, ⊎_elim, subst}
use Rattle.std.proofs.lemmas.Bool.{cases_eq}
use Rattle.std.proofs.lemmas.List.{get_or-set_same, get_or-set_other, length-set, length-append, get_or-replicate}
use Rattle.std.proofs.Math.ListN.{length-replicate}
use Rattle.sota_units.specs.Limits.{NODE_LIMIT}
use Rattle.sota_network.specs.Numbers.{listed}
use Rattle.sota_bank.specs.Rows.{Row, row_of, list_at, cap_at, with_list, lists, capacities, empty_rows}
use Rattle.sota_network.specs.Laws.{ListLaws}
use Rattle.sota_kept.specs.Ticks.{END_LIMIT}
use Rattle.sota_kept.specs.NodeTables.{NodeTable, IsNodeTable, known_end, cut_to, emptied_table}
use Rattle.sota_kept.specs.TableLists.{table_of, AreTables}
use Rattle.sota_tables.specs.Views.{TablesView, IsTablesView, HasNode, OnlyAt, lists_of, table_at, room_of, row_needed, HasRoom}

module _ {X : Type 0} (rows : List (Row X)) (k : ℕ) (xs : List X) where
  pub list-own : k < length rows → list_at (with_list rows k xs) k ≡ xs
  list-own h = ap (λ (r : Row X). r.items) (get_or-set_same rows k (row_of xs (cap_at rows k)) (row_of [] 0) h)

  pub list-other : (j : ℕ) → (j ≡ k → ⊥) → list_at (with_list rows k xs) j ≡ list_at rows j
  list-other j off = ap (λ (r : Row X). r.items) (get_or-set_other rows k j (row_of xs (cap_at rows k)) (row_of [] 0) off)

  pub list-length : length (with_list rows k xs) ≡ length rows
  list-length = length-set rows k (row_of xs (cap_at rows k))

-- empty rows
empty-at : {X : Type 0} (n k : ℕ) → list_at (empty_rows {X = X} (replicate n 0)) k ≡ []
empty-at zero k = refl
empty-at (suc n) zero = refl
empty-at (suc n) (suc k) = empty-at n k

empty-length : (X : Type 0) (n : ℕ) → length (empty_rows {X = X} (replicate n 0)) ≡ n
empty-length X zero = refl
empty-length X (suc n) = ap suc (empty-length X n)

pub view-new : (n : ℕ) → n ≤ NODE_LIMIT → (lower upper : List (Row ℕ)) (choices : List (Row (Option ℕ))) (fronts bases : List ℕ) → fronts ≡ replicate n 0 → bases ≡ replicate n END_LIMIT
    → lower ≡ empty_rows (replicate n 0) → upper ≡ empty_rows (replicate n 0) → choices ≡ empty_rows (replicate n 0) → IsTablesView (record { dest = None; fronts = fronts; bases = bases; lower = lower; upper = upper; choices = choices })
view-new n small lower upper choices fronts bases at-fronts at-bases at-lower at-upper at-choices =
    let long : length fronts ≡ n = ap (λ (xs : List ℕ). length xs) at-fronts ∙ length-replicate n 0 in
    record {
      small = omega arith;
      bases = ap (λ (xs : List ℕ). length xs) at-bases ∙ length-replicate n END_LIMIT ∙ sym long;
      lower = ap (λ (xs : List (Row ℕ)). length xs) at-lower ∙ empty-length ℕ n ∙ sym long;
      upper = ap (λ (xs : List (Row ℕ)). length xs) at-upper ∙ empty-length ℕ n ∙ sym long;
      choices = ap (λ (xs : List (Row (Option ℕ))). length xs) at-choices ∙ empty-length (Option ℕ) n ∙ sym long;
      tables = λ i low high.
          let front : get_or fronts (i - 1) 0 ≡ 0 = ap (λ (xs : List ℕ). get_or xs (i - 1) 0) at-fronts ∙ get_or-replicate n (i - 1) 0 0 (omega arith) in
          let base : get_or bases (i - 1) 0 ≡ END_LIMIT = ap (λ (xs : List ℕ). get_or xs (i - 1) 0) at-bases ∙ get_or-replicate n (i - 1) END_LIMIT 0 (omega arith) in
          let one : list_at lower (i - 1) ≡ [] = ap (λ (rows : List (Row ℕ)). list_at rows (i - 1)) at-lower ∙ empty-at n (i - 1) in
          let two : list_at upper (i - 1) ≡ [] = ap (λ (rows : List (Row ℕ)). list_at rows (i - 1)) at-upper ∙ empty-at n (i - 1) in
          let three : list_at choices (i - 1) ≡ [] = ap (λ (rows : List (Row (Option ℕ))). list_at rows (i - 1)) at-choices ∙ empty-at n (i - 1) in
          record {
            front = omega (arith, front);
            base = omega (arith, base);
            lower = ap (λ (xs : List ℕ). length xs) one ∙ omega (arith, front);
            upper = ap (λ (xs : List ℕ). length xs) two ∙ omega (arith, front);
            choices = ap (λ (xs : List (Option ℕ)). length xs) three ∙ omega (arith, front);
          };
    }

-- one table_of is another that has the shape
pub view-changed : (v : TablesView) → IsTablesView v → (n front base : ℕ) (lower upper : List ℕ) (choices : List (Option ℕ)) → 1 ≤ n → n ≤ length v.fronts → IsNodeTable (record { front = front; base = base; lower = lower; upper = upper; choices = choices })
    → IsTablesView (record {
      dest = v.dest;
      fronts = set v.fronts (n - 1) front;
      bases = set v.bases (n - 1) base;
      lower = with_list v.lower (n - 1) lower;
      upper = with_list v.upper (n - 1) upper;
      choices = with_list v.choices (n - 1) choices;
    })
view-changed v is n front base lower upper choices from to shape =
    let k : ℕ = n - 1 in
    let long : length (set v.fronts k front) ≡ length v.fronts = length-set v.fronts k front in
    record {
      small = omega (arith, long, is.small);
      bases = length-set v.bases k base ∙ is.bases ∙ sym long;
      lower = list-length v.lower k lower ∙ is.lower ∙ sym long;
      upper = list-length v.upper k upper ∙ is.upper ∙ sym long;
      choices = list-length v.choices k choices ∙ is.choices ∙ sym long;
      tables = λ i low high.
          ⊎_elim
          (λ (at : i ≡ n).
          rw at
          (let f : get_or (set v.fronts k front) k 0 ≡ front = get_or-set_same v.fronts k front 0 (omega arith) in
          let b : get_or (set v.bases k base) k 0 ≡ base = get_or-set_same v.bases k base 0 (omega (arith, is.bases)) in
          let one : list_at (with_list v.lower k lower) k ≡ lower = list-own v.lower k lower (omega (arith, is.lower)) in
          let two : list_at (with_list v.upper k upper) k ≡ upper = list-own v.upper k upper (omega (arith, is.upper)) in
          let three : list_at (with_list v.choices k choices) k ≡ choices = list-own v.choices k choices (omega (arith, is.choices)) in
          rw (f, b, one, two, three) shape))
          (λ (off : i ≡ n → ⊥).
          let off' : i - 1 ≡ k → ⊥ = λ z. off (omega arith) in
          let f : get_or (set v.fronts k front) (i - 1) 0 ≡ get_or v.fronts (i - 1) 0 = get_or-set_other v.fronts k (i - 1) front 0 off' in
          let b : get_or (set v.bases k base) (i - 1) 0 ≡ get_or v.bases (i - 1) 0 = get_or-set_other v.bases k (i - 1) base 0 off' in
          let one : list_at (with_list v.lower k lower) (i - 1) ≡ list_at v.lower (i - 1) = list-other v.lower k lower (i - 1) off' in
          let two : list_at (with_list v.upper k upper) (i - 1) ≡ list_at v.upper (i - 1) = list-other v.upper k upper (i - 1) off' in
          let three : list_at (with_list v.choices k choices) (i - 1) ≡ list_at v.choices (i - 1) = list-other v.choices k choices (i - 1) off' in
          rw (f, b, one, two, three) (is.tables i low (omega (arith, high, long))))
          (cases_eq i n);
    }

-- a list in which an item is replaced by itself
set-self : (xs : List ℕ) (k : ℕ) → set xs k (get_or xs k 0) ≡ xs
set-self [] k = refl
set-self (x ∷ xs) zero = refl
set-self (x ∷ xs) (suc k) = ap (λ (ys : List ℕ). x ∷ ys) (set-self xs k)

-- so many entries more may stand at a node, from the end that was read of it on
pub record MayPush (v : TablesView) (n end count : ℕ) : Type 0 where
  pub from : 1 ≤ n
  pub to : n ≤ length v.fronts
  pub at : end ≡ known_end (table_at v n)
  pub room : end + count ≤ END_LIMIT

-- what is asked of a node by its name, and of tables as contracts see them
pub may-push : (v seen : TablesView) (n node end count : ℕ) → v ≡ seen → n ≡ node → HasNode seen node → end ≡ known_end (table_at seen node) → known_end (table_at seen node) + count ≤ END_LIMIT → MayPush v n end count
may-push v seen n node end count same named has is room =
    let asked : MayPush seen node end count = record { from = has.0; to = has.1; at = is; room = omega (arith, is, room) } in
    subst (λ (j : ℕ). MayPush v j end count) (sym named) (subst (λ (x : TablesView). MayPush x node end count) (sym same) asked)

-- entries more
pub view-longer : (v : TablesView) → IsTablesView v → (n end : ℕ) (ls us : List ℕ) (cs : List (Option ℕ)) → MayPush v n end (length ls) → 1 ≤ length ls → length us ≡ length ls → length cs ≡ length ls
    → IsTablesView (record {
      dest = v.dest;
      fronts = set v.fronts (n - 1) (end + length ls);
      bases = v.bases;
      lower = with_list v.lower (n - 1) (list_at v.lower (n - 1) ++ ls);
      upper = with_list v.upper (n - 1) (list_at v.upper (n - 1) ++ us);
      choices = with_list v.choices (n - 1) (list_at v.choices (n - 1) ++ cs);
    })
view-longer v is n end ls us cs may some upper-long choices-long =
    let s = is.tables n may.from may.to in
    let b : ℕ = get_or v.bases (n - 1) 0 in
    let base : b ≤ END_LIMIT = s.base in
    let one : length (list_at v.lower (n - 1)) ≡ (table_at v n).front - b = s.lower in
    let two : length (list_at v.upper (n - 1)) ≡ (table_at v n).front - b = s.upper in
    let three : length (list_at v.choices (n - 1)) ≡ (table_at v n).front - b = s.choices in
    let made = view-changed v is n (end + length ls) b (list_at v.lower (n - 1) ++ ls) (list_at v.upper (n - 1) ++ us) (list_at v.choices (n - 1) ++ cs) may.from may.to
    (record {
      front = may.room;
      base = base;
      lower = length-append (list_at v.lower (n - 1)) ls ∙ omega (arith, one, may.at);
      upper = length-append (list_at v.upper (n - 1)) us ∙ omega (arith, two, may.at, upper-long);
      choices = length-append (list_at v.choices (n - 1)) cs ∙ omega (arith, three, may.at, choices-long);
    }) in
    subst
    (λ (bs : List ℕ). IsTablesView (record {
      dest = v.dest;
      fronts = set v.fronts (n - 1) (end + length ls);
      bases = bs;
      lower = with_list v.lower (n - 1) (list_at v.lower (n - 1) ++ ls);
      upper = with_list v.upper (n - 1) (list_at v.upper (n - 1) ++ us);
      choices = with_list v.choices (n - 1) (list_at v.choices (n - 1) ++ cs);
    }))
    (set-self v.bases (n - 1)) made

-- one
pub view-pushed : (v : TablesView) → IsTablesView v → (n end : ℕ) (l u : ℕ) (c : Option ℕ) → MayPush v n end 1
    → IsTablesView (record {
      dest = v.dest;
      fronts = set v.fronts (n - 1) (end + 1);
      bases = v.bases;
      lower = with_list v.lower (n - 1) (list_at v.lower (n - 1) ++ l ∷ []);
      upper = with_list v.upper (n - 1) (list_at v.upper (n - 1) ++ u ∷ []);
      choices = with_list v.choices (n - 1) (list_at v.choices (n - 1) ++ c ∷ []);
    })
view-pushed v is n end l u c may =
    view-longer v is n end (l ∷ []) (u ∷ []) (c ∷ []) may (let z : 1 ≤ 1 = omega arith in z) refl refl

-- ---- a loop over the nodes
-- what was done to the first k nodes, and not yet to the others
pub record Done (f : ℕ → NodeTable → NodeTable) (k : ℕ) (old now : TablesView) : Type 0 where
  pub nodes : length now.fronts ≡ length old.fronts
  pub bases : length now.bases ≡ length old.bases
  pub done : (i : ℕ) → 1 ≤ i → i ≤ k → table_at now i ≡ f i (table_at old i)
  pub todo : (i : ℕ) → k < i → table_at now i ≡ table_at old i

pub done-first : (f : ℕ → NodeTable → NodeTable) (old now : TablesView) → now.fronts ≡ old.fronts → now.bases ≡ old.bases → ((i : ℕ) → table_at now i ≡ table_at old i) → Done f 0 old now
done-first f old now fronts bases same = record {
  nodes = ap (λ (xs : List ℕ). length xs) fronts;
  bases = ap (λ (xs : List ℕ). length xs) bases;
  done = λ i low high. absurd (omega arith);
  todo = λ i far. same i;
}

pub done-next : (f : ℕ → NodeTable → NodeTable) (k : ℕ) (old now new : TablesView) → Done f k old now → OnlyAt (k + 1) now new → table_at new (k + 1) ≡ f (k + 1) (table_at now (k + 1)) → Done f (k + 1) old new
done-next f k old now new is only made = record {
  nodes = only.nodes ∙ is.nodes;
  bases = only.bases ∙ is.bases;
  done = λ i low high.
      ⊎_elim
      (λ (at : i ≡ k + 1). rw at (made ∙ ap (f (k + 1)) (is.todo (k + 1) (omega arith))))
      (λ (off : i ≡ k + 1 → ⊥). only.others i low off ∙ is.done i low (omega arith))
      (cases_eq i (k + 1));
  todo = λ i far. only.others i (omega arith) (λ z. omega arith) ∙ is.todo i (omega arith);
}

-- to cut all is to keep no entry
pub cut-none : (s : NodeTable) → cut_to 0 s ≡ emptied_table s
cut-none s =
    let front : min s.front 0 ≡ 0 = omega arith in
    let none : 0 - s.base ≡ 0 = omega arith in
    rw (front, none) refl

-- ---- rows by their lists
lists-at : {X : Type 0} (rows : List (Row X)) (k : ℕ) → get_or (lists rows) k [] ≡ list_at rows k
lists-at [] k = refl
lists-at (r ∷ rows) zero = refl
lists-at (r ∷ rows) (suc k) = lists-at rows k

pub same-lists : {X : Type 0} (old new : List (Row X)) → lists new ≡ lists old → (k : ℕ) → list_at new k ≡ list_at old k
same-lists old new same k = sym (lists-at new k) ∙ ap (λ xs. get_or xs k []) same ∙ lists-at old k

lists-length : {X : Type 0} (rows : List (Row X)) → length (lists rows) ≡ length rows
lists-length [] = refl
lists-length (r ∷ rows) = ap suc (lists-length rows)

pub same-length : {X : Type 0} (old new : List (Row X)) → lists new ≡ lists old → length new ≡ length old
same-length old new same = sym (lists-length new) ∙ ap (λ xs. length xs) same ∙ lists-length old

pub table_of-held : (v : TablesView) (i : ℕ) → table_of (lists_of v) i ≡ table_at v i
table_of-held v i = rw (lists-at v.lower (i - 1), lists-at v.upper (i - 1), lists-at v.choices (i - 1)) refl

pub view-held : (v : TablesView) → IsTablesView v → AreTables (lists_of v) (length v.fronts)
view-held v is = record {
  fronts = refl;
  bases = is.bases;
  tables = λ i low high. subst (λ (s : NodeTable). IsNodeTable s) (sym (table_of-held v i)) (is.tables i low high);
}

-- other capacities
pub view-regrown : (v : TablesView) → IsTablesView v → (lower upper : List (Row ℕ)) (choices : List (Row (Option ℕ))) → lists lower ≡ lists v.lower → lists upper ≡ lists v.upper → lists choices ≡ lists v.choices
    → IsTablesView (record { dest = v.dest; fronts = v.fronts; bases = v.bases; lower = lower; upper = upper; choices = choices })
view-regrown v is lower upper choices one two three = record {
  small = is.small;
  bases = is.bases;
  lower = same-length v.lower lower one ∙ is.lower;
  upper = same-length v.upper upper two ∙ is.upper;
  choices = same-length v.choices choices three ∙ is.choices;
  tables = λ i low high.
      rw (same-lists v.lower lower one (i - 1), same-lists v.upper upper two (i - 1), same-lists v.choices choices three (i - 1)) (is.tables i low high);
}

-- ---- rows as long as the needs
pub caps-at : {X : Type 0} (rows : List (Row X)) (k : ℕ) → get_or (capacities rows) k 0 ≡ cap_at rows k
caps-at [] k = refl
caps-at (r ∷ rows) zero = refl
caps-at (r ∷ rows) (suc k) = caps-at rows k

module _ (laws : ListLaws) (v : TablesView) (is : IsTablesView v) (needs caps : List ℕ) (at : caps ≡ listed (row_needed v needs) (length v.fronts)) where
  pub caps-long : length caps ≡ length v.fronts
  caps-long = ap (λ (xs : List ℕ). length xs) at ∙ laws.count (row_needed v needs) (length v.fronts)

  -- no row is longer than that
  pub rows-fit : (k : ℕ) → k < length v.fronts → (length (list_at v.lower k) ≤ get_or caps k 0) × (length (list_at v.upper k) ≤ get_or caps k 0) × (length (list_at v.choices k) ≤ get_or caps k 0)
  rows-fit k less =
      let same : suc k - 1 ≡ k = omega arith in
      let s = is.tables (suc k) (omega arith) (omega arith) in
      let cap : get_or caps k 0 ≡ row_needed v needs (suc k) = subst (λ (j : ℕ). get_or caps j 0 ≡ row_needed v needs (suc k)) same (ap (λ (xs : List ℕ). get_or xs (suc k - 1) 0) at ∙ laws.entry (row_needed v needs) (length v.fronts) (suc k) 0 (omega arith) (omega arith)) in
      let one : length (list_at v.lower k) ≡ length (list_at v.lower (suc k - 1)) = ap (λ (x : ℕ). length (list_at v.lower x)) (sym same) in
      let two : length (list_at v.upper k) ≡ length (list_at v.upper (suc k - 1)) = ap (λ (x : ℕ). length (list_at v.upper x)) (sym same) in
      let three : length (list_at v.choices k) ≡ length (list_at v.choices (suc k - 1)) = ap (λ (x : ℕ). length (list_at v.choices x)) (sym same) in
      (omega (arith, cap, one, s.lower), omega (arith, cap, two, s.upper), omega (arith, cap, three, s.choices))

  -- rows with these capacities have room up to the needs
  pub room-made : (lower upper : List (Row ℕ)) (choices : List (Row (Option ℕ))) → lists lower ≡ lists v.lower → lists upper ≡ lists v.upper → lists choices ≡ lists v.choices
      → HasRoom lower caps → HasRoom upper caps → HasRoom choices caps → (i : ℕ) → 1 ≤ i → i ≤ length v.fronts
      → get_or needs (i - 1) 0 - known_end (table_at v i) ≤ room_of (record { dest = v.dest; fronts = v.fronts; bases = v.bases; lower = lower; upper = upper; choices = choices }) i
  room-made lower upper choices same-lower same-upper same-choices cap-lower cap-upper cap-choices i low high =
      let s = is.tables i low high in
      let k : ℕ = i - 1 in
      let cap : get_or caps k 0 ≡ row_needed v needs i = ap (λ (xs : List ℕ). get_or xs k 0) at ∙ laws.entry (row_needed v needs) (length v.fronts) i 0 low high in
      let within : k < length caps = omega (arith, caps-long) in
      let c1 : get_or caps k 0 ≤ cap_at lower k = cap-lower k within in
      let c2 : get_or caps k 0 ≤ cap_at upper k = cap-upper k within in
      let c3 : get_or caps k 0 ≤ cap_at choices k = cap-choices k within in
      let l1 : length (list_at lower k) ≡ length (list_at v.lower k) = ap (λ (xs : List ℕ). length xs) (same-lists v.lower lower same-lower k) in
      let l2 : length (list_at upper k) ≡ length (list_at v.upper k) = ap (λ (xs : List ℕ). length xs) (same-lists v.upper upper same-upper k) in
      let l3 : length (list_at choices k) ≡ length (list_at v.choices k) = ap (λ (xs : List (Option ℕ)). length xs) (same-lists v.choices choices same-choices k) in
      omega (arith, cap, c1, c2, c3, l1, l2, l3, s.lower, s.upper, s.choices)
