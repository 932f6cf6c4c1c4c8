-- One extent after another, until all needs are met.
use Rattle.std.proofs.Common.{ℕ, zero, suc, ◌≡◌, ◌≢◌, ◌+◌, ◌-◌, ◌*◌, ◌<◌, ◌≤◌, inl, inr, max, List, [], ◌∷◌, length, slice_index, refl, sym, ◌∙◌, ap, subst, arith, ⊎_elim}
use Rattle.std.specs.List.{sum}
use Rattle.std.proofs.Math.ListN.{set}
use Rattle.std.proofs.lemmas.Bool.{cases_eq}
use Rattle.std.proofs.lemmas.List.{get_or-set_same, get_or-set_other}
use Rattle.sota_network.specs.Network.{Net, IsNode}
use Rattle.sota_network.specs.Numbers.{listed}
use Rattle.sota_network.specs.Region.{need}
use Rattle.sota_network.specs.Laws.{ListLaws}
use Rattle.sota_kept.specs.NodeTables.{NodeTable, IsNodeTable, AreReady, IsExtent, IsGrownAt, known_end}
use Rattle.sota_kept.specs.TableLists.{AreTables, table_of}
use Rattle.sota_kept.specs.Asks.{IsGrown, left_to_push}
use Rattle.sota_order.specs.Orders.{OrderView, CanBeMet, IsReach, IsNext, AreNeedsMet, need_at, order_end, with_front}
use Rattle.sota_order.specs.declared.order.Extent.{Extent}
use Rattle.sota_tables.specs.Views.{TablesView, lists_of, SameNodes, table_at, room_of}
use Rattle.sota_bounds.specs.declared.ask.AskRegion.{AskRegion}
use Rattle.sota_fill.specs.Fills.{IsLonger, IsUnfilled}
use Rattle.sota_plan.specs.Laws.{RegionLaws}
use Rattle.sota_plan.proofs.Extends.{Agrees, left_of}
use Rattle.sota_plan.proofs.Preparing.{sum-last}
use Rattle.sota_plan.proofs.Stepping.{TableIs}

-- ---- how many entries are left
sum-none : (f : ℕ → ℕ) (n : ℕ) → ((i : ℕ) → 1 ≤ i → i ≤ n → f i ≡ 0) → sum (listed f n) ≡ 0
sum-none f zero none = refl
sum-none f (suc n) none = omega (arith, sum-last f n, sum-none f n (λ i low high. none i low (omega arith)), none (suc n) (omega arith) (omega arith))

falls-by : ListLaws → (f g : ℕ → ℕ) (n i d : ℕ) → 1 ≤ i → i ≤ n → f i ≡ g i + d → ((j : ℕ) → 1 ≤ j → j ≢ i → f j ≡ g j) → sum (listed f n) ≡ sum (listed g n) + d
falls-by laws f g zero i d low high here others = absurd (omega arith)
falls-by laws f g (suc n) i d low high here others =
    let left : sum (listed f (suc n)) ≡ sum (listed f n) + f (suc n) = sum-last f n in
    let right : sum (listed g (suc n)) ≡ sum (listed g n) + g (suc n) = sum-last g n in
    ⊎_elim
    (λ (at : suc n ≡ i).
    let front : sum (listed f n) ≡ sum (listed g n) = ap sum (laws.agree f g n (λ j from to. others j from (λ z. omega arith))) in
    let end : f (suc n) ≡ g (suc n) + d = ap f at ∙ here ∙ ap (λ (x : ℕ). g x + d) (sym at) in
    omega arith)
    (λ (off : suc n ≡ i → ⊥).
    let front : sum (listed f n) ≡ sum (listed g n) + d = falls-by laws f g n i d low (omega arith) here others in
    let end : f (suc n) ≡ g (suc n) = others (suc n) (omega arith) off in
    omega arith)
    (cases_eq (suc n) i)

-- ---- between two extents
pub record Going (net : Net) (dest : ℕ) (first now : OrderView) (old tables : TablesView) (before pushed : ℕ) : Type 0 where
  pub node : IsNode net dest
  pub waiting : CanBeMet net now
  pub to : now.dest ≡ dest
  pub needs : now.needs ≡ first.needs
  pub agrees : Agrees net now tables
  pub ready : AreReady net dest (table_at tables)
  pub grown : (i : ℕ) → IsNode net i → IsGrownAt (need_at first i) (table_at old i) (table_at tables i)
  pub same : SameNodes old tables
  pub dest_table : table_at tables dest ≡ table_at old dest
  pub count : pushed + 3 * left_of net.nodes first.needs (table_at tables) ≡ before + 3 * left_of net.nodes first.needs (table_at old)

pub going-first : (net : Net) (dest : ℕ) (first : OrderView) (old : TablesView) (before : ℕ) → IsNode net dest → dest ≡ first.dest → CanBeMet net first → Agrees net first old → AreReady net dest (table_at old) → Going net dest first first old old before before
going-first net dest first old before node at waiting agrees ready = record {
  node = node;
  waiting = waiting;
  to = sym at;
  needs = refl;
  agrees = agrees;
  ready = ready;
  grown = λ i node. record { base = refl; front = inl refl };
  same = record { dest = refl; nodes = refl; bases = refl };
  dest_table = refl;
  count = refl;
}

-- an extent of an order is one of the tables
abbrev ExtentIs : Net → Type 0
ExtentIs net = (w : OrderView) (tables : ℕ → NodeTable) (i to : ℕ) → IsReach net w i to → ((j : ℕ) → IsNode net j → known_end (tables j) ≡ order_end w j) → IsExtent net w.dest tables i to

next-extent : (net : Net) → ExtentIs net → (order : OrderView) (tables : TablesView) (extent : Extent) (dest : ℕ) → Agrees net order tables → IsNext net order extent → order.dest ≡ dest → IsExtent net dest (table_at tables) extent.node extent.to
next-extent net law order tables extent dest agrees next at =
    subst (λ (d : ℕ). IsExtent net d (table_at tables) extent.node extent.to) at (law order (table_at tables) extent.node extent.to next.reach (λ j node. sym (agrees.ends j node)))

-- its node is not the destination, which is not needed
next-off : (net : Net) (order : OrderView) (extent : Extent) (dest : ℕ) → CanBeMet net order → IsNext net order extent → dest ≡ order.dest → extent.node ≢ dest
next-off net order extent dest waiting next at same =
    let node : extent.node ≡ order.dest = same ∙ at in
    let none : need_at order extent.node ≡ 0 = ap (need_at order) node ∙ waiting.dest in
    omega (arith, next.needed)

-- what the next extent is to the tables and to the region
pub record NextIs (net : Net) (region : AskRegion) (tables : TablesView) (extent : Extent) : Type 0 where
  pub start : extent.from ≡ known_end (table_at tables extent.node)
  pub some : known_end (table_at tables extent.node) < extent.to
  pub within : extent.to ≤ slice_index region.need (extent.node - 1)
  pub unfilled : IsUnfilled net region.dest extent.node extent.from extent.to tables

pub next-is : (net : Net) (region : AskRegion) → RegionLaws net region → (first now : OrderView) (old tables : TablesView) (before pushed : ℕ) (extent : Extent) → Going net region.dest first now old tables before pushed → first.needs ≡ region.need → IsNext net now extent → NextIs net region tables extent
next-is net region R first now old tables before pushed extent going needs next =
    let needed : need_at now extent.node ≡ slice_index region.need (extent.node - 1) = ap (λ (xs : List ℕ). slice_index xs (extent.node - 1)) (going.needs ∙ needs) in
    let within : extent.to ≤ slice_index region.need (extent.node - 1) = omega (arith, next.reach.need, needed) in
    let start : extent.from ≡ known_end (table_at tables extent.node) = next.from ∙ going.agrees.ends extent.node next.node in
    record {
      start = start;
      some = omega (arith, start, next.some);
      within = within;
      unfilled = record {
        valid = R.valid;
        node = next.node;
        off = next-off net now extent region.dest going.waiting next (sym going.to);
        nodes = going.agrees.nodes;
        ready = going.ready;
        start = start;
        some = next.some;
        extent = next-extent net R.extent now tables extent region.dest going.agrees next going.to;
        limit = omega (arith, within, R.needs extent.node next.node);
        room = omega (arith, start, next.reach.need, going.agrees.room extent.node next.node);
      };
    }

module _ (laws : ListLaws) (net : Net) (dest : ℕ) (first now next : OrderView) (old tables new : TablesView) (before pushed more : ℕ) (extent : Extent) (going : Going net dest first now old tables before pushed) (is : IsNext net now extent) (at : next ≡ with_front now extent.node extent.to) (waiting : CanBeMet net next) (ready : AreReady net dest (table_at new)) (longer : IsLonger extent.node (extent.to - extent.from) tables new) (counted : more ≡ pushed + 3 * (extent.to - extent.from)) where
  start : extent.from ≡ known_end (table_at tables extent.node)
  start = is.from ∙ going.agrees.ends extent.node is.node

  stop : known_end (table_at new extent.node) ≡ extent.to
  stop = omega (arith, longer.end, start, is.some)

  within : extent.to ≤ need_at now extent.node
  within = is.reach.need

  kept : (i : ℕ) → 1 ≤ i → (i ≡ extent.node → ⊥) → table_at new i ≡ table_at tables i
  kept i low off = longer.only.others i low off

  need-same : (i : ℕ) → need_at next i ≡ need_at now i
  need-same i = ap (λ (w : OrderView). need_at w i) at

  need-first : (i : ℕ) → need_at now i ≡ need_at first i
  need-first i = ap (λ (xs : List ℕ). slice_index xs (i - 1)) going.needs

  new-end : (i : ℕ) → IsNode net i → order_end next i ≡ known_end (table_at new i)
  new-end i node =
      ap (λ (w : OrderView). order_end w i) at
      ∙ ⊎_elim
      (λ (here : i ≡ extent.node).
      let set-front : slice_index (set now.fronts (extent.node - 1) extent.to) (extent.node - 1) ≡ extent.to = get_or-set_same now.fronts (extent.node - 1) extent.to 0 (omega (arith, is.node.0, is.node.1, going.waiting.nodes.0)) in
      let base : slice_index now.bases (extent.node - 1) ≤ extent.to = omega (arith, is.from, is.some) in
      let end : order_end (with_front now extent.node extent.to) extent.node ≡ extent.to = omega arith in
      ap (order_end (with_front now extent.node extent.to)) here ∙ end ∙ sym stop ∙ ap (λ (k : ℕ). known_end (table_at new k)) (sym here))
      (λ (off : i ≡ extent.node → ⊥).
      let off' : i - 1 ≡ extent.node - 1 → ⊥ = λ z. off (omega (arith, node.0, is.node.0)) in
      let other : slice_index (set now.fronts (extent.node - 1) extent.to) (i - 1) ≡ slice_index now.fronts (i - 1) = get_or-set_other now.fronts (extent.node - 1) (i - 1) extent.to 0 off' in
      let end : order_end (with_front now extent.node extent.to) i ≡ order_end now i = ap (λ (f : ℕ). max f (slice_index now.bases (i - 1))) other in
      end ∙ going.agrees.ends i node ∙ ap known_end (sym (kept i node.0 off)))
      (cases_eq i extent.node)

  new-room : (i : ℕ) → IsNode net i → need_at next i ≤ known_end (table_at new i) + room_of new i
  new-room i node =
      let was : need_at now i ≤ known_end (table_at tables i) + room_of tables i = going.agrees.room i node in
      ⊎_elim
      (λ (here : i ≡ extent.node).
      let was' : need_at now extent.node ≤ known_end (table_at tables extent.node) + room_of tables extent.node = going.agrees.room extent.node is.node in
      let here' : need_at now extent.node ≤ known_end (table_at new extent.node) + room_of new extent.node = omega (arith, longer.room, longer.end) in
      let there : need_at now i ≤ known_end (table_at new i) + room_of new i = subst (λ (k : ℕ). need_at now k ≤ known_end (table_at new k) + room_of new k) (sym here) here' in
      omega (arith, need-same i))
      (λ (off : i ≡ extent.node → ⊥).
      let end : known_end (table_at new i) ≡ known_end (table_at tables i) = ap known_end (kept i node.0 off) in
      let room : room_of new i ≡ room_of tables i = longer.rooms i node.0 off in
      omega (arith, need-same i))
      (cases_eq i extent.node)

  new-grown : (i : ℕ) → IsNode net i → IsGrownAt (need_at first i) (table_at old i) (table_at new i)
  new-grown i node =
      ⊎_elim
      (λ (here : i ≡ extent.node).
      let was : IsGrownAt (need_at first extent.node) (table_at old extent.node) (table_at tables extent.node) = going.grown extent.node is.node in
      let rise : known_end (table_at old extent.node) ≤ known_end (table_at tables extent.node) =
      ⊎_elim
      (λ (same : (table_at tables extent.node).front ≡ (table_at old extent.node).front). omega (arith, was.base))
      (λ (more : (known_end (table_at old extent.node) < (table_at tables extent.node).front) × ((table_at tables extent.node).front ≤ need_at first extent.node)). omega (arith, more.0))
      was.front in
      let front : (table_at new extent.node).front ≡ extent.to = longer.front (omega (arith, is.some)) ∙ (let z : known_end (table_at tables extent.node) + (extent.to - extent.from) ≡ extent.to = omega (arith, start, is.some) in z) in
      let here' : IsGrownAt (need_at first extent.node) (table_at old extent.node) (table_at new extent.node) =
      record { base = longer.base ∙ was.base; front = inr (omega (arith, start, is.some), omega (arith, within, need-first extent.node)) } in
      subst (λ (k : ℕ). IsGrownAt (need_at first k) (table_at old k) (table_at new k)) (sym here) here')
      (λ (off : i ≡ extent.node → ⊥). subst (λ (s : NodeTable). IsGrownAt (need_at first i) (table_at old i) s) (sym (kept i node.0 off)) (going.grown i node))
      (cases_eq i extent.node)

  pub left-less : left_of net.nodes first.needs (table_at tables) ≡ left_of net.nodes first.needs (table_at new) + (extent.to - extent.from)
  left-less =
      falls-by laws (λ i. slice_index first.needs (i - 1) - known_end (table_at tables i)) (λ i. slice_index first.needs (i - 1) - known_end (table_at new i)) net.nodes extent.node (extent.to - extent.from) is.node.0 is.node.1
      (omega (arith, stop, start, within, need-first extent.node, is.some))
      (λ j low off. ap (λ (s : NodeTable). slice_index first.needs (j - 1) - known_end s) (sym (kept j low off)))

  pub going-next : Going net dest first next old new before more
  going-next = record {
    node = going.node;
    waiting = waiting;
    to = ap (λ (w : OrderView). w.dest) at ∙ going.to;
    needs = ap (λ (w : OrderView). w.needs) at ∙ going.needs;
    agrees = record { nodes = longer.only.nodes ∙ going.agrees.nodes; ends = new-end; room = new-room };
    ready = ready;
    grown = new-grown;
    same = record { dest = longer.only.dest ∙ going.same.dest; nodes = longer.only.nodes ∙ going.same.nodes; bases = longer.only.bases ∙ going.same.bases };
    dest_table =
        (let off : extent.node ≢ now.dest = next-off net now extent now.dest going.waiting is refl in
        let apart : dest ≡ extent.node → ⊥ = λ z. off (sym z ∙ sym going.to) in
        kept dest going.node.0 apart ∙ going.dest_table);
    count = omega (arith, going.count, left-less, counted);
  }

-- ---- the end
pub going-met : (net : Net) (dest : ℕ) (first now : OrderView) (old tables : TablesView) (before pushed : ℕ) → Going net dest first now old tables before pushed → AreNeedsMet net now → (i : ℕ) → IsNode net i → need_at first i ≤ known_end (table_at tables i)
going-met net dest first now old tables before pushed going met i node =
    let need : need_at now i ≡ need_at first i = ap (λ (xs : List ℕ). slice_index xs (i - 1)) going.needs in
    let end : order_end now i ≡ known_end (table_at tables i) = going.agrees.ends i node in
    let reached : need_at now i ≤ order_end now i = met i node in
    omega arith

pub going-count : ListLaws → (net : Net) (dest : ℕ) (first now : OrderView) (old tables : TablesView) (before pushed : ℕ) → Going net dest first now old tables before pushed → AreNeedsMet net now → pushed ≡ before + 3 * left_of net.nodes first.needs (table_at old)
going-count laws net dest first now old tables before pushed going met =
    let none : left_of net.nodes first.needs (table_at tables) ≡ 0 =
    sum-none (λ i. slice_index first.needs (i - 1) - known_end (table_at tables i)) net.nodes
    (λ i low high. let reached : need_at first i ≤ known_end (table_at tables i) = going-met net dest first now old tables before pushed going met i (low, high) in omega arith) in
    omega (arith, going.count)

-- ---- the state at the end, for the needs of an ask
same-items : (xs ys : List ℕ) → length xs ≡ length ys → ((k : ℕ) → k < length xs → slice_index xs k ≡ slice_index ys k) → xs ≡ ys
same-items [] [] long same = refl
same-items [] (y ∷ ys) long same = absurd (omega arith)
same-items (x ∷ xs) [] long same = absurd (omega arith)
same-items (x ∷ xs) (y ∷ ys) long same =
    let first : x ≡ y = same 0 (omega arith) in
    let rest : xs ≡ ys = same-items xs ys (omega arith) (λ k h. same (suc k) (omega arith)) in
    cc

module _ (table : TableIs) (net : Net) (origin dest last : ℕ) (needs : List ℕ) (old new : TablesView) (nodes : length old.fronts ≡ net.nodes) (bases : length old.bases ≡ net.nodes) (same : SameNodes old new) (need-is : (i : ℕ) → IsNode net i → slice_index needs (i - 1) ≡ need net origin dest last i) where
  pub left-is : ListLaws → left_of net.nodes needs (table_at old) ≡ left_to_push net origin dest last (table_of (lists_of old))
  left-is laws =
      ap sum
      (laws.agree (λ i. slice_index needs (i - 1) - known_end (table_at old i)) (λ i. need net origin dest last i - known_end (table_of (lists_of old) i)) net.nodes
      (λ i low high. ap (λ (n : ℕ). n - known_end (table_at old i)) (need-is i (low, high))))

  pub grown-is : ((i : ℕ) → IsNode net i → IsGrownAt (slice_index needs (i - 1)) (table_at old i) (table_at new i)) → IsGrown net origin dest last (lists_of old) (lists_of new)
  grown-is rows =
      let same-bases : new.bases ≡ old.bases =
      same-items new.bases old.bases same.bases
      (λ k h.
      let node : IsNode net (k + 1) = (omega arith, omega (arith, same.bases, bases)) in
      let base : slice_index new.bases (k + 1 - 1) ≡ slice_index old.bases (k + 1 - 1) = (rows (k + 1) node).base in
      let at : k + 1 - 1 ≡ k = omega arith in
      subst (λ (n : ℕ). slice_index new.bases n ≡ slice_index old.bases n) at base) in
      record {
        to = same.dest;
        bases = same-bases;
        nodes = same.nodes ∙ nodes;
        tables = λ i node.
            subst (λ (s : NodeTable). IsGrownAt (need net origin dest last i) (table_of (lists_of old) i) s) (sym (table new i))
            (subst (λ (s : NodeTable). IsGrownAt (need net origin dest last i) s (table_at new i)) (sym (table old i))
            (subst (λ (n : ℕ). IsGrownAt n (table_at old i) (table_at new i)) (need-is i node) (rows i node)));
      }

  -- the new tables have the shape of tables too
  pub tables-new : AreTables (lists_of old) net.nodes → AreReady net dest (table_at new) → table_at new dest ≡ table_at old dest → AreTables (lists_of new) net.nodes
  tables-new held ready dest-table = record {
    fronts = same.nodes ∙ nodes;
    bases = same.bases ∙ bases;
    tables = λ i low high.
        ⊎_elim
        (λ (here : i ≡ dest). subst (λ (s : NodeTable). IsNodeTable s) (table old i ∙ ap (table_at old) here ∙ sym dest-table ∙ sym (ap (table_at new) here) ∙ sym (table new i)) (held.tables i low high))
        (λ (off : i ≡ dest → ⊥). subst (λ (s : NodeTable). IsNodeTable s) (sym (table new i)) (ready i (low, high) off).settled.kept.shape)
        (cases_eq i dest);
  }
