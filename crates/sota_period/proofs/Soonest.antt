-- Needs by least times over the quickest arcs.
use Rattle.std.proofs.Common.{ℕ, zero, suc, ◌⊎◌, slice_index, ◌≡◌, ◌≢◌, ◌+◌, ◌-◌, ◌<◌, ◌≤◌, false, List, [], ◌∷◌, ◌++◌, length, map, get_or, slice_get, Option, None, Some, refl, sym, ◌∙◌, ap, subst, arith, ⊎_elim}
use Rattle.std.specs.List.{All}
use Rattle.std.proofs.lemmas.Bool.{cases_eq, cases_lt}
use Rattle.std.proofs.lemmas.Option.{slice_get_within, get_or_from_slice_get, slice_get-get_or}
use Rattle.std.proofs.lemmas.List.{get_or_default, get_or-map, length-map, length-append, get_or_append_left, get_or-append_right}
use Rattle.sota_hist.specs.Time.{is_closed, least_tick}
use Rattle.sota_network.specs.Network.{Net, IsNet, IsNode, IsArc, arc_at}
use Rattle.sota_network.specs.Walks.{Walk, empty, step, IsLeastTime}
use Rattle.sota_network.specs.declared.network.Arc.{Arc}
use Rattle.sota_period.specs.Laws.{NetworkLaws}
use Rattle.sota_period.specs.Periods.{ArePeriods, HasRoadsOf, ends, first_net, no_net, period_at}
use Rattle.sota_period.specs.Needs.{node_need, Serves, AreTimedNeeds, need_by, IsBy, IsQuicker, IsQuickest, AreQuickest}

-- ---- periods by their places
pub item-at : (periods : List (ℕ × Net)) (k : ℕ) (item : ℕ × Net) → k < length periods → item ≡ get_or periods k item → item.1 ≡ period_at periods k
item-at periods k item less is = ap (λ (p : ℕ × Net). p.1) (is ∙ get_or_default periods k item (0, no_net) less)

pub roads-at : (periods : List (ℕ × Net)) (k : ℕ) → ArePeriods periods → k < length periods → HasRoadsOf (first_net periods) (period_at periods k)
roads-at periods k are less = are.order.roads k (0, no_net) less

pub count-at : (first net : Net) → HasRoadsOf first net → length net.arcs ≡ length first.arcs
count-at first net roads =
    sym (length-map net.arcs (λ (a : Arc). (a.tail, a.head))) ∙ ap length roads.ends ∙ length-map first.arcs (λ (a : Arc). (a.tail, a.head))

ends-at : (net : Net) (k : ℕ) (a : Arc) → slice_get net.arcs k ≡ Some a → get_or (ends net.arcs) k (0, 0) ≡ (a.tail, a.head)
ends-at net k a at =
    get_or-map (λ (x : Arc). (x.tail, x.head)) net.arcs k a (0, 0) (slice_get_within net.arcs k a at)
    ∙ ap (λ (x : Arc). (x.tail, x.head)) (get_or_from_slice_get net.arcs k a a at)

-- arcs of one number have the same ends
pub road-same : (first net : Net) → HasRoadsOf first net → (e : ℕ) (a b : Arc) → arc_at first e ≡ Some a → arc_at net e ≡ Some b → (a.tail ≡ b.tail) × (a.head ≡ b.head)
road-same first net roads zero a b at there = absurd (cc)
road-same first net roads (suc k) a b at there =
    let same : (a.tail, a.head) ≡ (b.tail, b.head) = sym (ends-at first k a at) ∙ ap (λ (xs : List (ℕ × ℕ)). get_or xs k (0, 0)) (sym roads.ends) ∙ ends-at net k b there in
    (ap (λ (p : ℕ × ℕ). p.0) same, ap (λ (p : ℕ × ℕ). p.1) same)

-- ---- the quickest ticks
pub tick-more : (periods : List (ℕ × Net)) (number k : ℕ) (item : ℕ × Net) (arc : Arc) (old new : Option ℕ) → k < length periods → item ≡ get_or periods k item → arc_at item.1 number ≡ Some arc
    → ((late : ℕ) → IsBy old late → IsBy new late) → (is_closed arc.time ≡ false → IsBy new (least_tick arc.time))
    → ((m : ℕ) (a : Arc) → m < k → arc_at (period_at periods m) number ≡ Some a → is_closed a.time ≡ false → IsBy old (least_tick a.time))
    → (m : ℕ) (a : Arc) → m < k + 1 → arc_at (period_at periods m) number ≡ Some a → is_closed a.time ≡ false → IsBy new (least_tick a.time)
tick-more periods number k item arc old new less is at kept here before m a low there opened =
    ⊎_elim
    (λ (same : m ≡ k).
    let both : Some arc ≡ Some a = sym at ∙ ap (λ (n : Net). arc_at n number) (item-at periods k item less is) ∙ ap (λ (n : ℕ). arc_at (period_at periods n) number) (sym same) ∙ there in
    let one : arc ≡ a = cc in
    subst (λ (b : Arc). IsBy new (least_tick b.time)) one (here (subst (λ (b : Arc). is_closed b.time ≡ false) (sym one) opened)))
    (λ (off : m ≡ k → ⊥). kept (least_tick a.time) (before m a (omega arith) there opened))
    (cases_eq m k)

pub quicker : (periods : List (ℕ × Net)) → ArePeriods periods → (number : ℕ) (first quick : Arc) → arc_at (first_net periods) number ≡ Some first → quick.tail ≡ first.tail → quick.head ≡ first.head
    → ((k : ℕ) (arc : Arc) → k < length periods → arc_at (period_at periods k) number ≡ Some arc → is_closed arc.time ≡ false → (is_closed quick.time ≡ false) × (least_tick quick.time ≤ least_tick arc.time))
    → IsQuickest periods number quick
quicker periods are number first quick at tail head soon k arc less there =
    let same = road-same (first_net periods) (period_at periods k) (roads-at periods k are less) number first arc at there in
    record {
      tail = tail ∙ same.0;
      head = head ∙ same.1;
      open_arc = λ opened. (soon k arc less there opened).0;
      least = λ opened. (soon k arc less there opened).1;
    }

-- one arc more
pub quickest-more : (periods : List (ℕ × Net)) (k : ℕ) (items : List Arc) (quick : Arc) → length items ≡ k → IsQuickest periods (k + 1) quick
    → ((n : ℕ) (d : Arc) → n < k → IsQuickest periods (n + 1) (get_or items n d))
    → (n : ℕ) (d : Arc) → n < k + 1 → IsQuickest periods (n + 1) (get_or (items ++ quick ∷ []) n d)
quickest-more periods k items quick long here before n d less =
    ⊎_elim
    (λ (early : n < k). subst (λ (a : Arc). IsQuickest periods (n + 1) a) (sym (get_or_append_left items (quick ∷ []) d n (omega arith))) (before n d early))
    (λ (last : k ≤ n).
    let same : n ≡ k = omega arith in
    let place : n - k ≡ 0 = omega arith in
    let read : get_or (items ++ quick ∷ []) n d ≡ quick = get_or-append_right items (quick ∷ []) k n d long last ∙ ap (λ (m : ℕ). get_or (quick ∷ []) m d) place in
    subst (λ (a : Arc). IsQuickest periods (n + 1) a) (sym read) (subst (λ (m : ℕ). IsQuickest periods (m + 1) quick) (sym same) here))
    (cases_lt n k)

quickest-at : (periods : List (ℕ × Net)) → ArePeriods periods → (quick : Net) → length (first_net periods).arcs ≤ length quick.arcs
    → ((n : ℕ) (d : Arc) → n < length quick.arcs → IsQuickest periods (n + 1) (get_or quick.arcs n d))
    → (k e : ℕ) (arc : Arc) → k < length periods → arc_at (period_at periods k) e ≡ Some arc → (other : Arc) × (arc_at quick e ≡ Some other) × IsQuicker arc other
quickest-at periods are quick enough all k zero arc less at = absurd (cc)
quickest-at periods are quick enough all k (suc n) arc less at =
    let inside : n < length (period_at periods k).arcs = slice_get_within (period_at periods k).arcs n arc at in
    let within : n < length quick.arcs = omega (arith, inside, enough, count-at (first_net periods) (period_at periods k) (roads-at periods k are less)) in
    let number : n + 1 ≡ suc n = omega arith in (
      get_or quick.arcs n arc,
      slice_get-get_or quick.arcs n arc within,
      subst (λ (e : ℕ). IsQuickest periods e (get_or quick.arcs n arc)) number (all n arc within) k arc less at,
    )

pub quickest-all : (periods : List (ℕ × Net)) → ArePeriods periods → (quick : Net) → IsNet quick → quick.nodes ≡ (first_net periods).nodes → length (first_net periods).arcs ≤ length quick.arcs
    → ((n : ℕ) (d : Arc) → n < length quick.arcs → IsQuickest periods (n + 1) (get_or quick.arcs n d)) → AreQuickest periods quick
quickest-all periods are quick valid nodes enough all = record {
  valid = valid;
  nodes = nodes;
  arc = quickest-at periods are quick enough all;
}

-- ---- needs by least times
pub need-within : (budget : ℕ) (time : Option ℕ) → need_by budget time ≤ budget + 1
need-within budget None = omega arith
need-within budget (Some time) = omega arith

pub needs-within : (budget : ℕ) (times : List (Option ℕ)) → All (λ n. n ≤ budget + 1) (map (need_by budget) times)
needs-within budget times k d less =
    let inside : k < length times = omega (arith, less, length-map times (need_by budget)) in
    subst (λ (n : ℕ). n ≤ budget + 1) (sym (get_or-map (need_by budget) times k None d inside)) (need-within budget (get_or times k None))

need-is : (budget : ℕ) (times : List (Option ℕ)) (i : ℕ) → 1 ≤ i → i ≤ length times → node_need (map (need_by budget) times) i ≡ need_by budget (get_or times (i - 1) None)
need-is budget times i low high = get_or-map (need_by budget) times (i - 1) None 0 (omega arith)

module _ (net : Net) (dest origin : ℕ) (joined : (i j k n m : ℕ) → Walk net dest i j n → Walk net dest j k m → Walk net dest i k (n + m)) where
  -- who comes to the tail of an arc in some time comes to its head in its least tick more
  need-along : (budget e : ℕ) (arc : Arc) → arc_at net e ≡ Some arc → arc.tail ≢ dest → is_closed arc.time ≡ false → (from to : Option ℕ)
      → IsLeastTime net dest origin arc.tail from → IsLeastTime net dest origin arc.head to → need_by budget from ≤ need_by budget to + least_tick arc.time
  need-along budget e arc at off opened None to here there = omega arith
  need-along budget e arc at off opened (Some n) None here there =
      absurd (there (n + (least_tick arc.time + 0)) (joined origin arc.tail arc.head n (least_tick arc.time + 0) here.walk (step e arc at off opened empty)))
  need-along budget e arc at off opened (Some n) (Some m) here there =
      let soon : m ≤ n + (least_tick arc.time + 0) =
      there.least (n + (least_tick arc.time + 0)) (joined origin arc.tail arc.head n (least_tick arc.time + 0) here.walk (step e arc at off opened empty)) in
      omega (arith, soon)

need-start : (net : Net) (dest origin budget : ℕ) (time : Option ℕ) → IsLeastTime net dest origin origin time → need_by budget time ≡ budget + 1
need-start net dest origin budget None none = absurd (none 0 empty)
need-start net dest origin budget (Some n) least =
    let soon : n ≤ 0 = least.least 0 empty in
    omega (arith, soon)

module _ (laws : NetworkLaws) (periods : List (ℕ × Net)) (quick : Net) (are : AreQuickest periods quick) (dest origin budget : ℕ) (times : List (Option ℕ))
    (nodes : length times ≡ quick.nodes) (least : (i : ℕ) → IsNode quick i → IsLeastTime quick dest origin i (get_or times (i - 1) None)) where
  pub origin-need : IsNode quick origin → node_need (map (need_by budget) times) origin ≡ budget + 1
  origin-need node = need-is budget times origin node.0 (omega (arith, node.1, nodes)) ∙ need-start quick dest origin budget (get_or times (origin - 1) None) (least origin node)

  serves-at : (joined : (i j k n m : ℕ) → Walk quick dest i j n → Walk quick dest j k m → Walk quick dest i k (n + m)) → (k : ℕ) → k < length periods → Serves (map (need_by budget) times) dest (period_at periods k)
  serves-at joined k less e arc at opened off =
      let found = are.arc k e arc less at in
      let other : Arc = found.0 in
      let same : IsQuicker arc other = found.2 in
      let there : IsArc quick other = laws.arc quick e other are.valid found.1 in
      let away : other.tail ≢ dest = λ eq. off (sym same.tail ∙ eq) in
      let along = need-along quick dest origin joined budget e other found.1 away (same.open_arc opened) (get_or times (other.tail - 1) None) (get_or times (other.head - 1) None) (least other.tail there.tail) (least other.head there.head) in
      let tail = ap (λ (i : ℕ). node_need (map (need_by budget) times) i) (sym same.tail) ∙ need-is budget times other.tail there.tail.0 (omega (arith, there.tail.1, nodes)) in
      let head = ap (λ (i : ℕ). node_need (map (need_by budget) times) i) (sym same.head) ∙ need-is budget times other.head there.head.0 (omega (arith, there.head.1, nodes)) in
      omega (arith, along, tail, head, same.least opened)

  pub are-needs : (joined : (i j k n m : ℕ) → Walk quick dest i j n → Walk quick dest j k m → Walk quick dest i k (n + m)) → AreTimedNeeds periods dest (budget + 1) (map (need_by budget) times)
  are-needs joined = record {
    count = length-map times (need_by budget) ∙ nodes ∙ are.nodes;
    within = needs-within budget times;
    serves = λ k d less. subst (λ (p : ℕ × Net). Serves (map (need_by budget) times) dest p.1) (get_or_default periods k (0, no_net) d less) (serves-at joined k less);
  }

-- ---- nodes with a need
abbrev pub Found : List ℕ → ℕ → Type 0
Found nodes i = (k : ℕ) × (k < length nodes) × (slice_index nodes k ≡ i)

module _ (needs nodes : List ℕ) (dest k : ℕ) (all : (i : ℕ) → 1 ≤ i → i ≤ k → i ≢ dest → 1 ≤ node_need needs i → Found nodes i) where
  pub visited-more : (i : ℕ) → 1 ≤ i → i ≤ k + 1 → i ≢ dest → 1 ≤ node_need needs i → Found (nodes ++ (k + 1) ∷ []) i
  visited-more i low high off some =
      ⊎_elim
      (λ (last : i ≡ k + 1).
      let place : length nodes - length nodes ≡ 0 = omega arith in (
        length nodes,
        omega (arith, length-append nodes ((k + 1) ∷ [])),
        get_or-append_right nodes ((k + 1) ∷ []) (length nodes) (length nodes) 0 refl (omega arith) ∙ ap (λ (m : ℕ). get_or ((k + 1) ∷ []) m 0) place ∙ sym last,
      ))
      (λ (early : i ≡ k + 1 → ⊥).
      let was : Found nodes i = all i low (omega arith) off some in
      (was.0, omega (arith, was.1, length-append nodes ((k + 1) ∷ [])), get_or_append_left nodes ((k + 1) ∷ []) 0 was.0 was.1 ∙ was.2))
      (cases_eq i (k + 1))

  pub visited-same : (node_need needs (k + 1) ≡ 0) ⊎ (k + 1 ≡ dest) → (i : ℕ) → 1 ≤ i → i ≤ k + 1 → i ≢ dest → 1 ≤ node_need needs i → Found nodes i
  visited-same none i low high off some =
      ⊎_elim
      (λ (last : i ≡ k + 1).
      absurd (⊎_elim
      (λ (zero_is : node_need needs (k + 1) ≡ 0).
      let here : node_need needs i ≡ node_need needs (k + 1) = ap (node_need needs) last in
      let bad : 1 ≤ 0 = omega (arith, some, here, zero_is) in
      let contra : ⊥ = omega (arith, bad) in contra)
      (λ (at : k + 1 ≡ dest). off (last ∙ at))
      none))
      (λ (early : i ≡ k + 1 → ⊥). all i low (omega arith) off some)
      (cases_eq i (k + 1))
