-- Networks over the roads of one graph, and periods that follow one another.
use Rattle.std.proofs.Common.{ℕ, zero, suc, ◌≡◌, ◌+◌, ◌-◌, ◌<◌, ◌≤◌, true}
use Rattle.std.proofs.Common.{List, [], ◌∷◌, ◌++◌, map, length, Option, Some, None}
use Rattle.std.proofs.Common.{Result, Ok, refl, sym, ◌∙◌, ap, subst, arith, ⊎_elim}
use Rattle.std.proofs.Common.{length-append}
use Rattle.std.proofs.Math.Seq.{get_or-append_seam}
use Rattle.std.proofs.lemmas.Bool.{cases_lt, and_parts, ltb-true}
use Rattle.std.proofs.lemmas.List.{get_or_append_left}
use Rattle.std.proofs.lemmas.List.Elements.{All-append}
use Rattle.std.specs.List.{All, enumerate_from}
use Rattle.sota_units.specs.Memory.{◌>>=◌}
use Rattle.sota_dimacs.specs.declared.graph.RawArc.{RawArc}
use Rattle.sota_dimacs.specs.declared.graph.RawGraph.{RawGraph}
use Rattle.sota_network.specs.Network.{Net}
use Rattle.sota_histcsv.specs.Certain.{certain_arc, certain_by, certain_net, zero_time}
use Rattle.sota_histcsv.specs.Histograms.{Contents, timed_arc}
use Rattle.sota_histcsv.specs.Texts.{IsHistTextOf}
use Rattle.sota_histcsv.specs.declared.fault.HistFileFault.{HistFileFault}
use Rattle.sota_period.specs.Periods.{ArePeriodsInOrder, HasRoadsOf, PERIOD_LIMIT, first_net, no_net}
use Rattle.sota_period.specs.Periods.{start_at}
use Rattle.sota_period.specs.Periods as roads
use Rattle.sota_app.specs.Later.{LATER_LIMIT, are_later}
use Rattle.sota_app.specs.Inputs.{HasRoads, CanFollow, raw_ends}

-- ---- the roads of a network are those of its graph

certain_ends : (raw : List RawArc) → roads.ends (map certain_arc raw) ≡ raw_ends raw
certain_ends [] = refl
certain_ends (arc ∷ raw) = ap (λ rest. (arc.tail, arc.head) ∷ rest) (certain_ends raw)

abbrev pub accepted_net : Net → Result Net HistFileFault
accepted_net net = Ok net

certain_by_roads : (found : Option ℕ) (graph : RawGraph) (net : Net)
    → (certain_by found graph.arcs >>= λ arcs.
    accepted_net (record { nodes = graph.nodes; scale = 1; arcs = arcs })) ≡ accepted_net net
    → HasRoads graph net
certain_by_roads None graph net e =
    let same : record { nodes = graph.nodes; scale = 1; arcs = map certain_arc graph.arcs } ≡ net =
    cc in
    subst (HasRoads graph) same (record { nodes = refl; ends = certain_ends graph.arcs })
certain_by_roads (Some arc) graph net e = absurd (cc)

pub weights_roads : (graph : RawGraph) (net : Net) → certain_net graph ≡ Ok net
    → HasRoads graph net
weights_roads graph net e = certain_by_roads (zero_time graph.arcs) graph net e

timed_ends : (known : Contents) (n : ℕ) (raw : List RawArc)
    → roads.ends (map (timed_arc known) (enumerate_from n raw)) ≡ raw_ends raw
timed_ends known n [] = refl
timed_ends known n (arc ∷ raw) =
    ap (λ rest. (arc.tail, arc.head) ∷ rest) (timed_ends known (n + 1) raw)

pub text_roads : (bytes : List ℕ) (graph : RawGraph) (net : Net) → IsHistTextOf bytes graph net
    → HasRoads graph net
text_roads bytes graph net is = record {
  nodes = is.nodes;
  ends = ap roads.ends is.arcs ∙ timed_ends _ 1 graph.arcs;
}

-- ---- a period more

one_has : {X : Type 0} (P : X → Type 0) (x : X) → P x → All P (x ∷ [])
one_has P x h zero d within = h
one_has P x h (suc k) d within = absurd (omega arith)

first_stays : (ps : List (ℕ × Net)) (p : ℕ × Net) → 1 ≤ length ps
    → first_net (ps ++ p ∷ []) ≡ first_net ps
first_stays [] p some = absurd (omega arith)
first_stays (q ∷ ps) p some = refl

-- the first of all periods can follow none
pub first_follows : (graph : RawGraph) → CanFollow graph [] 0
first_follows graph net has = record {
  some = omega arith;
  few = omega arith;
  first = refl;
  rising = λ k within. absurd (omega arith);
  roads = one_has (λ (p : ℕ × Net). HasRoadsOf net p.1) (0, net)
      (record { nodes = refl; ends = refl });
}

module _ (known : List (ℕ × Net)) (start next : ℕ) (net other : Net) where
  abbrev now : List (ℕ × Net)
  now = known ++ (start, net) ∷ []

  abbrev after : List (ℕ × Net)
  after = now ++ (next, other) ∷ []

  inner_start : (k : ℕ) → k < length now → start_at after k ≡ start_at now k
  inner_start k within =
      ap (λ (p : ℕ × Net). p.0)
      (get_or_append_left now ((next, other) ∷ []) (0, no_net) k within)

  rises : ArePeriodsInOrder now → start < next → (k : ℕ) → k + 1 < length after
      → start_at after k < start_at after (k + 1)
  rises order less k within =
      let size : length after ≡ length now + 1 = length-append now ((next, other) ∷ []) in
      let size' : length now ≡ length known + 1 = length-append known ((start, net) ∷ []) in
      ⊎_elim
      (λ (inner : k + 1 < length now).
      let one : start_at after k ≡ start_at now k = inner_start k (omega (arith, inner)) in
      let two : start_at after (k + 1) ≡ start_at now (k + 1) = inner_start (k + 1) inner in
      let less : start_at now k < start_at now (k + 1) = order.rising k inner in
      omega (arith, one, two, less))
      (λ (outer : length now ≤ k + 1).
      let place : length known ≡ k = omega (arith, size, size', outer, within) in
      let place' : length now ≡ k + 1 = omega (arith, size, outer, within) in
      let one : start_at after k ≡ start_at now k = inner_start k (omega (arith, place')) in
      let seam : start_at now k ≡ start =
      subst (λ (m : ℕ). start_at now m ≡ start) place
      (ap (λ (p : ℕ × Net). p.0) (get_or-append_seam known (start, net) [] (0, no_net))) in
      let two : start_at after (k + 1) ≡ next =
      subst (λ (m : ℕ). start_at after m ≡ next) place'
      (ap (λ (p : ℕ × Net). p.0) (get_or-append_seam now (next, other) [] (0, no_net))) in
      omega (arith, one, seam, two, less))
      (cases_lt (k + 1) (length now))

  last_roads : ArePeriodsInOrder now → HasRoadsOf (first_net now) net
  last_roads order =
      let size : length now ≡ length known + 1 = length-append known ((start, net) ∷ []) in
      subst (λ (p : ℕ × Net). HasRoadsOf (first_net now) p.1)
      (get_or-append_seam known (start, net) [] (0, no_net))
      (order.roads (length known) (0, no_net) (omega (arith, size)))

  -- another network over the same roads follows, which starts later
  pub follows : (graph : RawGraph) → ArePeriodsInOrder now → HasRoads graph net → HasRoads graph other
      → start < next → length known + 2 ≤ PERIOD_LIMIT → ArePeriodsInOrder after
  follows graph order has has' less room =
      let size : length after ≡ length now + 1 = length-append now ((next, other) ∷ []) in
      let size' : length now ≡ length known + 1 = length-append known ((start, net) ∷ []) in
      let kept : first_net after ≡ first_net now = first_stays now (next, other) order.some in
      let last : HasRoadsOf (first_net now) net = last_roads order in
      let more : HasRoadsOf (first_net now) other = record {
        nodes = has'.nodes ∙ sym has.nodes ∙ last.nodes;
        ends = has'.ends ∙ sym has.ends ∙ last.ends;
      } in
      record {
        some = omega (arith, size);
        few = omega (arith, size, size', room);
        first = inner_start 0 order.some ∙ order.first;
        rising = rises order less;
        roads = subst (λ (first : Net). All (λ (p : ℕ × Net). HasRoadsOf first p.1) after)
            (sym kept)
            (All-append (λ (p : ℕ × Net). HasRoadsOf (first_net now) p.1) now
            ((next, other) ∷ []) order.roads
            (one_has (λ (p : ℕ × Net). HasRoadsOf (first_net now) p.1) (next, other) more));
      }

-- ---- what is said of the words for later periods

pub record StartsLater (room last : ℕ) (p : ℕ × List ℕ) (ps : List (ℕ × List ℕ)) : Type 0 where
  pub room_left : 0 < room
  pub after : last < p.0
  pub rest : are_later (room - 1) p.0 ps ≡ true

pub starts_later : (room last : ℕ) (p : ℕ × List ℕ) (ps : List (ℕ × List ℕ))
    → are_later room last (p ∷ ps) ≡ true → StartsLater room last p ps
starts_later room last p ps is =
    let one = and_parts _ _ is in
    let two = and_parts _ _ one.1 in
    record {
      room_left = ltb-true 0 room one.0;
      after = ltb-true last p.0 two.0;
      rest = two.1;
    }

-- after a period with a network over the roads of the graph the next one can follow
pub next_follows : (graph : RawGraph) (known : List (ℕ × Net)) (start next : ℕ) (net : Net)
    (hists : List ℕ) (ps : List (ℕ × List ℕ)) → CanFollow graph known start → HasRoads graph net
    → are_later (LATER_LIMIT - length known) start ((next, hists) ∷ ps) ≡ true
    → CanFollow graph (known ++ (start, net) ∷ []) next
next_follows graph known start next net hists ps can has later = λ other has'.
    let said = starts_later (LATER_LIMIT - length known) start (next, hists) ps later in
    follows known start next net other graph (can net has) has has' said.after
    (omega (arith, said.room_left))

pub next_later : (known : List (ℕ × Net)) (start next : ℕ) (net : Net) (hists : List ℕ)
    (ps : List (ℕ × List ℕ))
    → are_later (LATER_LIMIT - length known) start ((next, hists) ∷ ps) ≡ true
    → are_later (LATER_LIMIT - length (known ++ (start, net) ∷ [])) next ps ≡ true
next_later known start next net hists ps later =
    let said = starts_later (LATER_LIMIT - length known) start (next, hists) ps later in
    let size : length (known ++ (start, net) ∷ []) ≡ length known + 1 =
    length-append known ((start, net) ∷ []) in
    let room : (LATER_LIMIT - length known) - 1
    ≡ LATER_LIMIT - length (known ++ (start, net) ∷ []) = omega (arith, size) in
    subst (λ (n : ℕ). are_later n next ps ≡ true) room said.rest
