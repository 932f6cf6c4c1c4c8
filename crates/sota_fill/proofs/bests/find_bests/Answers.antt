-- After k arcs the bests are those of the first k numbers, as far as they are not below the floor.
use Rattle.std.proofs.Common.{ℕ, ◌≡◌, ◌+◌, ◌*◌, ◌<◌, ◌≤◌, slice_index, slice_index_or, List, None, Some, length, take, get_or, sym, ap, ◌∙◌, arith}
use Rattle.sota_network.specs.Network.{Net, arc_at}
use Rattle.sota_network.specs.Grid.{best_of, plain_sum}
use Rattle.sota_network.specs.declared.network.Arc.{Arc}
use Rattle.sota_kept.specs.NodeTables.{lower_in, upper_in}
use Rattle.sota_tables.specs.Views.{TablesView, table_at}
use Rattle.sota_fill.specs.declared.target.Target.{Target}
use Rattle.sota_network.specs.Among.{AmongLaws, best_among, leaving_numbers, numbered_worth}
use Rattle.sota_fill.proofs.Below.{beaten-lower, beaten-upper}
use Rattle.sota_fill.proofs.Near.{Near, near-step, near-pass, near-raise, near-end, choice-near-step, choice-near-pass, choice-near-end}
use Rattle.sota_fill.proofs.bests.find_bests.Given as given
use Rattle.sota_fill.proofs.bests.find_bests.Goals as goal
use Rattle.sota_fill.proofs.bests.find_bests.Goals.{After-loop-number}

-- what an arc is worth at the budget x places on
abbrev lower_worth : Target → TablesView → ℕ → ℕ → Arc → ℕ
lower_worth target tables from x a = plain_sum a (lower_in target.dest (table_at tables)) (from + x)

abbrev upper_worth : Target → TablesView → ℕ → ℕ → Arc → ℕ
upper_worth target tables from x a = plain_sum a (upper_in target.dest (table_at tables)) (from + x)

-- the tail of the arc that a walk over the numbers reads
out-tail : AmongLaws → (net : Net) (node : ℕ) (es : List ℕ) (k e : ℕ) (arc : Arc) → es ≡ leaving_numbers net node → k < length es → e ≡ get_or es k e → arc_at net e ≡ Some arc → arc.tail ≡ node
out-tail among net node es k e arc same h is number =
    let out = among.leaving net node k e es same h is in
    let both : Some out.0 ≡ Some arc = sym out.1 ∙ number in
    let found : out.0 ≡ arc = cc in
    ap (λ (x : Arc). x.tail) (sym found) ∙ out.2

pub add_arc-requires-clause-sum : goal.add_arc-requires-clause-sum
add_arc-requires-clause-sum g c =
    let net : Net = c.args.sources.now.target.now.network.now in
    let e : ℕ = c.number-item.result in
    let among : AmongLaws = (c.filling_laws.ensures net c.leaving-number-items.ensures.valid).among in
    let within = c.leaving-number-items.ensures.within c.loop-number.number-index e c.loop-number-test.true in
    let tail : (arc : Arc) → arc_at net e ≡ Some arc → arc.tail ≡ c.args.node = λ arc at.
    out-tail among net c.args.node c.leaving-number-items.result.now c.loop-number.number-index e arc c.leaving-number-items.ensures.value c.loop-number-test.true c.number-item.is at in
    record {
      fit = c.requires.fit;
      is_number = (omega (arith, within.0, c.number-item.is), omega (arith, within.1, c.number-item.is));
      limit = c.requires.limit;
      fed = λ arc two at is. c.requires.fed e arc two at (tail arc at) is;
      reads = λ arc at. c.requires.reads e arc at (tail arc at);
    }

pub loop-number-preserved-then-is_beaten : goal.loop-number-preserved-then-is_beaten
loop-number-preserved-then-is_beaten g c =
    let net : Net = c.args.sources.now.target.now.network.now in
    let among : AmongLaws = (c.filling_laws.ensures net c.leaving-number-items.ensures.valid).among in
    let dest : ℕ = c.args.sources.now.target.now.dest in
    let es : List ℕ = c.leaving-number-items.result.now in
    let k : ℕ = c.loop-number.number-index in
    let e : ℕ = c.number-item.result in
    let floor : ℕ = net.scale * c.args.floor in
    let L = lower_worth c.args.sources.now.target.now c.args.sources.now.tables.now c.args.from in
    let U = upper_worth c.args.sources.now.target.now c.args.sources.now.tables.now c.args.from in
    let arc : Arc = c.numbered-arc.result.now in
    let laws = c.filling_laws.ensures net c.leaving-number-items.ensures.valid in
    let tail : arc.tail ≡ c.args.node =
    out-tail among net c.args.node es k e arc c.leaving-number-items.ensures.value c.loop-number-test.true c.number-item.is c.numbered-arc.ensures.value in
    let reads = c.requires.reads e arc c.numbered-arc.ensures.value tail in
    let beaten = c.is_beaten.ensures c.if-is_beaten.true in
    let lower : (x : ℕ) → x < c.args.count → L x arc < floor = λ x h. beaten-lower net laws dest (table_at c.args.sources.now.tables.now) arc (c.args.from + c.args.count) c.args.floor (c.args.from + x) c.numbered-arc.ensures.valid reads beaten (omega arith) in
    let upper : (x : ℕ) → x < c.args.count → U x arc < floor = λ x h. beaten-upper net laws dest (table_at c.args.sources.now.tables.now) arc (c.args.from + c.args.count) c.args.floor (c.args.from + x) c.numbered-arc.ensures.valid reads beaten (omega arith) in
    record {
      lower = λ x h.
          near-pass among floor (numbered_worth net (L x)) es k e (slice_index c.loop-number.part.lower x) (L x arc) c.loop-number-test.true c.number-item.is (among.number net (L x) e arc c.numbered-arc.ensures.value) (lower x h)
          (c.loop-number.invariant.lower x h);
      upper = λ x h.
          near-pass among floor (numbered_worth net (U x)) es k e (slice_index c.loop-number.part.upper x) (U x arc) c.loop-number-test.true c.number-item.is (among.number net (U x) e arc c.numbered-arc.ensures.value) (upper x h)
          (c.loop-number.invariant.upper x h);
      choices = λ x h.
          choice-near-pass among floor (numbered_worth net (L x)) es k e (L x arc) (slice_index_or c.loop-number.part.choices x None) c.loop-number-test.true c.number-item.is (among.number net (L x) e arc c.numbered-arc.ensures.value) (lower x h)
          (c.loop-number.invariant.choices x h);
    }

pub loop-number-preserved : goal.loop-number-preserved
loop-number-preserved g c =
    let net : Net = c.args.sources.now.target.now.network.now in
    let among : AmongLaws = (c.filling_laws.ensures net c.leaving-number-items.ensures.valid).among in
    let es : List ℕ = c.leaving-number-items.result.now in
    let k : ℕ = c.loop-number.number-index in
    let e : ℕ = c.number-item.result in
    let floor : ℕ = net.scale * c.args.floor in
    let L = lower_worth c.args.sources.now.target.now c.args.sources.now.tables.now c.args.from in
    let U = upper_worth c.args.sources.now.target.now c.args.sources.now.tables.now c.args.from in
    let arc : Arc = c.numbered-arc.result.now in
    let at = c.numbered-arc.ensures.value in
    record {
      lower = λ x h.
          near-step among floor (numbered_worth net (L x)) es k e (slice_index c.loop-number.part.lower x) (L x arc) (slice_index c.add_arc.new.part.lower x) c.loop-number-test.true c.number-item.is (among.number net (L x) e arc at)
          (c.add_arc.ensures.lower arc at x h) (c.loop-number.invariant.lower x h);
      upper = λ x h.
          near-raise among floor (numbered_worth net (U x)) es k e (slice_index c.loop-number.part.upper x) (U x arc) (slice_index c.add_arc.new.part.upper x) c.loop-number-test.true c.number-item.is (among.number net (U x) e arc at)
          (c.add_arc.ensures.upper arc at x h) (c.loop-number.invariant.upper x h);
      choices = λ x h.
          choice-near-step among floor (numbered_worth net (L x)) es k e (slice_index c.loop-number.part.lower x) (L x arc) (slice_index_or c.loop-number.part.choices x None) (slice_index_or c.add_arc.new.part.choices x None) c.loop-number-test.true
          c.number-item.is (among.number net (L x) e arc at) (c.loop-number.invariant.lower x h) (c.loop-number.invariant.choices x h) (c.add_arc.ensures.choices arc at x h);
    }

-- after all arcs what is found is the greatest sum
ended : (g : given.Over) (c : After-loop-number g) (worth : Arc → ℕ) (best : ℕ)
    → Near (c.args.sources.now.target.now.network.now.scale * c.args.floor) best (best_among (numbered_worth c.args.sources.now.target.now.network.now worth) (take c.loop-number.number-index c.leaving-number-items.result.now))
    → c.args.sources.now.target.now.network.now.scale * c.args.floor ≤ best_of c.args.sources.now.target.now.network.now.arcs worth c.args.node → best ≡ best_of c.args.sources.now.target.now.network.now.arcs worth c.args.node
ended g c worth best near most =
    let net : Net = c.args.sources.now.target.now.network.now in
    let among : AmongLaws = (c.filling_laws.ensures net c.leaving-number-items.ensures.valid).among in
    let all = among.best_end net worth c.args.node c.leaving-number-items.result.now c.loop-number.number-index c.leaving-number-items.ensures.value c.loop-number-test.false in
    near-end (net.scale * c.args.floor) best _ near (omega (arith, all, most)) ∙ all

pub returns-clause-lower : goal.returns-clause-lower
returns-clause-lower g c = λ x h.
    ended g (goal.at.returns-clause-lower g c).After-loop-number (lower_worth c.args.sources.now.target.now c.args.sources.now.tables.now c.args.from x) (slice_index c.loop-number.part.lower x) (c.loop-number.invariant.lower x h) (c.requires.lower_floor x h)

pub returns-clause-upper : goal.returns-clause-upper
returns-clause-upper g c = λ x h.
    ended g (goal.at.returns-clause-upper g c).After-loop-number (upper_worth c.args.sources.now.target.now c.args.sources.now.tables.now c.args.from x) (slice_index c.loop-number.part.upper x) (c.loop-number.invariant.upper x h) (c.requires.upper_floor x h)

pub returns-clause-choices : goal.returns-clause-choices
returns-clause-choices g c = λ x h.
    let net : Net = c.args.sources.now.target.now.network.now in
    let among : AmongLaws = (c.filling_laws.ensures net c.leaving-number-items.ensures.valid).among in
    let L = lower_worth c.args.sources.now.target.now c.args.sources.now.tables.now c.args.from x in
    let all = among.best_end net L c.args.node c.leaving-number-items.result.now c.loop-number.number-index c.leaving-number-items.ensures.value c.loop-number-test.false in
    choice-near-end (net.scale * c.args.floor) _ (slice_index_or c.loop-number.part.choices x None) _ (c.loop-number.invariant.choices x h) (omega (arith, all, c.requires.lower_floor x h))
    ∙ among.choice_end net L c.args.node c.leaving-number-items.result.now c.loop-number.number-index c.leaving-number-items.ensures.value c.loop-number-test.false
