use Rattle.std.proofs.Common.{ℕ, ◌≡◌, ◌==◌, ◌*◌, ◌<◌, ◌≤◌, suc, true, List, Some, length, get_or, ap, sym, ◌∙◌, subst, arith, ⊎_elim}
use Rattle.std.proofs.lemmas.Bool.{eqb-true, eq-eqb, cases_eq}
use Rattle.std.proofs.Math.Nat.{mul-le-mul_right}
use Rattle.sota_units.specs.Rounding.{ONE}
use Rattle.sota_hist.specs.Time.{total}
use Rattle.sota_network.specs.Grid.{plain_sum}
use Rattle.sota_network.specs.Network.{arc_at, IsArc}
use Rattle.sota_network.specs.Numbers.{numbers}
use Rattle.sota_network.specs.declared.network.Arc.{Arc}
use Rattle.sota_check.specs.Bracketed.{upper}
use Rattle.sota_check.specs.BracketRejected.{exceeds}
use Rattle.sota_check.proofs.BracketJudged.{numbered-any, none-any, is-more, most-within}
use Rattle.sota_check.proofs.Standing.{upper-whole}
use Rattle.sota_check.proofs.judge_bracket.is_exceeded.Goals as goal

pub side_sum-requires-clause-total : goal.side_sum-requires-clause-total
side_sum-requires-clause-total c = omega (arith, c.numbered-arc.ensures.valid.total, c.needed-most.ensures.limit, c.scale.ensures.value)

-- no arc is worth more than one whole
pub returns-then-get-units : goal.returns-then-get-units
returns-then-get-units c =
    let net = c.args.network.now in
    let table = c.args.table.now in
    let most : ONE * net.scale ≤ c.args.units * net.scale = mul-le-mul_right net.scale (omega (arith, c.get.ensures.value, c.if-get-units.true)) in
    sym (none-any (exceeds (upper table) c.args.node c.args.budget (c.args.units * net.scale)) net.arcs (λ k arc at.
    let fits : IsArc net arc = c.arcs_by_number.ensures net (suc k) arc c.scale.ensures.valid at in
    let few : plain_sum arc (upper table) c.args.budget ≤ total arc.time * ONE = c.sums_and_scores.ensures.sums.whole (upper table arc.head) ONE c.args.budget arc.time fits.time (λ u below. upper-whole table arc.head u) in
    most-within (upper table) c.args.node c.args.budget (c.args.units * net.scale) arc (λ tail. omega (arith, few, fits.total, most))))

pub returns-then-most-side_sum : goal.returns-then-most-side_sum
returns-then-most-side_sum c =
    let net = c.args.network.now in
    let arc : Arc = c.numbered-arc.result.now in
    let e : ℕ = c.number-item.result in
    let i : ℕ = c.loop-number.number-index in
    let leaves : List ℕ = numbers (λ a. a.tail == c.args.node) 1 net.arcs in
    let lt : i < length leaves = rw c.leaving-number-items.ensures.value at c.loop-number-test.true in
    let read : e ≡ get_or leaves i e = rw c.leaving-number-items.ensures.value at c.number-item.is in
    let found = c.numbers_of_arcs.ensures.only net (λ a. a.tail == c.args.node) i e lt in
    let there : arc_at net e ≡ Some found.0 = ap (arc_at net) read ∙ found.1 in
    let same : found.0 ≡ arc = let here : arc_at net e ≡ Some arc = c.numbered-arc.ensures.value in cc in
    let tail : arc.tail ≡ c.args.node = eqb-true _ _ (subst (λ (a : Arc). (a.tail == c.args.node) ≡ true) same found.2) in
    let most : c.needed-most.result ≡ c.args.units * net.scale = c.needed-most.ensures.value ∙ ap (λ (q : ℕ). c.args.units * q) c.scale.ensures.value in
    let more = rw (most, c.side_sum.ensures.value) at c.if-most-side_sum.true in
    sym (numbered-any net (exceeds (upper c.args.table.now) c.args.node c.args.budget (c.args.units * net.scale)) e arc c.numbered-arc.ensures.value (is-more (upper c.args.table.now) c.args.node c.args.budget (c.args.units * net.scale) arc tail more))

pub returns : goal.returns
returns c =
    let net = c.args.network.now in
    let w : ℕ → ℕ → ℕ = upper c.args.table.now in
    let leaves : List ℕ = numbers (λ a. a.tail == c.args.node) 1 net.arcs in
    let most : c.needed-most.result ≡ c.args.units * net.scale = c.needed-most.ensures.value ∙ ap (λ (q : ℕ). c.args.units * q) c.scale.ensures.value in
    let items : c.leaving-number-items.result.now ≡ leaves = c.leaving-number-items.ensures.value in
    sym (none-any (exceeds (upper c.args.table.now) c.args.node c.args.budget (c.args.units * net.scale)) net.arcs (λ k arc at.
    ⊎_elim
    (λ (tail : arc.tail ≡ c.args.node).
    let held = c.numbers_of_arcs.ensures.all net (λ a. a.tail == c.args.node) (suc k) arc at (eq-eqb _ _ tail) in
    let seen : held.0 < c.loop-number.number-index = omega (arith, held.1, c.loop-number-test.false, ap length items) in
    let number : get_or c.leaving-number-items.result.now held.0 (suc k) ≡ suc k = ap (λ (l : List ℕ). get_or l held.0 (suc k)) items ∙ held.2 in
    let fine = c.loop-number.invariant held.0 (suc k) arc seen (ap (arc_at net) number ∙ at) in
    rw most at fine)
    (λ (astray : arc.tail ≡ c.args.node → ⊥). most-within (upper c.args.table.now) c.args.node c.args.budget (c.args.units * net.scale) arc (λ tail. absurd (astray tail)))
    (cases_eq arc.tail c.args.node)))
