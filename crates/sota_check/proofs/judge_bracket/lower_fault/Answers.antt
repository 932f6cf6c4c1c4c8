use Rattle.std.proofs.Common.{ℕ, ◌≡◌, ◌*◌, Option, Some, sym, ◌∙◌, ap, arith}
use Rattle.std.specs.Option.{option_map}
use Rattle.sota_network.specs.Network.{arc_at, IsArc}
use Rattle.sota_check.specs.declared.verdict.Rejection.{Rejection}
use Rattle.sota_check.specs.Bracketed.{lower, lower_entry}
use Rattle.sota_check.specs.BracketRejected.{of_lower}
use Rattle.sota_check.proofs.Judged.{idle-fault, empty-fault, lost-fault, astray-fault, short-fault, held-fault}
use Rattle.sota_check.proofs.judge_bracket.lower_fault.Goals as goal

pub returns-then-entry-eq0-2 : goal.returns-then-entry-eq0-2
returns-then-entry-eq0-2 c = sym (ap (λ (o : Option Rejection). option_map of_lower o) (idle-fault c.args.network.now (lower c.args.table.now) c.args.node c.args.budget (lower_entry c.args.entry) c.if-entry-eq0.true c.if-entry-eq0-2.true))

pub returns-else-entry-eq0-2 : goal.returns-else-entry-eq0-2
returns-else-entry-eq0-2 c = sym (ap (λ (o : Option Rejection). option_map of_lower o) (empty-fault c.args.network.now (lower c.args.table.now) c.args.node c.args.budget (lower_entry c.args.entry) c.if-entry-eq0.true c.if-entry-eq0-2.false))

pub returns-in_default : goal.returns-in_default
returns-in_default c = sym (ap (λ (o : Option Rejection). option_map of_lower o) (lost-fault c.args.network.now (lower c.args.table.now) c.args.node c.args.budget (lower_entry c.args.entry) c.if-entry-eq0.false (sym c.in_default.ensures.value)))

pub returns-then-get-node : goal.returns-then-get-node
returns-then-get-node c =
    sym (ap (λ (o : Option Rejection). option_map of_lower o) (astray-fault c.args.network.now (lower c.args.table.now) c.args.node c.args.budget (lower_entry c.args.entry) c.if-entry-eq0.false c.in-Some.arc.now (sym c.in-Some.ensures.value) (λ same. c.if-get-node.true (c.get.ensures ∙ same))))

pub side_sum-requires-clause-total : goal.side_sum-requires-clause-total
side_sum-requires-clause-total c =
    let valid : IsArc c.args.network.now c.in-Some.arc.now = c.in-Some.ensures.found in
    omega (arith, valid.total, c.needed-needed.ensures.limit, c.scale.ensures.value)

pub returns-then-side_sum-needed : goal.returns-then-side_sum-needed
returns-then-side_sum-needed c =
    let is : arc_at c.args.network.now c.args.entry.arc ≡ Some c.in-Some.arc.now = sym c.in-Some.ensures.value in
    let product : c.needed-needed.result ≡ c.args.entry.lower * c.args.network.now.scale = c.needed-needed.ensures.value ∙ ap (λ (q : ℕ). c.args.entry.lower * q) c.scale.ensures.value in
    let tail : c.in-Some.arc.now.tail ≡ c.args.node = sym c.get.ensures ∙ c.if-get-node.false in
    sym (ap (λ (o : Option Rejection). option_map of_lower o) (short-fault c.args.network.now (lower c.args.table.now) c.args.node c.args.budget (lower_entry c.args.entry) c.if-entry-eq0.false c.in-Some.arc.now is tail (rw (← product, ← c.side_sum.ensures.value) c.if-side_sum-needed.true)))

pub returns : goal.returns
returns c =
    let is : arc_at c.args.network.now c.args.entry.arc ≡ Some c.in-Some.arc.now = sym c.in-Some.ensures.value in
    let product : c.needed-needed.result ≡ c.args.entry.lower * c.args.network.now.scale = c.needed-needed.ensures.value ∙ ap (λ (q : ℕ). c.args.entry.lower * q) c.scale.ensures.value in
    let tail : c.in-Some.arc.now.tail ≡ c.args.node = sym c.get.ensures ∙ c.if-get-node.false in
    sym (ap (λ (o : Option Rejection). option_map of_lower o) (held-fault c.args.network.now (lower c.args.table.now) c.args.node c.args.budget (lower_entry c.args.entry) c.if-entry-eq0.false c.in-Some.arc.now is tail (rw (← product, ← c.side_sum.ensures.value) c.if-side_sum-needed.false)))
