use Rattle.std.proofs.Common.{ℕ, ◌≡◌, ◌*◌, Some, sym, ◌∙◌, ap, arith}
use Rattle.sota_network.specs.Network.{arc_at, IsArc}
use Rattle.sota_check.specs.Certified.{value}
use Rattle.sota_check.proofs.Judged.{idle-fault, empty-fault, lost-fault, astray-fault, short-fault, held-fault}
use Rattle.sota_check.proofs.judge.entry_fault.Goals as goal

pub returns-then-entry-eq0-2 : goal.returns-then-entry-eq0-2
returns-then-entry-eq0-2 c = sym (idle-fault c.args.network.now (value c.args.table.now) c.args.node c.args.budget c.args.entry c.if-entry-eq0.true c.if-entry-eq0-2.true)

pub returns-else-entry-eq0-2 : goal.returns-else-entry-eq0-2
returns-else-entry-eq0-2 c = sym (empty-fault c.args.network.now (value c.args.table.now) c.args.node c.args.budget c.args.entry c.if-entry-eq0.true c.if-entry-eq0-2.false)

pub returns-in_default : goal.returns-in_default
returns-in_default c = sym (lost-fault c.args.network.now (value c.args.table.now) c.args.node c.args.budget c.args.entry c.if-entry-eq0.false (sym c.in_default.ensures.value))

pub returns-then-get-node : goal.returns-then-get-node
returns-then-get-node c =
    sym (astray-fault c.args.network.now (value c.args.table.now) c.args.node c.args.budget c.args.entry c.if-entry-eq0.false c.in-Some.arc.now (sym c.in-Some.ensures.value) (λ same. c.if-get-node.true (c.get.ensures ∙ same)))

pub arc_sum-requires : goal.arc_sum-requires
arc_sum-requires c =
    let valid : IsArc c.args.network.now c.in-Some.arc.now = c.in-Some.ensures.found in
    omega (arith, valid.total, c.needed-needed.ensures.limit, c.scale.ensures.value)

pub returns-then-arc_sum-needed : goal.returns-then-arc_sum-needed
returns-then-arc_sum-needed c =
    let is : arc_at c.args.network.now c.args.entry.arc ≡ Some c.in-Some.arc.now = sym c.in-Some.ensures.value in
    let product : c.needed-needed.result ≡ c.args.entry.value * c.args.network.now.scale = c.needed-needed.ensures.value ∙ ap (λ (q : ℕ). c.args.entry.value * q) c.scale.ensures.value in
    let tail : c.in-Some.arc.now.tail ≡ c.args.node = sym c.get.ensures ∙ c.if-get-node.false in
    sym (short-fault c.args.network.now (value c.args.table.now) c.args.node c.args.budget c.args.entry c.if-entry-eq0.false c.in-Some.arc.now is tail (rw (← product, ← c.arc_sum.ensures.value) c.if-arc_sum-needed.true))

pub returns : goal.returns
returns c =
    let is : arc_at c.args.network.now c.args.entry.arc ≡ Some c.in-Some.arc.now = sym c.in-Some.ensures.value in
    let product : c.needed-needed.result ≡ c.args.entry.value * c.args.network.now.scale = c.needed-needed.ensures.value ∙ ap (λ (q : ℕ). c.args.entry.value * q) c.scale.ensures.value in
    let tail : c.in-Some.arc.now.tail ≡ c.args.node = sym c.get.ensures ∙ c.if-get-node.false in
    sym (held-fault c.args.network.now (value c.args.table.now) c.args.node c.args.budget c.args.entry c.if-entry-eq0.false c.in-Some.arc.now is tail (rw (← product, ← c.arc_sum.ensures.value) c.if-arc_sum-needed.false))
