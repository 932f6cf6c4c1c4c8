use Rattle.std.proofs.Common.{◌≡◌, true, false, Some, refl, sym, ◌∙◌, ap}
use Rattle.sota_network.specs.Network.{Net}
use Rattle.sota_polfile.specs.Bracket.{Bracket}
use Rattle.sota_polfile.specs.declared.head.PolicyHead.{PolicyHead}
use Rattle.sota_check.specs.declared.bracket_verdict.BracketRejection.{BracketRejection}
use Rattle.sota_check.specs.Bracketed.{IsBracketed}
use Rattle.sota_check.specs.BracketRejected.{bracket_rejection}
use Rattle.sota_check.proofs.BracketJudged.{bracketed-if, passed-holds, holds-passed, rejected-size, rejected-scale, rejected-steep, rejected-row}
use Rattle.sota_check.proofs.judge_bracket.check_bracket.Goals as goal

-- a cause says that the table does not hold
refused : (net : Net) (table : Bracket) (cause : BracketRejection) → bracket_rejection net table ≡ Some cause → IsBracketed net table → false ≡ true
refused net table cause found holds = absurd (let none = holds-passed net table holds in cc)

pub returns-then-head-nodes-clause-bracketed : goal.returns-then-head-nodes-clause-bracketed
returns-then-head-nodes-clause-bracketed c =
    (λ no. absurd (cc), λ holds. absurd (c.if-head-nodes.true (ap (λ (h : PolicyHead). h.nodes) c.head-head.ensures.value ∙ holds.certified.nodes ∙ sym c.nodes.ensures.value)))

pub returns-then-head-nodes-clause-first : goal.returns-then-head-nodes-clause-first
returns-then-head-nodes-clause-first c =
    rejected-size c.args.network.now c.args.table.now (λ same. c.if-head-nodes.true (ap (λ (h : PolicyHead). h.nodes) c.head-head.ensures.value ∙ same ∙ sym c.nodes.ensures.value))

pub returns-then-head-get-clause-bracketed : goal.returns-then-head-get-clause-bracketed
returns-then-head-get-clause-bracketed c =
    (λ no. absurd (cc), λ holds. absurd (c.if-head-get.true (ap (λ (h : PolicyHead). h.scale) c.head-head.ensures.value ∙ holds.certified.scale ∙ sym (c.get.ensures.value ∙ c.scale.ensures.value))))

pub returns-then-head-get-clause-first : goal.returns-then-head-get-clause-first
returns-then-head-get-clause-first c =
    let nodes : c.args.table.now.head.nodes ≡ c.args.network.now.nodes = ap (λ (h : PolicyHead). h.nodes) (sym c.head-head.ensures.value) ∙ c.if-head-nodes.false ∙ c.nodes.ensures.value in
    rejected-scale c.args.network.now c.args.table.now nodes (λ same. c.if-head-get.true (ap (λ (h : PolicyHead). h.scale) c.head-head.ensures.value ∙ same ∙ sym (c.get.ensures.value ∙ c.scale.ensures.value)))

pub returns-in-Some-clause-first : goal.returns-in-Some-clause-first
returns-in-Some-clause-first c =
    let nodes : c.args.table.now.head.nodes ≡ c.args.network.now.nodes = ap (λ (h : PolicyHead). h.nodes) (sym c.head-head.ensures.value) ∙ c.if-head-nodes.false ∙ c.nodes.ensures.value in
    let scale : c.args.table.now.head.scale ≡ c.args.network.now.scale = ap (λ (h : PolicyHead). h.scale) (sym c.head-head.ensures.value) ∙ c.if-head-get.false ∙ c.get.ensures.value ∙ c.scale.ensures.value in
    rejected-steep c.args.network.now c.args.table.now nodes scale c.in-Some.node (sym c.in-Some.ensures)

pub returns-in-Some-clause-bracketed : goal.returns-in-Some-clause-bracketed
returns-in-Some-clause-bracketed c =
    (λ no. absurd (cc), λ holds. refused c.args.network.now c.args.table.now _ (returns-in-Some-clause-first c) holds)

pub bracketed-requires-clause-bracketed : goal.bracketed-requires-clause-bracketed
bracketed-requires-clause-bracketed c =
    let nodes : c.args.table.now.head.nodes ≡ c.args.network.now.nodes = ap (λ (h : PolicyHead). h.nodes) (sym c.head-head.ensures.value) ∙ c.if-head-nodes.false ∙ c.nodes.ensures.value in
    let scale : c.args.table.now.head.scale ≡ c.args.network.now.scale = ap (λ (h : PolicyHead). h.scale) (sym c.head-head.ensures.value) ∙ c.if-head-get.false ∙ c.get.ensures.value ∙ c.scale.ensures.value in
    bracketed-if c.args.network.now c.args.table.now nodes scale (sym c.in_default.ensures) (sym c.in-None.ensures)

pub returns-in-Some-first_fault-clause-first : goal.returns-in-Some-first_fault-clause-first
returns-in-Some-first_fault-clause-first c =
    let nodes : c.args.table.now.head.nodes ≡ c.args.network.now.nodes = ap (λ (h : PolicyHead). h.nodes) (sym c.head-head.ensures.value) ∙ c.if-head-nodes.false ∙ c.nodes.ensures.value in
    let scale : c.args.table.now.head.scale ≡ c.args.network.now.scale = ap (λ (h : PolicyHead). h.scale) (sym c.head-head.ensures.value) ∙ c.if-head-get.false ∙ c.get.ensures.value ∙ c.scale.ensures.value in
    rejected-row c.args.network.now c.args.table.now nodes scale (sym c.in_default.ensures) ∙ sym c.in-Some-first_fault.ensures

pub returns-in-Some-first_fault-clause-bracketed : goal.returns-in-Some-first_fault-clause-bracketed
returns-in-Some-first_fault-clause-bracketed c =
    (λ no. absurd (cc), λ holds. refused c.args.network.now c.args.table.now _ (returns-in-Some-first_fault-clause-first c) holds)

pub returns-in-None-clause-passed : goal.returns-in-None-clause-passed
returns-in-None-clause-passed c =
    let nodes : c.args.table.now.head.nodes ≡ c.args.network.now.nodes = ap (λ (h : PolicyHead). h.nodes) (sym c.head-head.ensures.value) ∙ c.if-head-nodes.false ∙ c.nodes.ensures.value in
    let scale : c.args.table.now.head.scale ≡ c.args.network.now.scale = ap (λ (h : PolicyHead). h.scale) (sym c.head-head.ensures.value) ∙ c.if-head-get.false ∙ c.get.ensures.value ∙ c.scale.ensures.value in
    rejected-row c.args.network.now c.args.table.now nodes scale (sym c.in_default.ensures) ∙ sym c.in-None.ensures

pub returns-in-None-clause-bracketed : goal.returns-in-None-clause-bracketed
returns-in-None-clause-bracketed c =
    (λ yes-is. passed-holds c.args.network.now c.args.table.now (returns-in-None-clause-passed c), λ holds. refl)
