use Rattle.std.proofs.Common.{◌≡◌, refl, sym, ◌∙◌, ap}
use Rattle.sota_polfile.specs.declared.head.PolicyHead.{PolicyHead}
use Rattle.sota_check.proofs.Judged.{certified-if, only-if, rejected-size, rejected-scale, rejected-row}
use Rattle.sota_check.proofs.judge.check.Goals as goal

pub returns-then-head-nodes-clause-first : goal.returns-then-head-nodes-clause-first
returns-then-head-nodes-clause-first c =
    rejected-size c.args.network.now c.args.table.now (λ same. c.if-head-nodes.true (ap (λ (h : PolicyHead). h.nodes) c.head-head.ensures.value ∙ same ∙ sym c.nodes.ensures.value))

pub returns-then-head-get-clause-first : goal.returns-then-head-get-clause-first
returns-then-head-get-clause-first c =
    let nodes : c.args.table.now.head.nodes ≡ c.args.network.now.nodes = ap (λ (h : PolicyHead). h.nodes) (sym c.head-head.ensures.value) ∙ c.if-head-nodes.false ∙ c.nodes.ensures.value in
    rejected-scale c.args.network.now c.args.table.now nodes (λ same. c.if-head-get.true (ap (λ (h : PolicyHead). h.scale) c.head-head.ensures.value ∙ same ∙ sym (c.get.ensures.value ∙ c.scale.ensures.value)))

pub certified-requires-clause-certified : goal.certified-requires-clause-certified
certified-requires-clause-certified c =
    let nodes : c.args.table.now.head.nodes ≡ c.args.network.now.nodes = ap (λ (h : PolicyHead). h.nodes) (sym c.head-head.ensures.value) ∙ c.if-head-nodes.false ∙ c.nodes.ensures.value in
    let scale : c.args.table.now.head.scale ≡ c.args.network.now.scale = ap (λ (h : PolicyHead). h.scale) (sym c.head-head.ensures.value) ∙ c.if-head-get.false ∙ c.get.ensures.value ∙ c.scale.ensures.value in
    certified-if c.args.network.now c.args.table.now (c.entries_stand_in_rows.ensures.only c.args.table.now) nodes scale (sym c.in-None.ensures)

pub returns-in-Some-clause-certified : goal.returns-in-Some-clause-certified
returns-in-Some-clause-certified c =
    (λ no. absurd (cc), λ holds. absurd (let none = only-if c.args.network.now c.args.table.now (λ k j row entry at here. c.entries_stand_in_rows.ensures.there c.args.table.now k j row entry c.head-head.ensures.valid at here) holds in let some = c.in-Some.ensures in cc))

pub returns-in-Some-clause-first : goal.returns-in-Some-clause-first
returns-in-Some-clause-first c =
    let nodes : c.args.table.now.head.nodes ≡ c.args.network.now.nodes = ap (λ (h : PolicyHead). h.nodes) (sym c.head-head.ensures.value) ∙ c.if-head-nodes.false ∙ c.nodes.ensures.value in
    let scale : c.args.table.now.head.scale ≡ c.args.network.now.scale = ap (λ (h : PolicyHead). h.scale) (sym c.head-head.ensures.value) ∙ c.if-head-get.false ∙ c.get.ensures.value ∙ c.scale.ensures.value in
    rejected-row c.args.network.now c.args.table.now nodes scale ∙ sym c.in-Some.ensures

pub returns-in-None-clause-certified : goal.returns-in-None-clause-certified
returns-in-None-clause-certified c =
    let nodes : c.args.table.now.head.nodes ≡ c.args.network.now.nodes = ap (λ (h : PolicyHead). h.nodes) (sym c.head-head.ensures.value) ∙ c.if-head-nodes.false ∙ c.nodes.ensures.value in
    let scale : c.args.table.now.head.scale ≡ c.args.network.now.scale = ap (λ (h : PolicyHead). h.scale) (sym c.head-head.ensures.value) ∙ c.if-head-get.false ∙ c.get.ensures.value ∙ c.scale.ensures.value in
    (λ yes. certified-if c.args.network.now c.args.table.now (c.entries_stand_in_rows.ensures.only c.args.table.now) nodes scale (sym c.in-None.ensures), λ holds. refl)

pub returns-in-None-clause-passed : goal.returns-in-None-clause-passed
returns-in-None-clause-passed c =
    let nodes : c.args.table.now.head.nodes ≡ c.args.network.now.nodes = ap (λ (h : PolicyHead). h.nodes) (sym c.head-head.ensures.value) ∙ c.if-head-nodes.false ∙ c.nodes.ensures.value in
    let scale : c.args.table.now.head.scale ≡ c.args.network.now.scale = ap (λ (h : PolicyHead). h.scale) (sym c.head-head.ensures.value) ∙ c.if-head-get.false ∙ c.get.ensures.value ∙ c.scale.ensures.value in
    rejected-row c.args.network.now c.args.table.now nodes scale ∙ sym c.in-None.ensures
