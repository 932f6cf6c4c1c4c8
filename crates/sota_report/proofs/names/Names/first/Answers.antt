use Rattle.std.proofs.Common.{◌∙◌, ap, sym, Some, None, get_or, arith}
use Rattle.sota_report.proofs.Entries.{name_in}
use Rattle.sota_report.proofs.Firsts.{name_found}
use Rattle.sota_report.proofs.names.Names.first.Goals as goal

pub returns-in_err-get : goal.returns-in_err-get
returns-in_err-get c =
    let past = c.in_err-get.ensures.lookup.4 (omega arith) None ∙ ap (λ firsts. get_or firsts c.args.node None) c.deref.ensures.value in
    rw c.from_residual.ensures (name_found c.args.self.now c.self.inside.firsts.items c.args.node None c.self.invariant.firsts_shown c.self.view_is past)

pub returns-in_err-index : goal.returns-in_err-index
returns-in_err-index c =
    let none = sym c.in_err-index.was ∙ c.in_ok-get.ensures.lookup.4 (omega arith) None ∙ ap (λ firsts. get_or firsts c.args.node None) c.deref.ensures.value in
    rw c.from_residual-in_err-index.ensures (name_found c.args.self.now c.self.inside.firsts.items c.args.node None c.self.invariant.firsts_shown c.self.view_is none)

pub returns-in_err-name : goal.returns-in_err-name
returns-in_err-name c =
    let there = sym c.in_ok-index.was ∙ c.in_ok-get.ensures.lookup.4 (omega arith) None ∙ ap (λ firsts. get_or firsts c.args.node None) c.deref.ensures.value in
    rw c.from_residual-in_err-name.ensures (name_in c.self.inside.nodes.entries c.in_ok-index.index None c.in_err-name.ensures.entry
    ∙ name_found c.args.self.now c.self.inside.firsts.items c.args.node (Some c.in_ok-index.index) c.self.invariant.firsts_shown c.self.view_is there)

pub returns : goal.returns
returns c =
    let there = sym c.in_ok-index.was ∙ c.in_ok-get.ensures.lookup.4 (omega arith) None ∙ ap (λ firsts. get_or firsts c.args.node None) c.deref.ensures.value in
    ap Some c.as_str.ensures.value
    ∙ name_in c.self.inside.nodes.entries c.in_ok-index.index (Some (c.in_ok-name.name.now, c.in_ok-name.field-0-1.now)) c.in_ok-name.ensures.entry
    ∙ name_found c.args.self.now c.self.inside.firsts.items c.args.node (Some c.in_ok-index.index) c.self.invariant.firsts_shown c.self.view_is there
