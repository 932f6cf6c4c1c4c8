use Rattle.std.proofs.Common.{suc, ◌≡◌, ◌≤◌, ◌-◌, length, slice_get, Some, arith, sym, ap, ◌∙◌, refl}
use Rattle.std.specs.Option.{option_map}
use Rattle.std.proofs.lemmas.Option.{slice_get_read}
use Rattle.sota_hist.specs.Time.{total}
use Rattle.sota_network.specs.Network.{Net, arc_at, replaced}
use Rattle.sota_network.specs.declared.network.Arc.{Arc}
use Rattle.sota_network.proofs.Replaced.{set-indexed, replaced-at, arc-at}
use Rattle.sota_network.proofs.network.Network.replace.Goals as goal

found : (c : goal.After-self-1) → slice_get c.self.inside.arcs.items (c.get-number.result - 1) ≡ Some c.index_mut.result.now
found c =
    slice_get_read c.self.inside.arcs.items (length c.self.inside.arcs.items) (c.get-number.result - 1) c.index_mut.result.now refl (omega arith) c.index_mut.ensures.value

pub invariant_of-self : goal.invariant_of-self
invariant_of-self c =
    let net : Net = record { nodes = c.self.inside.nodes; scale = c.self.inside.scale; arcs = c.self.inside.arcs.items } in
    let sum : total c.replace.new.self ≤ c.self.inside.scale = rw (c.replace.ensures.new, ap (λ (n : Net). n.scale) c.self.view_is) c.requires.total in
    set-indexed net c.self.inside.leaving c.self.inside.entering (c.get-number.result - 1) c.index_mut.result.now c.replace.new.self c.self.invariant (found c) c.replace.ensures.valid sum

number : (c : goal.After-self-1) → c.args.arc ≡ suc (c.get-number.result - 1)
number c = omega arith

pub returns-clause-old : goal.returns-clause-old
returns-clause-old c =
    let net : Net = record { nodes = c.self.inside.nodes; scale = c.self.inside.scale; arcs = c.self.inside.arcs.items } in
    ap (option_map (λ (arc : Arc). arc.time))
    (ap (λ (n : Net). arc_at n c.args.arc) (sym c.self.view_is) ∙ arc-at net c.args.arc (c.get-number.result - 1) c.index_mut.result.now (number c) (found c))
    ∙ ap Some (sym c.replace.ensures.old)

pub returns-clause-replaced : goal.returns-clause-replaced
returns-clause-replaced c =
    let net : Net = record { nodes = c.self.inside.nodes; scale = c.self.inside.scale; arcs = c.self.inside.arcs.items } in
    rw (c.replace.ensures.new)
    (sym (ap (λ (n : Net). replaced n c.args.arc c.args.time) (sym c.self.view_is)
    ∙ replaced-at net c.args.arc (c.get-number.result - 1) c.index_mut.result.now c.args.time (number c) (found c)))
