use Rattle.std.proofs.Common.{◌≡◌, Some, sym, ◌∙◌, ap, subst}
use Rattle.sota_network.specs.Network.{Net, IsNet, arc_at}
use Rattle.sota_network.specs.declared.network.Arc.{Arc}
use Rattle.sota_kept.specs.Ticks.{END_LIMIT, up_to}
use Rattle.sota_session.specs.Cuts.{IsCutFor}
use Rattle.sota_session.specs.State.{SessionState}
use Rattle.sota_session.proofs.session.Session.cuts.Goals as goal

pub returns-in_ok-budgets-in-Some-Some-clause-cuts : goal.returns-in_ok-budgets-in-Some-Some-clause-cuts
returns-in_ok-budgets-in-Some-Some-clause-cuts c =
    let net : Net = c.self.inside.roads in
    let edited : Arc = c.in-Some.edited.now in
    let budgets = c.in_ok-budgets-in-Some-Some.budgets.items in
    let found : arc_at net c.args.arc ≡ Some edited = subst (λ (n : Net). arc_at n c.args.arc ≡ Some edited) c.network-network.ensures (sym c.in-Some.ensures.value) in
    let valid : IsNet net = subst IsNet c.network-network.ensures c.arc.ensures.valid in
    subst (λ (s : SessionState). IsCutFor s.network s.tables.dest c.args.arc c.args.time.now (Some budgets)) c.self.view_is
    (record {
      edited = edited;
      found = found;
      cuts_are = record {
        dest = c.in-Some-Some.dest;
        first = c.in-Some-Some.first;
        towards = sym c.in-Some-Some.ensures.value;
        differs = sym c.in-Some-Some.ensures'.value;
        same = c.in-Some-Some.ensures'.before;
        count = c.in_ok-budgets-in-Some-Some.ensures.nodes;
        value = λ i node.
            let affected = c.in_ok-budgets-in-Some-Some.ensures.value i edited node found in
            ap (up_to END_LIMIT) affected.sum
            ∙ sym (c.edits_affect.ensures.up_to_limit net c.in-Some-Some.dest c.in-Some-Some.first i edited affected.to affected.onward valid affected.least_to_tail affected.least_onward);
      };
    })
