use Rattle.std.proofs.Common.{rules, ◌≡◌, ◌-◌, ◌∷◌, ◌++◌, [], true, length, map, string_bytes, ℕ}
use Rattle.std.proofs.Common.{List, sym, subst}
use Rattle.sota_network.specs.Network.{Net}
use Rattle.sota_app.specs.Later.{LATER_LIMIT, later_of, are_later}
use Rattle.sota_app.specs.Inputs.{CanFollow}
use Rattle.sota_app.proofs.PeriodRoads.{next_follows, next_later}
use Rattle.sota_app.proofs.ReadPeriods.{period_more}
use Rattle.sota_app.proofs.periods.+load_periods.Goals as goal

pub load_periods-requires : goal.load_periods-requires
load_periods-requires g t c κs within =
    let graph = c.args.graph.now in
    let known = c.args.known.items in
    let start = c.args.start in
    let net = c.in_ok-network.network in
    let next = c.in-Some.start in
    let hists = c.in-Some.hists.now in
    let rest = later_of (map (λ word. string_bytes word) c.in-Some.rest.now) in
    let pushed : c.push.new.self.items ≡ known ++ (start, net) ∷ [] = search rules in
    let given : are_later (LATER_LIMIT - length known) start
    (later_of (map (λ word. string_bytes word) c.args.later.now)) ≡ true = search rules in
    let can : CanFollow graph known start = search rules in
    let said : are_later (LATER_LIMIT - length known) start ((next, hists) ∷ rest) ≡ true =
    subst (λ (ps : List (ℕ × List ℕ)). are_later (LATER_LIMIT - length known) start ps ≡ true)
    c.in-Some.ensures.pairs given in
    let follows : CanFollow graph c.push.new.self.items next =
    subst (λ (all : List (ℕ × Net)). CanFollow graph all next) (sym pushed)
    (next_follows graph known start next net hists rest can c.in_ok-network.ensures.roads said) in
    let later : are_later (LATER_LIMIT - length c.push.new.self.items) next rest ≡ true =
    subst (λ (all : List (ℕ × Net)). are_later (LATER_LIMIT - length all) next rest ≡ true)
    (sym pushed) (next_later known start next net hists rest said) in
    (search rules, (within, (search rules, (follows, later))))

pub returns-in-Some-clause-read : goal.returns-in-Some-clause-read
returns-in-Some-clause-read g t c =
    let graph = c.args.graph.now in
    let known = c.args.known.items in
    let start = c.args.start in
    let net = c.in_ok-network.network in
    let pushed : c.push.new.self.items ≡ known ++ (start, net) ∷ [] = search rules in
    period_more _ c.load_periods.result graph start c.args.hists.now net known
    c.push.new.self.items (later_of (map (λ word. string_bytes word) c.args.later.now)) _
    (g.D.Desk.state c.args.desk.now) (g.D.Desk.state c.load_over.new.desk)
    (g.D.Desk.state c.load_periods.new.desk) c.in_ok-network.ensures.read.0
    c.in_ok-network.ensures.read.1 pushed c.in-Some.ensures.pairs c.load_periods.ensures.read
