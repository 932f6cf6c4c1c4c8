use Rattle.std.proofs.Common.{◌≡◌, ◌∙◌, Result, refl, sym, subst, IfOk, length, ap, map}
use Rattle.std.specs.List.{range_with_len}
use Rattle.std.proofs.lemmas.List.FromFn.{length-map-range_with_len}
use Rattle.sota_kept.specs.Ticks.{END_LIMIT}
use Rattle.sota_polfile.specs.Bracket.{Bracket, IsBracket}
use Rattle.sota_polfile.specs.declared.fault.PolicyFault.{PolicyFault}
use Rattle.sota_polfile.specs.declared.head.PolicyHead.{PolicyHead}
use Rattle.sota_polfile.specs.Table.{IsHead}
use Rattle.sota_bounds.specs.Search.{time_at}
use Rattle.sota_check.specs.Planned.{ask_head}
use Rattle.sota_check.specs.PlannedBracket.{IsPlannedBracket}
use Rattle.sota_session.specs.Brackets.{bracket_row, plan_bracket}
use Rattle.sota_session.specs.Rows.{bracket_row_in}
use Rattle.sota_session.proofs.Planned.{IsPlannedFor, region-is}
use Rattle.sota_session.proofs.Bracketing.{HasTimes, bracket-table, rows-same, bracket-planned}
use Rattle.sota_session.proofs.bracket.BracketTablePlannedTable.make.Goals as goal
use Rattle.sota_session.proofs.bracket.BracketTablePlannedTable.make.Goals.{After-from_parts}

planned : (c : After-from_parts) → IsPlannedFor c.args.network.now c.args.ask.now c.args.region.now c.args.tables.now
planned c = record {
  made = c.requires.planned;
  asked = c.requires.asked;
  entry = c.lists_by_number.ensures.entry;
  dest_pairs = c.region_by_least_times.ensures.dest_pairs c.args.network.now c.args.ask.now.origin c.args.ask.now.dest c.args.ask.now.budget;
}

times : (c : After-from_parts) → HasTimes c.args.network.now c.args.ask.now
times c =
    let net = c.args.network.now in
    let ask = c.args.ask.now in
    let valid = c.head_of-head.ensures.net in
    record {
      short = c.requires.in_range.budget;
      times = λ i time least. c.least_ticks.ensures.time net ask.dest END_LIMIT ask.dest i time valid least;
      most = λ i. c.least_ticks.ensures.most net ask.dest END_LIMIT ask.dest i valid;
      counted = λ i many. c.regions_have_least_times.ensures.counted net ask.origin ask.dest ask.budget i valid many;
      pairs = λ i to from off onward came. c.region_by_least_times.ensures.pairs net ask.origin ask.dest ask.budget i to from valid off onward came;
      dest_pairs = c.region_by_least_times.ensures.dest_pairs net ask.origin ask.dest ask.budget;
    }

-- the parts that are handed over
abbrev handed : After-from_parts → Bracket
handed c = record { head = c.head_of-head.result; rows = c.in_ok-rows.rows.items }

parts : (c : After-from_parts) → handed c ≡ record { head = ask_head c.args.network.now c.args.ask.now.origin c.args.ask.now.dest c.args.ask.now.budget; rows = c.in_ok-rows.rows.items }
parts c = rw c.head_of-head.ensures.value refl

rows : (c : After-from_parts) → c.in_ok-rows.rows.items ≡ map (bracket_row c.args.network.now c.args.ask.now) (range_with_len 1 c.args.network.now.nodes)
rows c = c.in_ok-rows.ensures.made ∙ rows-same c.args.network.now c.args.ask.now c.args.region.now c.args.tables.now (times c) (planned c)

valid : (c : After-from_parts) → IsBracket (handed c)
valid c =
    subst IsBracket (sym (parts c))
    (bracket-table c.args.network.now c.args.ask.now (times c) c.in_ok-rows.rows.items (rows c) c.in_ok-rows.ensures.valid
    (subst IsHead c.head_of-head.ensures.value c.head_of-head.ensures.valid))

pub from_parts-requires : goal.from_parts-requires
from_parts-requires c =
    ap length c.in_ok-rows.ensures.made
    ∙ length-map-range_with_len (bracket_row_in c.args.region.now c.args.tables.now) 1 c.args.network.now.nodes
    ∙ sym (ap (λ (head : PolicyHead). head.nodes) c.head_of-head.ensures.value)

pub unwrap-requires : goal.unwrap-requires
unwrap-requires c = c.from_parts.ensures.valid.1 (valid (goal.at.unwrap-requires c).After-from_parts)

pub returns : goal.returns
returns c =
    let net = c.args.network.now in
    let ask = c.args.ask.now in
    let region = c.args.region.now in
    let given = (goal.at.returns c).After-from_parts in
    let made = subst (λ (r : Result Bracket PolicyFault). IfOk r (λ table. table ≡ handed given)) c.unwrap.ensures c.from_parts.ensures.made in
    let file : c.unwrap.result ≡ plan_bracket net ask = made ∙ parts given ∙ bracket-planned net ask c.in_ok-rows.rows.items (rows given) in
    let is_table : IsBracket c.unwrap.result = subst IsBracket (sym made) (valid given) in
    let net_is = c.head_of-head.ensures.net in
    let plan : IsPlannedBracket net ask.origin ask.dest ask.budget c.unwrap.result =
    subst (IsPlannedBracket net ask.origin ask.dest ask.budget) (sym file)
    (c.brackets_by_least_times.ensures net ask net_is c.requires.in_range.budget
    (λ i node. (time_at region.least i, (region-is net ask region c.args.tables.now (planned given)).least i node))) in
    record {
      file = file;
      bracketed = c.planned_brackets_hold.ensures.bracketed net ask.origin ask.dest ask.budget c.unwrap.result net_is is_table plan;
      bounds = (
        c.planned_brackets_hold.ensures.lower net ask.origin ask.dest ask.budget c.unwrap.result net_is is_table plan,
        c.planned_brackets_hold.ensures.upper net ask.origin ask.dest ask.budget c.unwrap.result net_is is_table plan,
      );
    }
