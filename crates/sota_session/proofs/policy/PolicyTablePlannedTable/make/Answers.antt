use Rattle.std.proofs.Common.{◌≡◌, Result, sym, subst, ◌∙◌, IfOk, refl}
use Rattle.sota_polfile.specs.Table.{Table, IsHead, IsTable}
use Rattle.sota_polfile.specs.declared.fault.PolicyFault.{PolicyFault}
use Rattle.sota_check.specs.Planned.{ask_head, IsPlanFile}
use Rattle.sota_session.specs.Plans.{plan_table}
use Rattle.sota_session.proofs.Planned.{IsPlannedFor, rows-table, table-planned}
use Rattle.sota_session.proofs.policy.PolicyTablePlannedTable.make.Goals as goal
use Rattle.sota_session.proofs.policy.PolicyTablePlannedTable.make.Goals.{After-plans_hold, After-from_parts}

planned : (c : goal.After-plans_hold) → IsPlannedFor c.args.network.now c.args.ask.now c.args.region.now c.args.tables.now
planned c = record {
  made = c.requires.planned;
  asked = c.requires.asked;
  entry = c.lists_by_number.ensures.entry;
  dest_pairs = c.region_by_least_times.ensures.dest_pairs c.args.network.now c.args.ask.now.origin c.args.ask.now.dest c.args.ask.now.budget;
}

-- the parts that are handed over
abbrev handed : After-from_parts → Table
handed c = record { head = c.head_of-head.result; rows = c.in_ok-rows.rows.items }

parts : (c : After-from_parts) → handed c ≡ record { head = ask_head c.args.network.now c.args.ask.now.origin c.args.ask.now.dest c.args.ask.now.budget; rows = c.in_ok-rows.rows.items }
parts c = rw c.head_of-head.ensures.value refl

valid : (c : After-from_parts) → IsPlannedFor c.args.network.now c.args.ask.now c.args.region.now c.args.tables.now → IsTable (handed c)
valid c is =
    subst IsTable (sym (parts c))
    (rows-table c.args.network.now c.args.ask.now c.args.region.now c.args.tables.now is c.in_ok-rows.rows.items c.in_ok-rows.ensures.made c.in_ok-rows.ensures.valid
    (subst IsHead c.head_of-head.ensures.value c.head_of-head.ensures.valid))

pub unwrap-requires : goal.unwrap-requires
unwrap-requires c = c.from_parts.ensures.valid.1 (valid c (planned (goal.at.unwrap-requires c).After-plans_hold))

pub returns : goal.returns
returns c =
    let net = c.args.network.now in
    let ask = c.args.ask.now in
    let given = (goal.at.returns c).After-from_parts in
    let is = planned (goal.at.returns c).After-plans_hold in
    let made = subst (λ (r : Result Table PolicyFault). IfOk r (λ table. table ≡ handed given)) c.unwrap.ensures c.from_parts.ensures.made in
    let file : c.unwrap.result ≡ plan_table net ask = made ∙ parts given ∙ table-planned net ask c.args.region.now c.args.tables.now is c.in_ok-rows.rows.items c.in_ok-rows.ensures.made in
    let is_table = subst IsTable (sym made) (valid given is) in
    let is_file = subst (IsPlanFile net ask.origin ask.dest ask.budget) (sym file) (c.plans_by_least_times.ensures net ask c.head_of-head.ensures.net) in
    let plan = c.rows_make_plans.ensures.file net ask.origin ask.dest ask.budget c.unwrap.result c.head_of-head.ensures.net is_table is_file in
    record {
      file = file;
      certified = c.plans_hold.ensures.certified net ask.origin ask.dest ask.budget c.unwrap.result c.head_of-head.ensures.net plan;
      bound = c.plans_hold.ensures.bound net ask.origin ask.dest ask.budget c.unwrap.result c.head_of-head.ensures.net plan;
    }
