use Rattle.std.proofs.Common.{◌≡◌, ◌<◌, length, refl, sym, ap, ◌∙◌, arith}
use Rattle.sota_bank.specs.Rows.{lists, capacities}
use Rattle.sota_bank.proofs.Regrows.{capacities_empty, moves, all_moved}
use Rattle.sota_bank.proofs.bank.RowBank.regrow.Goals as goal

pub loop-row-init : goal.loop-row-init
loop-row-init g c = record {
  caps_are = ap capacities c.in_ok-grown.ensures ∙ capacities_empty _ c.args.caps.now;
  as_many = sym c.requires.rows;
  moved = λ j lt. let n : ⊥ = omega arith in absurd n;
  left = λ j le. refl;
}

pub loop-row-preserved : goal.loop-row-preserved
loop-row-preserved g c =
    let within : c.loop-row.row < length c.args.caps.now = omega arith in
    rw (c.take_row.ensures.here, c.take_row.ensures.there) (moves c.args.self.now c.loop-row.self c.loop-row.grown c.args.caps.now c.loop-row.row c.loop-row.invariant within)

pub returns-clause-lists : goal.returns-clause-lists
returns-clause-lists g c =
    let end : c.loop-row.row ≡ length c.args.caps.now = omega arith in
    ap lists c.drop.view_is ∙ all_moved c.args.self.now c.loop-row.self c.loop-row.grown c.args.caps.now c.loop-row.row c.loop-row.invariant end (sym c.requires.rows)
