use Rattle.std.proofs.Common.{replicate, ap, ◌∙◌}
use Rattle.std.specs.Prelude.{None}
use Rattle.sota_bank.specs.Layout.{rows_in}
use Rattle.sota_bank.proofs.Empties.{laid, rows_empty}
use Rattle.sota_bank.proofs.bank.RowBank.new.Goals as goal

pub invariant_of-result : goal.invariant_of-result
invariant_of-result g c =
    rw (c.in_ok-region.ensures, c.in_ok-chunks.ensures.1) (laid c.in_ok-chunks.chunks.items c.args.caps.now c.in_ok-chunks.ensures.0 c.requires)

pub returns : goal.returns
returns g c =
    ap (rows_in c.in_ok-chunks.chunks.items) (c.in_ok-region.ensures ∙ ap (λ n. replicate n None) c.in_ok-chunks.ensures.1)
    ∙ rows_empty c.in_ok-chunks.chunks.items c.args.caps.now c.in_ok-chunks.ensures.0
