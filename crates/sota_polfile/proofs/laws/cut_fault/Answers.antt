use Rattle.std.proofs.Common.{◌∙◌, Some, ap, sym}
use Rattle.sota_polfile.proofs.Cuts.{cut_first, cut_no_file}
use Rattle.sota_polfile.specs.declared.fault.PolicyFault.{PolicyFault}
use Rattle.sota_polfile.proofs.laws.cut_fault.Goals as goal

pub returns-clause-first : goal.returns-clause-first
returns-clause-first c =
    cut_first c.args.table.now c.head.ensures.valid c.args.length c.requires ∙ ap (λ (fault : PolicyFault). Some fault) (sym c.cut.ensures)

pub returns-clause-no_file : goal.returns-clause-no_file
returns-clause-no_file c = λ other is same. cut_no_file c.args.table.now c.head.ensures.valid other is c.args.length c.requires same
