use Rattle.std.proofs.Common.{Result, ap, ◌∙◌}
use Rattle.std.specs.Result.{result_map_both}
use Rattle.sota_polfile.specs.declared.any.AnyTable.TheVariants.{One, Two}
use Rattle.sota_polfile.specs.declared.fault.PolicyFault.{PolicyFault}
use Rattle.sota_polfile.specs.Bracket.{Bracket}
use Rattle.sota_polfile.specs.Table.{Table}
use Rattle.sota_polfile.specs.Words.{is_shortage}
use Rattle.sota_polfile.proofs.BothVersions.{any_one, any_two}
use Rattle.sota_polfile.proofs.Replies.{passed_on, unless_more}
use Rattle.sota_polfile.proofs.any.any_of.Goals as goal

pub returns-in_err-bracket_of : goal.returns-in_err-bracket_of
returns-in_err-bracket_of c =
    passed_on _ _ _ c.from_residual.ensures.1 (unless_more (is_shortage c.in_err-bracket_of.field-0.0) (λ refusal. any_two c.args.bytes.now (cc) ∙ ap (λ (r : Result Bracket PolicyFault). result_map_both Two (λ fault. fault) r) refusal) c.in_err-bracket_of.ensures)

pub returns-in_err-read_policy : goal.returns-in_err-read_policy
returns-in_err-read_policy c =
    passed_on _ _ _ c.from_residual-in_err-read_policy.ensures.1 (unless_more (is_shortage c.in_err-read_policy.field-0.0) (λ refusal. any_one c.args.bytes.now (cc) ∙ ap (λ (r : Result Table PolicyFault). result_map_both One (λ fault. fault) r) refusal) c.in_err-read_policy.ensures.exact)

pub returns-in_ok-bracket_of : goal.returns-in_ok-bracket_of
returns-in_ok-bracket_of c = any_two c.args.bytes.now (cc) ∙ ap (λ (r : Result Bracket PolicyFault). result_map_both Two (λ fault. fault) r) c.in_ok-bracket_of.ensures

pub returns-in_ok-read_policy : goal.returns-in_ok-read_policy
returns-in_ok-read_policy c = any_one c.args.bytes.now (cc) ∙ ap (λ (r : Result Table PolicyFault). result_map_both One (λ fault. fault) r) c.in_ok-read_policy.ensures.exact
