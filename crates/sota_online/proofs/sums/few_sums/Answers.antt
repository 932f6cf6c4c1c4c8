use Rattle.std.proofs.Common.{◌≡◌, ℕ, ◌+◌, ◌-◌, length, slice_index, ◌∙◌, ap, arith}
use Rattle.std.proofs.lemmas.List.{get_or-drop}
use Rattle.sota_block.specs.Meeting.{crossed_by}
use Rattle.sota_online.specs.Summer.{plain}
use Rattle.sota_online.proofs.Parts.{crossed_is}
use Rattle.sota_online.proofs.sums.few_sums.Goals as goal

pub returns-then-masses-end-clause-sums : goal.returns-then-masses-end-clause-sums
returns-then-masses-end-clause-sums c = λ k below.
    let masses = c.args.masses.now in
    let values = c.args.values.now in
    let few : ℕ = length c.args.into.now in
    let end : ℕ = c.args.from + few in
    let at : end - 9 + (8 - few + k) ≡ end - 8 - 1 + (8 - few + k) = omega arith in
    let position : end - 8 + (8 - few + k) ≡ c.args.from + k = omega arith in
    ap (λ xs. slice_index xs k) c.copy_from_slice.ensures.after
    ∙ ap (λ xs. slice_index xs k) c.split_at.ensures.back
    ∙ get_or-drop (8 - few) c.crossed_sums.new.into k 0
    ∙ c.crossed_sums.ensures.sums (8 - few + k) (omega arith)
    ∙ ap (crossed_by (λ v. v) masses values) at
    ∙ crossed_is masses values (end - 8) (8 - few + k) (omega arith) (omega arith)
    ∙ ap (plain masses values) position
