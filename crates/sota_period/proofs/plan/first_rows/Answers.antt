use Rattle.std.proofs.Common.{ℕ, ◌≡◌, ◌-◌, ◌++◌, List, get_or, replicate, sym, ◌∙◌, ap, subst}
use Rattle.sota_units.specs.Rounding.{ONE}
use Rattle.sota_bank.specs.Rows.{Row, list_at, with_list, empty_rows}
use Rattle.sota_period.specs.declared.ask.Ask.{Ask}
use Rattle.sota_period.specs.Rows.{AreRows, asked_need}
use Rattle.sota_period.proofs.Filling.{first-rows}
use Rattle.sota_period.proofs.plan.first_rows.Goals as goal

pub returns : goal.returns
returns g c =
    let ask : Ask = c.args.ask.now in
    let ones : List ℕ = c.deref.result.now in
    let all : ones ≡ replicate (asked_need ask ask.dest) ONE = c.deref.ensures.value ∙ c.in_ok-ones.ensures.items_if_clones_equal (λ y e. e) ∙ ap (λ (n : ℕ). replicate (get_or ask.needs.now (n - 1) 0) ONE) c.get.ensures in
    let made : c.append.new.self ≡ with_list (empty_rows ask.needs.now) (ask.dest - 1) (list_at (empty_rows ask.needs.now) (ask.dest - 1) ++ ones) =
    c.append.ensures.rows
    ∙ ap (λ (R : List (Row ℕ)). with_list R (c.get.result - 1) (list_at R (c.get.result - 1) ++ ones)) c.in_ok-rows.ensures
    ∙ ap (λ (n : ℕ). with_list (empty_rows ask.needs.now) (n - 1) (list_at (empty_rows ask.needs.now) (n - 1) ++ ones)) c.get.ensures in
    subst (λ (R : List (Row ℕ)). AreRows ask 0 R) (sym made) (first-rows c.network_laws.ensures ask c.requires ones all)
