use Rattle.std.proofs.Common.{ℕ, ◌≡◌, ◌==◌, not, List, get_or, sym, ◌∙◌, subst, arith}
use Rattle.std.specs.List.{All}
use Rattle.std.proofs.lemmas.List.{take_all, get_or-take, length-take-le}
use Rattle.std.proofs.lemmas.List.Elements.{All-more}
use Rattle.sota_network.specs.Network.{Net, IsNet}
use Rattle.sota_period.specs.Periods.{first_net}
use Rattle.sota_period.proofs.Scales.{first-found, first-missed, same-passes, other-passes}
use Rattle.sota_period.proofs.timed.find_difference.Goals as goal

pub returns-then-get-scale-clause-value : goal.returns-then-get-scale-clause-value
returns-then-get-scale-clause-value c =
    let periods : List (ℕ × Net) = c.args.periods.now in
    let scale : ℕ = (first_net periods).scale in
    let k : ℕ = c.loop-place.place in
    let item : ℕ × Net = c.index-periods-place.result in
    let differs : item.1.scale ≡ scale → ⊥ = λ same.
    c.if-get-scale.true (c.get.ensures.value ∙ c.scale-in-loop-place.ensures.value ∙ same ∙ sym c.loop-place.invariant.scale) in
    first-found (λ (p : ℕ × Net). not (p.1.scale == scale)) 0 k k item periods (omega arith) c.loop-place-test.true c.index-periods-place.is (other-passes item.1.scale scale differs)
    (λ m d h. same-passes (get_or periods m d).1.scale scale (subst (λ (p : ℕ × Net). p.1.scale ≡ scale) (get_or-take k periods m d h) (c.loop-place.invariant.same m d (omega (arith, h, length-take-le k periods (omega (arith, c.loop-place-test.true)))))))

pub loop-place-preserved : goal.loop-place-preserved
loop-place-preserved c =
    let periods : List (ℕ × Net) = c.args.periods.now in
    let scale : ℕ = (first_net periods).scale in
    let k : ℕ = c.loop-place.place in
    let item : ℕ × Net = c.index-periods-place.result in
    let same : item.1.scale ≡ scale = sym c.scale-in-loop-place.ensures.value ∙ sym c.get.ensures.value ∙ c.if-get-scale.false ∙ c.loop-place.invariant.scale in
    record {
      scale = c.loop-place.invariant.scale;
      valid = All-more (λ (p : ℕ × Net). IsNet p.1) periods k item c.loop-place-test.true c.loop-place.invariant.valid
          (subst (λ (p : ℕ × Net). IsNet p.1) c.index-periods-place.is c.scale-in-loop-place.ensures.valid);
      same = All-more (λ (p : ℕ × Net). p.1.scale ≡ scale) periods k item c.loop-place-test.true c.loop-place.invariant.same
          (subst (λ (p : ℕ × Net). p.1.scale ≡ scale) c.index-periods-place.is same);
    }

pub returns-clause-value : goal.returns-clause-value
returns-clause-value c =
    let periods : List (ℕ × Net) = c.args.periods.now in
    let scale : ℕ = (first_net periods).scale in
    let all : All (λ (p : ℕ × Net). p.1.scale ≡ scale) periods = subst (λ (ps : List (ℕ × Net)). All (λ (p : ℕ × Net). p.1.scale ≡ scale) ps) (take_all c.loop-place.place periods c.loop-place-test.false) c.loop-place.invariant.same in
    first-missed (λ (p : ℕ × Net). not (p.1.scale == scale)) 0 periods (λ m d h. same-passes (get_or periods m d).1.scale scale (all m d h))

pub returns-clause-valid : goal.returns-clause-valid
returns-clause-valid c =
    let periods : List (ℕ × Net) = c.args.periods.now in
    subst (λ (ps : List (ℕ × Net)). All (λ (p : ℕ × Net). IsNet p.1) ps) (take_all c.loop-place.place periods c.loop-place-test.false) c.loop-place.invariant.valid

pub returns-clause-same : goal.returns-clause-same
returns-clause-same c =
    let periods : List (ℕ × Net) = c.args.periods.now in
    let scale : ℕ = (first_net periods).scale in
    subst (λ (ps : List (ℕ × Net)). All (λ (p : ℕ × Net). p.1.scale ≡ scale) ps) (take_all c.loop-place.place periods c.loop-place-test.false) c.loop-place.invariant.same
