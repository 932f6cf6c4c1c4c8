use Rattle.std.proofs.Common.{min, ap, Some, ◌∙◌, arith, sym, length, ℕ, ◌≡◌}
use Rattle.std.proofs.lemmas.Bool.{ltb-true, ltb-false}
use Rattle.sota_hist.proofs.Parting.{parting_is, parting_both, parting_left, parting_right, parting_none}
use Rattle.sota_hist.proofs.difference.first_difference_of.Goals as goal

pub returns-in-Some-2 : goal.returns-in-Some-2
returns-in-Some-2 c =
    let least : c.min.result ≡ min c.index-ours-index.result.0 c.in-Some.their.now.0 = omega (arith, c.min.ensures) in
    ap (λ (t : ℕ). Some t) least
    ∙ parting_both c.loop-index.index c.args.ours.now c.args.theirs.now c.index-ours-index.result c.in-Some.their.now c.loop-index-test.true (ltb-true _ _ (sym c.in-Some.ensures.lookup.0))
    c.index-ours-index.is c.in-Some.ensures.lookup.1 (sym c.eq.ensures ∙ c.if-eq.false)
    ∙ c.loop-index.invariant ∙ parting_is c.args.ours.now c.args.theirs.now c.requires.ours c.requires.theirs

pub returns-in-None : goal.returns-in-None
returns-in-None c =
    parting_left c.loop-index.index c.args.ours.now c.args.theirs.now c.index-ours-index.result c.loop-index-test.true (ltb-false _ _ (sym c.in-None.ensures.lookup.0)) c.index-ours-index.is
    ∙ c.loop-index.invariant ∙ parting_is c.args.ours.now c.args.theirs.now c.requires.ours c.requires.theirs

pub returns-in-Some-get : goal.returns-in-Some-get
returns-in-Some-get c =
    let all : length c.args.ours.now ≡ c.loop-index.index = omega arith in
    parting_right c.loop-index.index c.args.ours.now c.args.theirs.now c.in-Some-get.their.now c.loop-index-test.false (let h = ltb-true _ _ (sym c.in-Some-get.ensures.lookup.0) in omega (arith, h)) (rw (← all) c.in-Some-get.ensures.lookup.1)
    ∙ c.loop-index.invariant ∙ parting_is c.args.ours.now c.args.theirs.now c.requires.ours c.requires.theirs

pub returns-in-None-get : goal.returns-in-None-get
returns-in-None-get c =
    parting_none c.loop-index.index c.args.ours.now c.args.theirs.now c.loop-index-test.false (let h = ltb-false _ _ (sym c.in-None-get.ensures.lookup.0) in omega (arith, h))
    ∙ c.loop-index.invariant ∙ parting_is c.args.ours.now c.args.theirs.now c.requires.ours c.requires.theirs
