use Rattle.std.proofs.Common.{ℕ, ◌≡◌, ◌+◌, ◌-◌, ◌<◌, ◌≤◌, List, length, get_or, sym, subst, ◌∙◌, ap, arith, ⊎_elim}
use Rattle.std.proofs.lemmas.Bool.{cases_lt}
use Rattle.sota_hist.specs.Time.{IsTime, within, greatest_tick}
use Rattle.sota_network.proofs.Spans.{IsSpan, span-read, broad-value}
use Rattle.sota_network.proofs.broad.broad_at.Goals as goal

-- the last pair that was read has the greatest tick of those within the budget
top : (time read : List (ℕ × ℕ)) (budget : ℕ) (q : ℕ × ℕ) → ((ps : List (ℕ × ℕ)) (other : ℕ × ℕ) → IsTime ps → 1 ≤ length ps → (get_or ps (length ps - 1) other).0 ≡ greatest_tick ps)
    → ((ps : List (ℕ × ℕ)) (limit : ℕ) → IsTime ps → IsTime (within limit ps)) → IsTime time → read ≡ within budget time → 1 ≤ length read → (get_or read (length read - 1) q).0 ≡ greatest_tick read
top time read budget q last inside rises is some = last read q (subst (λ (ps : List (ℕ × ℕ)). IsTime ps) (sym is) (inside time budget rises)) some

pub overflow_sub-span : goal.overflow_sub-span
overflow_sub-span c =
    let some : 1 ≤ length c.within-within.result.now = omega (arith, c.if-within-le-NARROW.false) in
    let spans : IsSpan c.args.budget c.get-2.result c.get.result (within c.args.budget c.args.arc.now.time) =
    span-read c.args.arc.now.time c.within-within.result.now c.args.budget c.get-2.result c.get.result c.index-within-0.result c.index-within-within.result c.within-within.ensures some (top c.args.arc.now.time c.within-within.result.now c.args.budget c.index-within-within.result c.times_rise.ensures.last c.times_rise.ensures.within c.requires.time c.within-within.ensures some) c.get-2.ensures c.get.ensures in
    spans.order

pub overflow_add-span : goal.overflow_add-span
overflow_add-span c =
    let some : 1 ≤ length c.within-within.result.now = omega (arith, c.if-within-le-NARROW.false) in
    let spans : IsSpan c.args.budget c.get-2.result c.get.result (within c.args.budget c.args.arc.now.time) =
    span-read c.args.arc.now.time c.within-within.result.now c.args.budget c.get-2.result c.get.result c.index-within-0.result c.index-within-within.result c.within-within.ensures some (top c.args.arc.now.time c.within-within.result.now c.args.budget c.index-within-within.result c.times_rise.ensures.last c.times_rise.ensures.within c.requires.time c.within-within.ensures some) c.get-2.ensures c.get.ensures in
    omega (arith, spans.within, c.requires.budget)

pub returns-clause-value : goal.returns-clause-value
returns-clause-value c =
    let some : 1 ≤ length c.within-within.result.now = omega (arith, c.if-within-le-NARROW.false) in
    let spans : IsSpan c.args.budget c.get-2.result c.get.result (within c.args.budget c.args.arc.now.time) =
    span-read c.args.arc.now.time c.within-within.result.now c.args.budget c.get-2.result c.get.result c.index-within-0.result c.index-within-within.result c.within-within.ensures some (top c.args.arc.now.time c.within-within.result.now c.args.budget c.index-within-within.result c.times_rise.ensures.last c.times_rise.ensures.within c.requires.time c.within-within.ensures some) c.get-2.ensures c.get.ensures in
    let positive : 0 < c.args.pairs = ⊎_elim (λ (h : 0 < c.args.pairs). h) (λ (none : c.args.pairs ≤ 0). absurd (c.if-pairs-eq0.false (omega arith))) (cases_lt 0 c.args.pairs) in
    ap (λ (n : ℕ). c.args.pairs + n) (c.from.ensures ∙ spans.value) ∙ sym (broad-value c.args.budget c.args.pairs c.args.arc.now c.within-within.result.now c.within-within.ensures positive c.if-within-le-NARROW.false)

pub returns-clause-within : goal.returns-clause-within
returns-clause-within c =
    let some : 1 ≤ length c.within-within.result.now = omega (arith, c.if-within-le-NARROW.false) in
    let spans : IsSpan c.args.budget c.get-2.result c.get.result (within c.args.budget c.args.arc.now.time) =
    span-read c.args.arc.now.time c.within-within.result.now c.args.budget c.get-2.result c.get.result c.index-within-0.result c.index-within-within.result c.within-within.ensures some (top c.args.arc.now.time c.within-within.result.now c.args.budget c.index-within-within.result c.times_rise.ensures.last c.times_rise.ensures.within c.requires.time c.within-within.ensures some) c.get-2.ensures c.get.ensures in
    omega (arith, spans.within, spans.order, c.requires.budget, c.requires.pairs, c.from.ensures)
