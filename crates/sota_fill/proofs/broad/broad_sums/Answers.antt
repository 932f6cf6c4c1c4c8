use Rattle.std.proofs.Common.{ℕ, ◌≡◌, ◌+◌, ◌-◌, ◌<◌, ◌≤◌, length, slice_index, drop, length-drop, sym, ◌∙◌, ap, arith, ⊎_elim}
use Rattle.std.proofs.lemmas.Bool.{cases_lt}
use Rattle.std.proofs.lemmas.List.{get_or_append_left}
use Rattle.std.proofs.lemmas.Grind.{common_steps}
use Rattle.sota_hist.specs.Time.{least_tick}
use Rattle.sota_online.specs.Summer.{plain}
use Rattle.sota_fill.proofs.Feeding.{fed-before, fed-at}
use Rattle.sota_fill.proofs.Halved.{front-at, back-at}
use Rattle.sota_fill.proofs.broad.broad_sums.Goals as goal

pub returns-then-early-into-clause-sums : goal.returns-then-early-into-clause-sums
returns-then-early-into-clause-sums g c = λ time f r first fed x less.
    let early : ℕ = c.min-early.result in
    let long : length c.fill.new.self ≡ early = grind (arith, common_steps, c.fill.ensures.len, c.min-early.ensures) in
    ⊎_elim
    (λ (before : x < early).
    let zero : slice_index c.fill.new.self x ≡ 0 = grind (arith, common_steps, c.fill.ensures, c.min-early.ensures) in
    let soon : c.args.from + x < least_tick time + c.args.base = omega (arith, c.min-early.ensures, c.saturating_sub.ensures, c.from-from.ensures, c.from.ensures, c.from-2.ensures) in
    front-at early c.fill.new.self c.args.into.now c.sums.new.into _ long x before
    ∙ zero ∙ sym (fed-before f c.args.base (c.args.from + x) time (g.Z.Summer.state c.args.summer.now) r fed soon))
    (λ (after : early ≤ x).
    let k : ℕ = x - early in
    let reached : c.args.least + c.args.base ≤ c.args.from + early = omega (arith, c.if-early-into.true, c.min-early.ensures, c.saturating_sub.ensures, c.from-from.ensures, c.from.ensures, c.from-2.ensures) in
    let p : ℕ = c.args.from + early - (c.args.least + c.args.base) + 1 + k in
    let within : k < length c.sums.new.into = omega (arith, c.sums.auto.into, long, length-drop early c.args.into.now) in
    let known : p ≤ length (g.Z.Summer.state c.args.summer.now).values = omega (arith, c.requires.known) in
    let place : p + c.args.least + c.args.base ≡ c.args.from + x + 1 = omega (arith, reached) in
    back-at early c.fill.new.self c.args.into.now c.sums.new.into _ long x after within
    ∙ fed-at f c.args.base c.args.least (c.args.from + x) p (slice_index c.sums.new.into k) time (g.Z.Summer.state c.args.summer.now) r first fed (omega arith) place known
    (c.sums.ensures.sums k (omega (arith, c.sums.auto.into, long, within, length-drop early c.args.into.now))
    ∙ ap (λ (n : ℕ). plain (g.Z.Summer.state c.args.summer.now).kernel (g.Z.Summer.state c.args.summer.now).values n) (omega (arith, c.from-from.ensures, c.from.ensures, c.from-2.ensures))))
    (cases_lt x early)

pub returns-else-early-into-clause-sums : goal.returns-else-early-into-clause-sums
returns-else-early-into-clause-sums g c = λ time f r first fed x less.
    let all : length c.args.into.now ≤ c.min-early.result = omega (arith, c.if-early-into.false) in
    let long : length c.fill.new.self ≡ c.min-early.result = grind (arith, common_steps, c.fill.ensures.len, c.min-early.ensures) in
    let zero : slice_index c.fill.new.self x ≡ 0 = grind (arith, common_steps, c.fill.ensures, c.min-early.ensures) in
    let soon : c.args.from + x < least_tick time + c.args.base = omega (arith, c.min-early.ensures, c.saturating_sub.ensures, c.from-from.ensures, c.from.ensures, c.from-2.ensures) in
    get_or_append_left c.fill.new.self (drop c.min-early.result c.args.into.now) 0 x (omega (arith, long, all))
    ∙ zero ∙ sym (fed-before f c.args.base (c.args.from + x) time (g.Z.Summer.state c.args.summer.now) r fed soon)
