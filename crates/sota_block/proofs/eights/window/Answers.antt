use Rattle.std.proofs.Common.{◌≡◌, ℕ, ◌+◌, ◌-◌, take, drop, length, refl, sym, ap, ◌∙◌, arith, length-take, length-drop}
use Rattle.std.proofs.lemmas.List.Sums.{sum_by-take-le, sum_by-take-drop}
use Rattle.sota_block.proofs.Crossings.{met_same}
use Rattle.sota_block.proofs.eights.window.Goals as goal

pub returns-clause-same : goal.returns-clause-same
returns-clause-same c = λ part j none below.
    met_same part c.args.masses.now c.args.padded.now _ c.args.at c.saturating_sub-first.result c.min-end.result j none c.requires.within (omega arith) (omega arith) c.requires.meets c.requires.zeros_before c.requires.zeros_after refl below

pub returns-clause-few : goal.returns-clause-few
returns-clause-few c =
    let xs = c.args.masses.now in
    let first = c.saturating_sub-first.result in
    omega (arith, sum_by-take-drop (λ (x : ℕ). x) xs first, sum_by-take-le (λ (x : ℕ). x) (drop first xs) (c.min-end.result - first))

pub returns-clause-met : goal.returns-clause-met
returns-clause-met c =
    let xs = c.args.masses.now in
    let first = c.saturating_sub-first.result in
    let n : ℕ = c.min-end.result - first in
    let long : length (take n (drop first xs)) ≡ n = omega (arith, length-take n (drop first xs), length-drop first xs) in
    let from : c.args.at + 8 - (c.args.at + 8 - first) ≡ first = omega arith in
    sym (ap (λ (m : ℕ). take m (drop (c.args.at + 8 - (c.args.at + 8 - first)) xs)) long ∙ ap (λ (i : ℕ). take n (drop i xs)) from)

pub returns-clause-inside : goal.returns-clause-inside
returns-clause-inside c =
    let xs = c.args.masses.now in
    let first = c.saturating_sub-first.result in
    omega (arith, length-take (c.min-end.result - first) (drop first xs), length-drop first xs)
