use Rattle.std.proofs.Common.{rules, ◌≡◌, ◌≤◌, ◌^◌, length, ℕ, ◌+◌, ◌-◌, ◌<◌, List, take, set, get_or, ap, ◌∙◌, arith, length-set}
use Rattle.std.proofs.lemmas.List.{take_all}
use Rattle.std.specs.Global.{Vec}
use Rattle.sota_hist.specs.Time.{mass_at, total}
use Rattle.sota_online.proofs.Places.{placed-le, placed-more, placed-none, least-le, kernel_is, kernel-few}
use Rattle.sota_online.proofs.kernel.kernel_masses.Goals as goal
use Rattle.sota_online.proofs.kernel.kernel_masses.Goals.{then-place-span, else-place-span}

pub overflow_sub-place : goal.overflow_sub-place
overflow_sub-place c =
    let h = least-le c.pairs-tick-items.result.now c.loop-tick.tick-index c.loop-tick-item.result c.loop-tick-item.result c.pairs-tick-items.ensures.valid c.loop-tick-test.true c.loop-tick-item.is in
    let e = c.pairs-tick-items.ensures.value in
    let h' = rw e at h in
    omega (arith, h')

pub overflow_add-index_mut : goal.overflow_add-index_mut
overflow_add-index_mut c =
    let ps = c.args.time.now in
    let p = c.loop-tick-item.result in
    let e = c.pairs-tick-items.ensures.value in
    let inside : c.loop-tick.tick-index < length ps = rw e at c.loop-tick-test.true in
    let is : p ≡ get_or ps c.loop-tick.tick-index p = c.loop-tick-item.is ∙ ap (λ (l : List (ℕ × ℕ)). get_or l c.loop-tick.tick-index p) e in
    let early = rw e at (least-le c.pairs-tick-items.result.now c.loop-tick.tick-index p p c.pairs-tick-items.ensures.valid c.loop-tick-test.true c.loop-tick-item.is) in
    let few : c.index_mut.result.now + p.1 ≤ total ps = placed-le c.loop-tick.masses.items ps c.span_of-span.result c.get-least.result c.loop-tick.tick-index p c.loop-tick.invariant.long inside is c.loop-tick.invariant.done
    (c.get.result - c.get-least.result) c.index_mut.result.now (omega (arith, early)) c.if-place-span.true c.index_mut.ensures.value in
    let scale = rw e at c.pairs-tick-items.ensures.within in
    let fits : c.index_mut.result.now + c.get-then-place-span.result < 2 ^ 32 = omega (arith, scale) in
    search rules

pub loop-tick-preserved : goal.loop-tick-preserved
loop-tick-preserved c =
    let ps = c.args.time.now in
    let p = c.loop-tick-item.result in
    let e = c.pairs-tick-items.ensures.value in
    let inside : c.loop-tick.tick-index < length ps = rw e at c.loop-tick-test.true in
    let is : p ≡ get_or ps c.loop-tick.tick-index p = c.loop-tick-item.is ∙ ap (λ (l : List (ℕ × ℕ)). get_or l c.loop-tick.tick-index p) e in
    let early = rw e at (least-le c.pairs-tick-items.result.now c.loop-tick.tick-index p p c.pairs-tick-items.ensures.valid c.loop-tick-test.true c.loop-tick-item.is) in
    elim c.if-place-span.branch [
      | then-place-span w ↦
          let writes : c.if-place-span.masses.items ≡ set c.loop-tick.masses.items (c.get.result - c.get-least.result) (w.index_mut.result.now + p.1) =
          ap (λ (v : Vec ℕ). v.items) w.masses-is ∙ ap (λ (m : ℕ). set c.loop-tick.masses.items (c.get.result - c.get-least.result) (w.index_mut.result.now + m)) w.get-then-place-span.ensures in
          record {
            long = ap (λ (l : List ℕ). length l) writes ∙ length-set _ _ _ ∙ c.loop-tick.invariant.long;
            done = placed-more c.loop-tick.masses.items ps c.span_of-span.result c.get-least.result c.loop-tick.tick-index p c.loop-tick.invariant.long inside is c.loop-tick.invariant.done
                c.if-place-span.masses.items (c.get.result - c.get-least.result) w.index_mut.result.now (omega (arith, early)) w.if-place-span.true w.index_mut.ensures.value writes;
          }
      | else-place-span w ↦
          let same : c.if-place-span.masses.items ≡ c.loop-tick.masses.items = ap (λ (v : Vec ℕ). v.items) w.masses-is in
          record {
            long = ap (λ (l : List ℕ). length l) same ∙ c.loop-tick.invariant.long;
            done = placed-none c.loop-tick.masses.items ps c.span_of-span.result c.get-least.result c.loop-tick.tick-index p c.loop-tick.invariant.long inside is c.loop-tick.invariant.done
                c.if-place-span.masses.items (omega (arith, early)) same;
          }
    ]

pub returns-clause-masses : goal.returns-clause-masses
returns-clause-masses c =
    let ps = c.args.time.now in
    let same : length c.pairs-tick-items.result.now ≡ length ps = ap (λ (l : List (ℕ × ℕ)). length l) c.pairs-tick-items.ensures.value in
    let all : take c.loop-tick.tick-index ps ≡ ps = take_all c.loop-tick.tick-index ps (omega arith) in
    kernel_is c.loop-tick.masses.items ps c.span_of-span.result c.get-least.result c.args.length (omega arith) (omega arith) (c.loop-tick.invariant.long) (λ j below. c.loop-tick.invariant.done j below ∙ ap (λ (qs : List (ℕ × ℕ)). mass_at (c.get-least.result + j) qs) all)

pub returns-clause-few : goal.returns-clause-few
returns-clause-few c =
    let ps = c.args.time.now in
    let same : length c.pairs-tick-items.result.now ≡ length ps = ap (λ (l : List (ℕ × ℕ)). length l) c.pairs-tick-items.ensures.value in
    let all : take c.loop-tick.tick-index ps ≡ ps = take_all c.loop-tick.tick-index ps (omega arith) in
    let h = kernel-few c.loop-tick.masses.items ps c.span_of-span.result c.get-least.result (c.loop-tick.invariant.long) (λ j below. c.loop-tick.invariant.done j below ∙ ap (λ (qs : List (ℕ × ℕ)). mass_at (c.get-least.result + j) qs) all) in
    let scale = rw c.pairs-tick-items.ensures.value at c.pairs-tick-items.ensures.within in
    omega (arith, h, scale)
