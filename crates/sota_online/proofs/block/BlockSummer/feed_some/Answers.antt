use Rattle.std.proofs.Common.{◌≡◌, ◌≤◌, ◌%◌, ◌^◌, length, ℕ, ◌+◌, ◌-◌, List, take, slice_index, ap, ◌∙◌, arith, length-take}
use Rattle.sota_units.specs.Rounding.{ONE}
use Rattle.sota_online.specs.Summer.{SummerState}
use Rattle.sota_online.proofs.Putting.{put-small, put-state, put-whole, whole_put}
use Rattle.sota_online.proofs.Worked.{feed_held, feed_worked, feed_idle, take_small}
use Rattle.sota_online.proofs.block.BlockSummer.feed_some.Goals as goal

pub work_off-requires-clause-small : goal.work_off-requires-clause-small
work_off-requires-clause-small g c = λ a.
    let s = c.self.inside in
    let n : ℕ = c.min-count.result in
    let put = put-whole s.values.items c.deref_mut.result.now c.put.new.into s.values.len s.fed _ n (λ k. slice_index (take n c.args.values.now) k) c.put.ensures.put c.deref_mut.ensures.value (omega (arith, length-take n c.args.values.now)) s.values.ok.0 in
    take_small (s.fed + n) c.deref-then-ends_block-2.result.now ONE (λ b. rw c.deref-then-ends_block-2.ensures.value (put-small s.values.items _ s.fed n ONE _ put (λ k below. c.put.ensures.small k) c.self.invariant.small b)) a

pub work_off-requires-clause-held : goal.work_off-requires-clause-held
work_off-requires-clause-held g c = λ p below.
    let s = c.self.inside in
    let n : ℕ = c.min-count.result in
    let put = put-whole s.values.items c.deref_mut.result.now c.put.new.into s.values.len s.fed _ n (λ k. slice_index (take n c.args.values.now) k) c.put.ensures.put c.deref_mut.ensures.value (omega (arith, length-take n c.args.values.now)) s.values.ok.0 in
    let left : length s.values.items - s.fed ≡ c.args.self.now.room = ap (λ (x : SummerState). x.room) c.self.view_is in
    let room : s.fed + n ≤ length s.values.items = omega arith in
    let block : s.fed % 2 ^ s.first + n ≤ 2 ^ s.first = omega (arith, c.rest_of_block-rest.ensures.whole (omega (arith, c.ends_block.ensures.long c.if-ends_block.true))) in
    feed_held s.masses.items s.skips.items c.deref.result.now s.values.items _ _ s.low.items c.deref_mut-then-ends_block.result.now s.high.items c.deref_mut-then-ends_block-2.result.now s.first s.smallest s.fed n s.start p _ c.self.invariant put room (omega arith) block
    c.deref.ensures.value (ap (λ (xs : List ℕ). take (s.fed + n) xs) c.deref-then-ends_block-2.ensures.value) c.deref_mut-then-ends_block.ensures.value c.deref_mut-then-ends_block-2.ensures.value below

pub invariant_of-self : goal.invariant_of-self
invariant_of-self g c =
    let s = c.self.inside in
    let n : ℕ = c.min-count.result in
    let put = put-whole s.values.items c.deref_mut.result.now c.put.new.into s.values.len s.fed _ n (λ k. slice_index (take n c.args.values.now) k) c.put.ensures.put c.deref_mut.ensures.value (omega (arith, length-take n c.args.values.now)) s.values.ok.0 in
    let left : length s.values.items - s.fed ≡ c.args.self.now.room = ap (λ (x : SummerState). x.room) c.self.view_is in
    let room : s.fed + n ≤ length s.values.items = omega arith in
    let long : (xs ys : List ℕ) → xs ≡ ys → length xs ≡ length ys = λ xs ys e. ap (λ (zs : List ℕ). length zs) e in
    let low : length c.work_off.new.low ≡ length s.low.items = c.work_off.auto.low ∙ long _ _ c.deref_mut-then-ends_block.ensures.value in
    let high : length c.work_off.new.high ≡ length s.high.items = c.work_off.auto.high ∙ long _ _ c.deref_mut-then-ends_block-2.ensures.value in
    feed_worked s.masses.items s.skips.items c.deref.result.now s.values.items _ _ s.low.items c.work_off.new.low _ s.high.items c.work_off.new.high _ s.first s.smallest s.fed n s.start _ c.self.invariant put room (λ k below. c.put.ensures.small k)
    c.deref.ensures.value (ap (λ (xs : List ℕ). take (s.fed + n) xs) c.deref-then-ends_block-2.ensures.value) low high
    (whole_put s.low.items c.work_off.new.low s.low.len low s.low.ok.0)
    (whole_put s.high.items c.work_off.new.high s.high.len high s.high.ok.0) c.work_off.ensures.held

pub invariant_of-self-else-ends_block : goal.invariant_of-self-else-ends_block
invariant_of-self-else-ends_block g c =
    let s = c.self.inside in
    let n : ℕ = c.min-count.result in
    let put = put-whole s.values.items c.deref_mut.result.now c.put.new.into s.values.len s.fed _ n (λ k. slice_index (take n c.args.values.now) k) c.put.ensures.put c.deref_mut.ensures.value (omega (arith, length-take n c.args.values.now)) s.values.ok.0 in
    let left : length s.values.items - s.fed ≡ c.args.self.now.room = ap (λ (x : SummerState). x.room) c.self.view_is in
    let room : s.fed + n ≤ length s.values.items = omega arith in
    feed_idle s.masses.items s.skips.items s.values.items _ s.low.items s.high.items s.first s.smallest s.fed n s.start c.len-span.result _ c.self.invariant put room (λ k below. c.put.ensures.small k) (omega arith)
    (λ squares. omega (arith, c.rest_of_block-rest.ensures.whole (omega (arith, squares)))) (c.ends_block.ensures.idle c.if-ends_block.false)

pub returns-then-ends_block-clause-state : goal.returns-then-ends_block-clause-state
returns-then-ends_block-clause-state g c =
    let s = c.self.inside in
    let n : ℕ = c.min-count.result in
    put-state s.masses.items s.values.items _ c.put.new.into (take n c.args.values.now) s.values.len s.fed s.start n _ c.args.self.now c.put.ensures.put c.deref_mut.ensures.value
    (omega (arith, length-take n c.args.values.now)) (omega (arith, length-take n c.args.values.now)) s.values.ok.0 (omega arith) c.self.invariant.fed_le c.self.view_is

pub returns-else-ends_block-clause-state : goal.returns-else-ends_block-clause-state
returns-else-ends_block-clause-state g c =
    let s = c.self.inside in
    let n : ℕ = c.min-count.result in
    put-state s.masses.items s.values.items _ c.put.new.into (take n c.args.values.now) s.values.len s.fed s.start n _ c.args.self.now c.put.ensures.put c.deref_mut.ensures.value
    (omega (arith, length-take n c.args.values.now)) (omega (arith, length-take n c.args.values.now)) s.values.ok.0 (omega arith) c.self.invariant.fed_le c.self.view_is
