use Rattle.std.proofs.Common.{◌≡◌, ◌*◌, ◌/◌, ◌≤◌, length, ◌∙◌, arith, rules}
use Rattle.std.proofs.lemmas.List.Elements.{All-take, All-drop}
use Rattle.sota_block.specs.Product.{FOLDED_LIMIT}
use Rattle.sota_block.proofs.Folding.{half_is_block, sum-halves, sum-sums, All-halved, All-sums, All-unscaled, count_plain, count_folded}
use Rattle.sota_block.proofs.Halves.{IsHalved-from_parts, AddsMiddle, IsHalved-beyond, joined_is}
use Rattle.sota_block.proofs.Limits.{within_limit}
use Rattle.sota_block.proofs.fold.+fold.Goals as goal

pub returns-then-length-le-PLAIN_LENGTH-clause-count : goal.returns-then-length-le-PLAIN_LENGTH-clause-count
returns-then-length-le-PLAIN_LENGTH-clause-count g t c = λ r power.
    omega (arith, count_plain _ r power c.if-length-le-PLAIN_LENGTH.true)

pub fold-requires : goal.fold-requires
fold-requires g t c κs within =
    let n = length c.args.kernel.now in
    let halves = half_is_block n c.requires.block c.if-length-le-PLAIN_LENGTH.false in
    let kernel = c.split_at.ensures in
    let values = c.split_at-2.ensures in
    let block = rw (← kernel.front_len) at halves.0 in
    let few = All-take (λ v. v * n ≤ FOLDED_LIMIT) (n / 2) c.args.values.now c.requires.values in
    let few' = rw (← values.front) at few in
    let low = All-halved FOLDED_LIMIT n (length c.split_at.result.0.now) c.split_at-2.result.0.now (omega arith) few' in
    (search rules, (within, (block, (omega arith, (omega (arith, sum-halves (n / 2) c.args.kernel.now _ _ kernel.front kernel.back), (low, (omega arith, (omega arith, omega arith))))))))

pub fold-requires-2 : goal.fold-requires-2
fold-requires-2 g t c κs within =
    let n = length c.args.kernel.now in
    let halves = half_is_block n c.requires.block c.if-length-le-PLAIN_LENGTH.false in
    let kernel = c.split_at.ensures in
    let values = c.split_at-2.ensures in
    let long : length c.split_at.result.1.now ≡ n / 2 = omega arith in
    let block = rw (← long) at halves.0 in
    let few = All-drop (λ v. v * n ≤ FOLDED_LIMIT) (n / 2) c.args.values.now c.requires.values in
    let few' = rw (← values.back) at few in
    let low = All-halved FOLDED_LIMIT n (length c.split_at.result.1.now) c.split_at-2.result.1.now (omega arith) few' in
    (search rules, (within, (block, (omega arith, (omega (arith, sum-halves (n / 2) c.args.kernel.now _ _ kernel.front kernel.back), (low, (omega arith, (omega arith, omega arith))))))))

pub add_masses-requires-clause-right_length : goal.add_masses-requires-clause-right_length
add_masses-requires-clause-right_length g t c =
    let halves = half_is_block (length c.args.kernel.now) c.requires.block c.if-length-le-PLAIN_LENGTH.false in
    omega arith

pub add_masses-requires-clause-few : goal.add_masses-requires-clause-few
add_masses-requires-clause-few g t c =
    omega (arith, sum-halves _ c.args.kernel.now _ _ c.split_at.ensures.front c.split_at.ensures.back)

pub add_values-requires-clause-right_length : goal.add_values-requires-clause-right_length
add_values-requires-clause-right_length g t c =
    let halves = half_is_block (length c.args.kernel.now) c.requires.block c.if-length-le-PLAIN_LENGTH.false in
    omega arith

pub fold-requires-3 : goal.fold-requires-3
fold-requires-3 g t c κs within =
    let n = length c.args.kernel.now in
    let halves = half_is_block n c.requires.block c.if-length-le-PLAIN_LENGTH.false in
    let kernel = c.split_at.ensures in
    let values = c.split_at-2.ensures in
    let masses_long : length c.add_masses.new.into ≡ n / 2 = omega arith in
    let block = rw (← masses_long) at halves.0 in
    let few = All-take (λ v. v * n ≤ FOLDED_LIMIT) (n / 2) c.args.values.now c.requires.values in
    let few' = All-drop (λ v. v * n ≤ FOLDED_LIMIT) (n / 2) c.args.values.now c.requires.values in
    let low = All-sums FOLDED_LIMIT n (length c.add_masses.new.into) c.split_at-2.result.0.now c.split_at-2.result.1.now c.add_values.new.into (omega arith) (omega arith) (omega arith) (rw (← values.front) at few) (rw (← values.back) at few') c.add_values.ensures in
    let total = sum-sums c.split_at.result.0.now c.split_at.result.1.now c.add_masses.new.into (omega arith) (omega arith) c.add_masses.ensures in
    (search rules, (within, (block, (omega arith, (omega (arith, total, sum-halves (n / 2) c.args.kernel.now _ _ kernel.front kernel.back), (low, (omega arith, (omega arith, omega arith))))))))

pub add_middle-requires-clause-middle_length : goal.add_middle-requires-clause-middle_length
add_middle-requires-clause-middle_length g t c =
    let halves = half_is_block (length c.args.kernel.now) c.requires.block c.if-length-le-PLAIN_LENGTH.false in
    omega arith

pub add_middle-requires-clause-low_length : goal.add_middle-requires-clause-low_length
add_middle-requires-clause-low_length g t c =
    let halves = half_is_block (length c.args.kernel.now) c.requires.block c.if-length-le-PLAIN_LENGTH.false in
    omega arith

pub add_middle-requires-clause-high_length : goal.add_middle-requires-clause-high_length
add_middle-requires-clause-high_length g t c =
    let halves = half_is_block (length c.args.kernel.now) c.requires.block c.if-length-le-PLAIN_LENGTH.false in
    omega arith

pub add_middle-requires-clause-beyond : goal.add_middle-requires-clause-beyond
add_middle-requires-clause-beyond g t c =
    let n = length c.args.kernel.now in
    let halves = half_is_block n c.requires.block c.if-length-le-PLAIN_LENGTH.false in
    let kernel = c.split_at.ensures in
    let values = c.split_at-2.ensures in
    let halved = IsHalved-from_parts (n / 2) c.args.kernel.now c.args.values.now _ _ _ _ c.add_masses.new.into c.add_values.new.into c.fold.new.into c.fold-2.new.into c.fold-3.new.into (omega arith) (omega arith)
    kernel.front kernel.back values.front values.back (omega arith) (omega arith) c.add_masses.ensures c.add_values.ensures (omega arith) (omega arith) (omega arith)
    c.fold.ensures.coefficients c.fold-2.ensures.coefficients c.fold-3.ensures.coefficients in
    λ k inside. IsHalved-beyond _ _ _ _ _ _ _ _ halved k (omega arith)

pub add_middle-requires-clause-small : goal.add_middle-requires-clause-small
add_middle-requires-clause-small g t c =
    let n = length c.args.kernel.now in
    let halves = half_is_block n c.requires.block c.if-length-le-PLAIN_LENGTH.false in
    let kernel = c.split_at.ensures in
    let values = c.split_at-2.ensures in
    let few = All-take (λ v. v * n ≤ FOLDED_LIMIT) (n / 2) c.args.values.now c.requires.values in
    let few' = All-drop (λ v. v * n ≤ FOLDED_LIMIT) (n / 2) c.args.values.now c.requires.values in
    let low = All-sums FOLDED_LIMIT n (n / 2) c.split_at-2.result.0.now c.split_at-2.result.1.now c.add_values.new.into halves.1 (omega arith) (omega arith) (rw (← values.front) at few) (rw (← values.back) at few') c.add_values.ensures in
    let total = sum-sums c.split_at.result.0.now c.split_at.result.1.now c.add_masses.new.into (omega arith) (omega arith) c.add_masses.ensures in
    within_limit c.add_masses.new.into c.add_values.new.into c.fold-3.new.into (omega arith) (omega arith) c.fold-3.ensures.coefficients FOLDED_LIMIT (omega arith)
    (omega (arith, total, sum-halves (n / 2) c.args.kernel.now _ _ kernel.front kernel.back)) (All-unscaled FOLDED_LIMIT (n / 2) c.add_values.new.into (omega arith) low)

pub returns-clause-count : goal.returns-clause-count
returns-clause-count g t c = λ r power.
    let n = length c.args.kernel.now in
    let halves = half_is_block n c.requires.block c.if-length-le-PLAIN_LENGTH.false in
    let count = count_folded n r power c.if-length-le-PLAIN_LENGTH.false in
    let first = c.fold.ensures.count count.0 (c.split_at.ensures.front_len ∙ count.1) in
    let second = c.fold-2.ensures.count count.0 (omega arith) in
    let third = c.fold-3.ensures.count count.0 (omega arith) in
    omega arith

pub returns-clause-coefficients : goal.returns-clause-coefficients
returns-clause-coefficients g t c =
    let n = length c.args.kernel.now in
    let halves = half_is_block n c.requires.block c.if-length-le-PLAIN_LENGTH.false in
    let kernel = c.split_at.ensures in
    let values = c.split_at-2.ensures in
    let halved = IsHalved-from_parts (n / 2) c.args.kernel.now c.args.values.now _ _ _ _ c.add_masses.new.into c.add_values.new.into c.fold.new.into c.fold-2.new.into c.fold-3.new.into (omega arith) (omega arith)
    kernel.front kernel.back values.front values.back (omega arith) (omega arith) c.add_masses.ensures c.add_values.ensures (omega arith) (omega arith) (omega arith)
    c.fold.ensures.coefficients c.fold-2.ensures.coefficients c.fold-3.ensures.coefficients in
    let adds : AddsMiddle (n / 2) c.fold-3.new.into c.fold.new.into c.fold-2.new.into c.add_middle.new.low c.add_middle.new.high = record {
      low_long = omega arith;
      high_long = omega arith;
      first = c.add_middle.ensures.first;
      second = c.add_middle.ensures.second;
      third = c.add_middle.ensures.third;
      fourth = c.add_middle.ensures.fourth;
    } in
    joined_is _ _ _ _ _ _ _ _ _ _ halved adds
