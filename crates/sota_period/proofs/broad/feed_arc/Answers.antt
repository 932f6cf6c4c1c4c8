use Rattle.std.proofs.Common.{ℕ, ◌≡◌, ◌+◌, ◌-◌, ◌≤◌, Some, length, slice_index, sym, ◌∙◌, ap, subst, arith, List}
use Rattle.std.proofs.Math.ListN.{set}
use Rattle.std.proofs.lemmas.List.{set-get_or}
use Rattle.std.specs.Box.{with_value}
use Rattle.sota_online.specs.Summer.{SummerState}
use Rattle.sota_period.specs.Rows.{timed_row}
use Rattle.sota_period.specs.Broad.{AllFedRows, AreSame, SummerList, state_at, IsFedArc}
use Rattle.sota_period.proofs.Feeding.{IsFedOn, IsFedThere, fed-there, state-read, same-none}
use Rattle.sota_period.proofs.broad.feed_arc.Given as given
use Rattle.sota_period.proofs.broad.feed_arc.Goals as goal
use Rattle.sota_period.proofs.broad.feed_arc.Goals.{In-Some, After-deref_mut, After-feed_row}

-- the summer that stands there
found : (g : given.Over) (c : In-Some g) → state_at g.Z.Summer.state c.args.broad.now c.args.number ≡ Some (g.Z.Summer.state c.in-Some.summer.value)
found g c = state-read g.Z.Summer.state c.args.broad.now c.args.number c.get.result _ c.index-broad-get.result c.in-Some.summer c.get.ensures c.requires.number c.requires.broad c.in-Some.is

-- is lent
borrowed : (g : given.Over) (c : After-deref_mut g) → g.Z.Summer.state c.deref_mut.result.now ≡ g.Z.Summer.state c.in-Some.summer.value
borrowed g c = ap g.Z.Summer.state c.deref_mut.ensures.value

-- and was fed on
there : (g : given.Over) (c : After-feed_row g) → g.Z.Summer.state c.deref_mut.result.now ≡ g.Z.Summer.state c.in-Some.summer.value
    → state_at g.Z.Summer.state c.args.broad.now c.args.number ≡ Some (g.Z.Summer.state c.in-Some.summer.value)
    → IsFedThere c.args.rows.now c.args.network.now c.args.number (state_at g.Z.Summer.state c.args.broad.now)
    (state_at g.Z.Summer.state (set c.args.broad.now (c.get.result - 1) (Some (with_value c.in-Some.summer c.feed_row.new.summer))))
there g c one is =
    let known : ℕ = c.known_of-known.result in
    let lent : IsFedOn (λ a. slice_index c.row_of-row.result.now a) known (g.Z.Summer.state c.deref_mut.result.now) (g.Z.Summer.state c.feed_row.new.summer) = record {
      fed = λ time f start agree.
          c.feed_row.ensures.fed time 0 f start (λ a less. let place : 0 + a ≡ a = omega arith in ap (λ (n : ℕ). slice_index c.row_of-row.result.now n) place ∙ agree a less ∙ ap f (sym place));
      count = c.feed_row.ensures.count;
      same = c.feed_row.ensures.same;
    } in
    let on : IsFedOn (λ a. slice_index (timed_row c.args.rows.now c.numbered.result.now.head) a) known (g.Z.Summer.state c.in-Some.summer.value) (g.Z.Summer.state c.feed_row.new.summer) =
    subst (λ (xs : List ℕ). IsFedOn (λ a. slice_index xs a) known (g.Z.Summer.state c.in-Some.summer.value) (g.Z.Summer.state c.feed_row.new.summer)) c.row_of-row.ensures
    (subst (λ (s : SummerState). IsFedOn (λ a. slice_index c.row_of-row.result.now a) known s (g.Z.Summer.state c.feed_row.new.summer)) one lent) in
    fed-there g.Z.Summer.state c.args.rows.now c.args.network.now c.args.broad.now c.args.number c.get.result c.in-Some.summer (with_value c.in-Some.summer c.feed_row.new.summer) c.numbered.result.now c.known_of-known.result
    c.get.ensures c.requires.number c.requires.broad c.numbered.ensures.value is c.known_of-known.ensures.value on c.requires.fed

pub feed_row-requires-clause-room : goal.feed_row-requires-clause-room
feed_row-requires-clause-room g c =
    let at = goal.at.feed_row-requires-clause-room g c in
    let was : IsFedArc c.args.rows.now c.numbered.result.now (g.Z.Summer.state c.in-Some.summer.value) = c.requires.fed c.args.number c.numbered.result.now (g.Z.Summer.state c.in-Some.summer.value) c.numbered.ensures.value (found g at.In-Some) in
    subst (λ (s : SummerState). c.known_of-known.result ≤ length s.values + s.room) (sym (borrowed g at.After-deref_mut)) (omega (arith, was.total, c.known_of-known.ensures.within))

pub feed_row-requires-clause-work : goal.feed_row-requires-clause-work
feed_row-requires-clause-work g c =
    let at = goal.at.feed_row-requires-clause-work g c in
    subst (λ (s : SummerState). length s.kernel ≤ c.args.workspace.now) (sym (borrowed g at.After-deref_mut)) (c.requires.work c.numbered.result.now (g.Z.Summer.state c.in-Some.summer.value) c.numbered.ensures.value (found g at.In-Some))

pub returns-in-Some-clause-fed : goal.returns-in-Some-clause-fed
returns-in-Some-clause-fed g c =
    let at = goal.at.returns-in-Some-clause-fed g c in
    (there g at.After-feed_row (borrowed g at.After-deref_mut) (found g at.In-Some)).fed

pub returns-in-Some-clause-same : goal.returns-in-Some-clause-same
returns-in-Some-clause-same g c =
    let at = goal.at.returns-in-Some-clause-same g c in
    (there g at.After-feed_row (borrowed g at.After-deref_mut) (found g at.In-Some)).same

pub returns-in-Some-clause-reach : goal.returns-in-Some-clause-reach
returns-in-Some-clause-reach g c =
    let at = goal.at.returns-in-Some-clause-reach g c in
    (there g at.After-feed_row (borrowed g at.After-deref_mut) (found g at.In-Some)).reach

pub returns-in_default-clause-same : goal.returns-in_default-clause-same
returns-in_default-clause-same g c =
    subst (λ (xs : SummerList g.row.Z.Denot). AreSame (state_at g.Z.Summer.state c.args.broad.now) (state_at g.Z.Summer.state xs)) (sym (set-get_or c.args.broad.now (c.get.result - 1) c.index-broad-get.result)) (same-none (state_at g.Z.Summer.state c.args.broad.now))

pub returns-in_default-clause-fed : goal.returns-in_default-clause-fed
returns-in_default-clause-fed g c =
    subst (λ (xs : SummerList g.row.Z.Denot). AllFedRows c.args.rows.now c.args.network.now (state_at g.Z.Summer.state xs)) (sym (set-get_or c.args.broad.now (c.get.result - 1) c.index-broad-get.result)) c.requires.fed
