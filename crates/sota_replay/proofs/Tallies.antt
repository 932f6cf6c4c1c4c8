-- Tallies, trip by trip.
use Rattle.std.proofs.Common.{ℕ, ◌≡◌, ◌+◌, ◌∙◌, ap, arith, add-one}
use Rattle.rand_pcg.specs.Lcg.{Lcg}
use Rattle.sota_network.specs.Network.{Net}
use Rattle.sota_polfile.specs.Table.{Table}
use Rattle.sota_replay.specs.declared.ending.Ending.{Ending}
use Rattle.sota_replay.specs.declared.ending.Ending.TheVariants.{Arrived, Late, NoChoice, Lost}
use Rattle.sota_replay.specs.declared.tally.Tally.{Tally}
use Rattle.sota_replay.specs.Trip.{trip}
use Rattle.sota_replay.specs.Tally.{no_trips, tallied, trip_count, trips}

pub no-trips : (t : Tally) → (t.arrived ≡ 0) × ((t.late ≡ 0) × ((t.stuck ≡ 0) × (t.lost ≡ 0))) → t ≡ no_trips
no-trips t h =
    let of : ℕ → ℕ → ℕ → ℕ → Tally = λ a l s m. record { arrived = a; late = l; stuck = s; lost = m } in
    let same : of t.arrived t.late t.stuck t.lost ≡ of 0 0 0 0 = cc in
    same

pub trips-none : (net : Net) (table : Table) (tally : Tally) (words : Lcg) → tally ≡ no_trips → (tally, words) ≡ trips net table 0 words
unfolding trips
trips-none net table tally words none = ap (λ (t : Tally). (t, words)) none

-- the trip that begins where the others ended is counted with them
pub trips-more : (net : Net) (table : Table) (count : ℕ) (words : Lcg) (tally : Tally) (rest : Lcg) (ending : Ending) (after : Lcg)
    → (tally, rest) ≡ trips net table count words → (ending, after) ≡ trip net table rest → (tallied ending tally, after) ≡ trips net table (count + 1) words
unfolding trips
trips-more net table count words tally rest ending after before last =
    let more : Tally × Lcg → Tally × Lcg = λ b. let l = trip net table b.1 in (tallied l.0 b.0, l.1) in
    rw (add-one count) (ap (λ (l : Ending × Lcg). (tallied l.0 tally, l.1)) last ∙ ap more before)

pub count-more : (ending : Ending) (tally : Tally) → trip_count (tallied ending tally) ≡ trip_count tally + 1
count-more (Arrived spent) tally = omega arith
count-more Late tally = omega arith
count-more NoChoice tally = omega arith
count-more Lost tally = omega arith
