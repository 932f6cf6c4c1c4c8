-- A policy that was judged: where all is done, it was accepted.
use Rattle.std.proofs.Common.{◌≡◌, ℕ, zero, suc, List, Option, Some, None, Ok}
use Rattle.std.proofs.Common.{refl, ap, ◌∙◌, subst, append-nil, arith}
use Rattle.rand_pcg.specs.Lcg.{Lcg}
use Rattle.sota_edge.specs.Desk.{Files, DeskState}
use Rattle.sota_edge.specs.Sink.{SinkState, Wrote}
use Rattle.sota_network.specs.Network.{Net}
use Rattle.sota_polfile.specs.Table.{Table}
use Rattle.sota_polfile.specs.Bracket.{Bracket}
use Rattle.sota_check.specs.Rejected.{rejection}
use Rattle.sota_check.specs.BracketRejected.{bracket_rejection}
use Rattle.sota_replay.specs.Trip.{trip}
use Rattle.sota_replay.specs.Tally.{tallied, trip_count, trips, tally_after}
use Rattle.sota_replay.specs.declared.ending.Ending.{Ending}
use Rattle.sota_replay.specs.declared.ending.Ending.TheVariants as endings
use Rattle.sota_replay.specs.declared.tally.Tally.{Tally}
use Rattle.sota_app.specs.Outputs.{only_line}
use Rattle.sota_app.specs.Verdicts.{named, accepted_line, verdict_line, trips_line, replay_line}
use Rattle.sota_app.specs.Verdicts.{bracket_named, enclosed_line, bracket_verdict_line}
use Rattle.sota_app.specs.Verdicts.{verdict_status}
use Rattle.sota_app.specs.Outcome.{Outcome, outcome_of, judge, judge_bracket, replay, Work}
use Rattle.sota_app.specs.Outcome.{work_outcome}
use Rattle.sota_app.specs.declared.words.Trips.{Trips}
use Rattle.sota_app.specs.Causes.{Delivered}
use Rattle.sota_app.specs.declared.words.Request.{Request}
use Rattle.sota_app.specs.declared.status.Status.{Status}
use Rattle.sota_app.specs.declared.status.Status.TheVariants.{Done}
use Rattle.sota_app.proofs.Answered.{Means, work_done}

-- nothing was found for which it is rejected, and this line was written
pub record IsPassed {A : Type 0} (found : Option A) (line : List ℕ) (s t : SinkState)
    : Type 0 where
  pub none : found ≡ None
  pub written : Wrote line s t

-- where the line is that of the cause for which it is rejected, if there is one
by_cause : {A : Type 0} (line_of : Option A → List ℕ) (found cause : Option A)
    (d e : DeskState) (s t : SinkState) → found ≡ cause
    → Delivered (record {
      outputs = only_line (line_of cause);
      status = verdict_status cause;
    }) Done d e s t
    → IsPassed found (line_of None) s t
by_cause line_of found None d e s t is all = record {
  none = is;
  written = subst (λ text. Wrote text s t) (append-nil (line_of None)) all.made.text;
}
by_cause line_of found (Some cause) d e s t is all =
    absurd (let done = all.status_is in cc)

pub delivered : (o : Option Request) (files : Files) (work : Work) (status : Status)
    (d e : DeskState) (s t : SinkState) → Means o files work
    → Delivered (outcome_of o files) status d e s t
    → Delivered (work_outcome (Ok work)) status d e s t
delivered o files work status d e s t means all =
    subst (λ (outcome : Outcome). Delivered outcome status d e s t)
    (work_done o files work means) all

pub judged_done : (net : Net) (table : Table) (o : Option Request) (files : Files)
    (d e : DeskState) (s t : SinkState) → Means o files (record { net = net; job = judge table })
    → Delivered (outcome_of o files) Done d e s t
    → IsPassed (rejection net table) (accepted_line (named table)) s t
judged_done net table o files d e s t means all =
    by_cause (verdict_line table) (rejection net table) _ d e s t refl
    (delivered o files _ Done d e s t means all)

pub bracket_done : (net : Net) (table : Bracket) (o : Option Request) (files : Files)
    (d e : DeskState) (s t : SinkState)
    → Means o files (record { net = net; job = judge_bracket table })
    → Delivered (outcome_of o files) Done d e s t
    → IsPassed (bracket_rejection net table) (enclosed_line (bracket_named table)) s t
bracket_done net table o files d e s t means all =
    by_cause (bracket_verdict_line table) (bracket_rejection net table) _ d e s t refl
    (delivered o files _ Done d e s t means all)

abbrev pub tally_line : Net → Table → Trips → List ℕ
tally_line net table trips =
    trips_line trips.count (tally_after net table trips.count trips.seed)

pub replayed_done : (net : Net) (table : Table) (trips : Trips) (o : Option Request)
    (files : Files) (d e : DeskState) (s t : SinkState)
    → Means o files (record { net = net; job = replay table trips })
    → Delivered (outcome_of o files) Done d e s t
    → IsPassed (rejection net table) (tally_line net table trips) s t
replayed_done net table trips o files d e s t means all =
    by_cause (replay_line net table trips) (rejection net table) _ d e s t refl
    (delivered o files _ Done d e s t means all)

-- ---- each trip is counted once

counted_once : (ending : Ending) (tally : Tally)
    → trip_count (tallied ending tally) ≡ suc (trip_count tally)
counted_once (endings.Arrived spent) tally = omega arith
counted_once endings.Late tally = omega arith
counted_once endings.NoChoice tally = omega arith
counted_once endings.Lost tally = omega arith

pub all_counted : (net : Net) (table : Table) (count : ℕ) (words : Lcg)
    → trip_count (trips net table count words).0 ≡ count
unfolding trips
all_counted net table zero words = refl
all_counted net table (suc count) words =
    counted_once (trip net table (trips net table count words).1).0
    (trips net table count words).0
    ∙ ap suc (all_counted net table count words)
