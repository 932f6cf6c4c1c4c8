-- The verdict on a policy, the tally of trips that follow it, and their lines.
use Rattle.std.specs.Prelude.{ℕ, List, [], ◌++◌, Option, None, Some, codes, decimal}
use Rattle.sota_units.specs.GrainText.{grain_spelling}
use Rattle.sota_network.specs.Network.{Net}
use Rattle.sota_polfile.specs.Table.{Table}
use Rattle.sota_polfile.specs.Bracket.{Bracket}
use Rattle.sota_check.specs.Certified.{value}
use Rattle.sota_check.specs.Bracketed.{lower, upper}
use Rattle.sota_check.specs.Words.{cause_word, cause_entry}
use Rattle.sota_check.specs.Words.{bracket_word, bracket_node, bracket_budget}
use Rattle.sota_check.specs.declared.verdict.Certified.{Certified}
use Rattle.sota_check.specs.declared.verdict.Rejection.{Rejection}
use Rattle.sota_check.specs.declared.bracket_verdict.Bracketed.{Bracketed}
use Rattle.sota_check.specs.declared.bracket_verdict.BracketRejection.{BracketRejection}
use Rattle.sota_replay.specs.Tally.{tally_after}
use Rattle.sota_replay.specs.declared.tally.Tally.{Tally}
use Rattle.sota_app.specs.Replies.{count_text}
use Rattle.sota_app.specs.declared.words.Trips.{Trips}
use Rattle.sota_app.specs.declared.status.Status.{Status}
use Rattle.sota_app.specs.declared.status.Status.TheVariants.{Done, SomeRefused}

-- 'accepted O D T LOWER'
abbrev pub accepted_line : Certified → List ℕ
accepted_line certified =
    codes "accepted " ++ decimal certified.origin ++ codes " " ++ decimal certified.dest
    ++ codes " " ++ decimal certified.budget ++ codes " " ++ grain_spelling certified.lower
    ++ codes "\n"

-- the node and the budget of an entry
abbrev pub entry_text : Option (ℕ × ℕ) → List ℕ
entry_text None = []
entry_text (Some entry) = codes " " ++ decimal entry.0 ++ codes " " ++ decimal entry.1

-- 'enclosed O D T LOWER UPPER'
abbrev pub enclosed_line : Bracketed → List ℕ
enclosed_line bracketed =
    codes "enclosed " ++ decimal bracketed.origin ++ codes " " ++ decimal bracketed.dest
    ++ codes " " ++ decimal bracketed.budget ++ codes " " ++ grain_spelling bracketed.lower
    ++ codes " " ++ grain_spelling bracketed.upper ++ codes "\n"

-- 'rejected CAUSE', with the node and the budget where the cause is of an entry
abbrev pub rejected_line : Rejection → List ℕ
rejected_line cause =
    codes "rejected " ++ cause_word cause ++ entry_text (cause_entry cause) ++ codes "\n"

-- the same of a bracket, where a cause of a node has that alone
abbrev pub bracket_rejected_line : BracketRejection → List ℕ
bracket_rejected_line cause =
    codes "rejected " ++ bracket_word cause ++ count_text (bracket_node cause)
    ++ count_text (bracket_budget cause) ++ codes "\n"

-- what a policy names: its ask, and the value that it claims
abbrev pub named : Table → Certified
named table = record {
  origin = table.head.origin;
  dest = table.head.dest;
  budget = table.head.budget;
  lower = value table table.head.origin table.head.budget;
}

-- by the cause for which the policy is rejected, where there is one
abbrev pub verdict_line : Table → Option Rejection → List ℕ
verdict_line table None = accepted_line (named table)
verdict_line table (Some cause) = rejected_line cause

-- what a bracket names: its ask, and the two bounds that it claims
abbrev pub bracket_named : Bracket → Bracketed
bracket_named table = record {
  origin = table.head.origin;
  dest = table.head.dest;
  budget = table.head.budget;
  lower = lower table table.head.origin table.head.budget;
  upper = upper table table.head.origin table.head.budget;
}

abbrev pub bracket_verdict_line : Bracket → Option BracketRejection → List ℕ
bracket_verdict_line table None = enclosed_line (bracket_named table)
bracket_verdict_line table (Some cause) = bracket_rejected_line cause

-- 'trips N arrived A late B stuck C lost E'
abbrev pub trips_line : ℕ → Tally → List ℕ
trips_line count tally =
    codes "trips " ++ decimal count ++ codes " arrived " ++ decimal tally.arrived
    ++ codes " late " ++ decimal tally.late ++ codes " stuck " ++ decimal tally.stuck
    ++ codes " lost " ++ decimal tally.lost ++ codes "\n"

-- the tally of trips that follow a policy, unless it is rejected
abbrev pub replay_line : Net → Table → Trips → Option Rejection → List ℕ
replay_line net table trips None =
    trips_line trips.count (tally_after net table trips.count trips.seed)
replay_line net table trips (Some cause) = rejected_line cause

abbrev pub verdict_status : {A : Type 0} → Option A → Status
verdict_status None = Done
verdict_status (Some cause) = SomeRefused
