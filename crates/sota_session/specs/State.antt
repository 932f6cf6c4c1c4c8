-- What a session is, as contracts see it, and what asks and edits make of it.
use Rattle.std.specs.Prelude.{ℕ, ◌≡◌, ◌+◌, ◌*◌, ◌⊎◌, List, Option, None, Some}
use Rattle.sota_hist.specs.Time.{first_difference}
use Rattle.sota_network.specs.Network.{Net, arc_at}
use Rattle.sota_network.specs.declared.network.Arc.{Arc}
use Rattle.sota_kept.specs.States.{State, after_ask, after_edit, missing, prepared_state}
use Rattle.sota_kept.specs.TableLists.{TableLists, state_of}
use Rattle.sota_session.specs.declared.ask.Ask.{Ask}

-- the network as it is now, and what is kept of its grid
pub record SessionState : Type 0 where
  pub network : Net
  pub tables : TableLists

-- the destination, and how far each node is kept
abbrev pub kept_state : SessionState → State
kept_state session = state_of session.tables

-- ---- an ask
-- how far each node is kept after it
abbrev pub state_after : Net → Ask → State → State
state_after net ask state = after_ask net ask.origin ask.dest ask.budget state

-- three pushes for each entry that it adds
abbrev pub pushes_for : Net → Ask → State → ℕ
pushes_for net ask state = 3 * missing net ask.origin ask.dest ask.budget state

-- an ask that found no memory leaves what was kept, or has taken its first three steps, which add
-- no entry
abbrev pub IsLeft : Net → Ask → TableLists → TableLists → Type 0
IsLeft net ask old new =
    (new ≡ old)
    ⊎ (state_of new ≡ prepared_state net ask.origin ask.dest ask.budget (state_of old))

-- a call that reads more of the tables once the ask is planned may find no memory before or after
-- that
abbrev pub MayLeave : Net → Ask → TableLists → TableLists → ℕ → ℕ → Type 0
MayLeave net ask old new before after =
    (IsLeft net ask old new × (after ≡ before))
    ⊎ ((state_of new ≡ state_after net ask (state_of old))
    × (after ≡ before + pushes_for net ask (state_of old)))

-- ---- an edit
-- an arc gets another time. From its first affected budget on no entry of a node is kept, and none
-- is lost where the two times are equal
abbrev pub changed_state : Net → Arc → Option ℕ → State → State
changed_state net arc None state = state
changed_state net arc (Some first) state = after_edit net arc first state

abbrev pub edited_state : Net → Option Arc → List (ℕ × ℕ) → State → State
edited_state net None time state = state
edited_state net (Some arc) time state =
    changed_state net arc (first_difference arc.time time) state

abbrev pub state_edited : Net → ℕ → List (ℕ × ℕ) → State → State
state_edited net number time state = edited_state net (arc_at net number) time state
