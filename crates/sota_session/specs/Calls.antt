-- What a call that plans for an ask answers and leaves, whatever it makes of what was planned.
use Rattle.std.specs.Prelude.{ℕ, ◌≡◌, ◌+◌, None, Result, Err, OnErr, OnOk}
use Rattle.sota_units.specs.Memory.{Unless}
use Rattle.sota_network.specs.Network.{IsNet}
use Rattle.sota_kept.specs.TableLists.{IsKept, IsSettled}
use Rattle.sota_bounds.specs.AskFaults.{range_refusal, size_refusal, is_shortage}
use Rattle.sota_bounds.specs.declared.fault.AskFault.{AskFault}
use Rattle.sota_bounds.specs.declared.fault.AskFault.TheVariants.{NoMemory}
use Rattle.sota_session.specs.Asks.{IsInRange}
use Rattle.sota_session.specs.Answers.{is_of_range, is_of_size, is_refused, refusal_of}
use Rattle.sota_session.specs.State.{SessionState, kept_state, state_after, pushes_for, MayLeave}
use Rattle.sota_session.specs.declared.ask.Ask.{Ask}

-- it is refused for what the ask says or for want of memory, and the network stays as it is. Where
-- it is not refused the state and the pushes are those after the ask. Want of memory may leave the
-- first steps of the ask taken, or all of them; after any other refusal all is unchanged
pub record IsAsked {A : Type 0} (ask : Ask) (old new : SessionState) (before after : ℕ)
    (result : Result A AskFault) : Type 0 where
  pub range : refusal_of is_of_range result
      ≡ range_refusal old.network ask.origin ask.dest ask.budget
  pub size : range_refusal old.network ask.origin ask.dest ask.budget ≡ None
      → Unless (is_refused is_shortage result) (refusal_of is_of_size result
      ≡ size_refusal old.network ask.origin ask.dest ask.budget)
  pub memory : result ≡ Err NoMemory → IsInRange old.network ask
  pub kept : new.network ≡ old.network
  pub state : OnOk result (kept_state new ≡ state_after old.network ask (kept_state old))
  pub settled : OnOk result (IsSettled new.tables new.network)
  pub count : OnOk result (after ≡ before + pushes_for old.network ask (kept_state old))
  pub unchanged : OnErr result
      (Unless (is_refused is_shortage result) ((new ≡ old) × (after ≡ before)))
  pub left : OnErr result (MayLeave old.network ask old.tables new.tables before after)
  pub right : IsKept new.tables new.network
  pub valid : IsNet new.network
