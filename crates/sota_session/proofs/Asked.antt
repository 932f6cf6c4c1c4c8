-- What an ask leaves of a session, where the session is seen as the record of its parts.
use Rattle.std.proofs.Common.{ℕ, ◌≡◌, ◌+◌, Result, OnErr, subst, inl, inr}
use Rattle.sota_kept.specs.TableLists.{TableLists, state_of}
use Rattle.sota_session.specs.declared.ask.Ask.{Ask}
use Rattle.sota_bounds.specs.declared.fault.AskFault.{AskFault}
use Rattle.sota_session.specs.State.{SessionState, kept_state, state_after, pushes_for, IsLeft, MayLeave}
use Rattle.sota_session.proofs.Results.{on-err}

pub state-seen : {parts seen : SessionState} → parts ≡ seen → (ask : Ask) (new : TableLists)
    → state_of new ≡ state_after parts.network ask (kept_state parts)
    → state_of new ≡ state_after seen.network ask (kept_state seen)
state-seen same ask new state =
    subst (λ (s : SessionState). state_of new ≡ state_after s.network ask (kept_state s)) same state

pub count-seen : {parts seen : SessionState} → parts ≡ seen → (ask : Ask) (before after : ℕ)
    → after ≡ before + pushes_for parts.network ask (kept_state parts)
    → after ≡ before + pushes_for seen.network ask (kept_state seen)
count-seen same ask before after count =
    subst (λ (s : SessionState). after ≡ before + pushes_for s.network ask (kept_state s)) same count

pub left-seen : {parts seen : SessionState} → parts ≡ seen → (ask : Ask) (new : TableLists)
    → IsLeft parts.network ask parts.tables new → IsLeft seen.network ask seen.tables new
left-seen same ask new left =
    subst (λ (s : SessionState). IsLeft s.network ask s.tables new) same left

-- memory was wanted before the ask was planned
pub left-before : {A : Type 0} {parts seen : SessionState} (result : Result A AskFault)
    → parts ≡ seen → (ask : Ask) (new : TableLists) (before after : ℕ)
    → IsLeft parts.network ask parts.tables new → after ≡ before
    → OnErr result (MayLeave seen.network ask seen.tables new before after)
left-before {seen = seen} result same ask new before after left count =
    on-err result (MayLeave seen.network ask seen.tables new before after)
    (inl (left-seen same ask new left, count))

-- or after it was
pub left-after : {A : Type 0} {parts seen : SessionState} (result : Result A AskFault)
    → parts ≡ seen → (ask : Ask) (new : TableLists) (before after : ℕ)
    → state_of new ≡ state_after parts.network ask (kept_state parts)
    → after ≡ before + pushes_for parts.network ask (kept_state parts)
    → OnErr result (MayLeave seen.network ask seen.tables new before after)
left-after {seen = seen} result same ask new before after state count =
    on-err result (MayLeave seen.network ask seen.tables new before after)
    (inr (state-seen same ask new state, count-seen same ask before after count))
