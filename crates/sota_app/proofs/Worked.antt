-- The pushes of lines that are played one after the other.
use Rattle.std.proofs.Common.{ℕ, ◌≡◌, ◌+◌, List, ◌∷◌, refl, sym, ◌∙◌, ap, arith}
use Rattle.std.proofs.Common.{Bool, true, false, Option, None, Some, Result, Ok, Err, OnOk}
use Rattle.sota_units.specs.Memory.{Unless}
use Rattle.sota_network.specs.Network.{Net}
use Rattle.sota_kept.specs.States.{State}
use Rattle.sota_session.specs.Asks.{ask_fault}
use Rattle.sota_session.specs.State.{state_after, pushes_for}
use Rattle.sota_session.specs.declared.ask.Ask.{Ask}
use Rattle.sota_bounds.specs.declared.fault.AskFault.{AskFault}
use Rattle.sota_app.specs.Script.{ScriptLine, step}
use Rattle.sota_app.specs.Shown.{plan_result, unless_fault}
use Rattle.sota_app.specs.Work.{IsSpent, line_effort, work, pushes_unless}
use Rattle.sota_app.specs.declared.showing.Plan.{Plan}
use Rattle.sota_app.specs.declared.status.Status.{Status}
use Rattle.sota_app.specs.declared.stop.Stop.{Stop}
use Rattle.sota_app.specs.declared.stop.Stop.TheVariants as stops

-- one line more is played: what was pushed and what is left to push are together the same
pub line_worked : (net next : Net) (line : ScriptLine) (rest : List ScriptLine) (kept now : State)
    (all old new : ℕ) → all ≡ old + work net (line ∷ rest) kept
    → IsSpent (line_effort net line kept) old new now → next ≡ (step net line).next
    → all ≡ new + work next rest now
line_worked net next line rest kept now all old new total spent is =
    let left : work next rest now ≡ work (step net line).next rest (line_effort net line kept).kept =
    ap (λ (net : Net). work net rest now) is ∙ ap (λ (kept : State). work (step net line).next rest kept) spent.kept_is in
    omega (arith, total, spent.pushes, left)

-- an ask, and then its policy on the same network, which pushes nothing more
pub shown_count : (net now : Net) (ask : Ask) (kept after : State) (old mid new : ℕ)
    → mid ≡ old + pushes_for net ask kept → now ≡ net → after ≡ state_after net ask kept
    → new ≡ mid + pushes_for now ask after → pushes_for net ask (state_after net ask kept) ≡ 0
    → new ≡ old + pushes_for net ask kept
shown_count net now ask kept after old mid new first same left second none =
    let more : pushes_for now ask after ≡ pushes_for net ask (state_after net ask kept) =
    ap (λ (net : Net). pushes_for net ask after) same ∙ ap (λ (kept : State). pushes_for net ask kept) left in
    omega (arith, first, second, more, none)

refused_none : (found : Option AskFault) (plan : Plan) (fault : AskFault) (more : ℕ)
    → unless_fault found plan ≡ Err fault → pushes_unless found more ≡ 0
refused_none None plan fault more e = absurd (cc)
refused_none (Some found) plan fault more e = refl

-- an ask that is refused pushes nothing, unless memory was wanted
pub refused_count : (net : Net) (ask : Ask) (fault : AskFault) (short : Bool)
    (result : Result Status Stop) (old new more : ℕ)
    → Unless short (plan_result net ask ≡ Err fault) → Unless short (new ≡ old)
    → (short ≡ true → result ≡ Err stops.NoMemory)
    → OnOk result (new ≡ old + pushes_unless (ask_fault net ask) more)
refused_count net ask fault true result old new more answers same gone = rw (gone refl) tt
refused_count net ask fault false (Err stop) old new more answers same gone = tt
refused_count net ask fault false (Ok status) old new more answers same gone =
    let none : pushes_unless (ask_fault net ask) more ≡ 0 = refused_none (ask_fault net ask) _ fault more answers in
    omega (arith, none, same)

accepted_all : (found : Option AskFault) (given plan : Plan) (more : ℕ)
    → unless_fault found given ≡ Ok plan → pushes_unless found more ≡ more
accepted_all None given plan more e = refl
accepted_all (Some fault) given plan more e = absurd (cc)

-- an ask with a plan is not refused
pub not_refused : (fault : Option AskFault) (plan made : Plan) → unless_fault fault plan ≡ Ok made
    → fault ≡ None
not_refused (Some fault) plan made e = cc
not_refused None plan made e = refl

-- and one that is not refused pushes what it is said to
pub shown_all : (net : Net) (ask : Ask) (plan : Plan) (result : Result Status Stop)
    (old new more : ℕ) → plan_result net ask ≡ Ok plan → new ≡ old + more
    → OnOk result (new ≡ old + pushes_unless (ask_fault net ask) more)
shown_all net ask plan (Err stop) old new more answers made = tt
shown_all net ask plan (Ok status) old new more answers made =
    made ∙ ap (λ (n : ℕ). old + n) (sym (accepted_all (ask_fault net ask) _ plan more answers))

-- the same of a session that was just opened
pub shown_first : (net now : Net) (ask given : Ask) (kept first : State) (old new all : ℕ)
    → new ≡ old + pushes_for now given kept → now ≡ net → given ≡ ask → kept ≡ first
    → pushes_for net ask first ≡ all → new ≡ old + all
shown_first net now ask given kept first old new all count same is state cells =
    count ∙ ap (λ (net : Net). old + pushes_for net given kept) same
    ∙ ap (λ (ask : Ask). old + pushes_for net ask kept) is
    ∙ ap (λ (kept : State). old + pushes_for net ask kept) state
    ∙ ap (λ (n : ℕ). old + n) cells
