-- The plan of a network that is made: its answer, its policy, and what is written of it.
use Rattle.std.specs.Prelude.{◌≡◌, ℕ, List, ◌++◌, length, Option, Some, None, Result, Ok, Err}
use Rattle.std.specs.Prelude.{codes, decimal}
use Rattle.sota_network.specs.Network.{Net}
use Rattle.sota_network.specs.Grid.{lo}
use Rattle.sota_polfile.specs.Table.{Table, IsTable, cells}
use Rattle.sota_polfile.specs.Spelling.{file_len}
use Rattle.sota_check.specs.Certified.{IsCertified, value}
use Rattle.sota_make.specs.Made.{made}
use Rattle.sota_session.specs.Asks.{ask_fault, answer_of}
use Rattle.sota_session.specs.Plans.{plan_table}
use Rattle.sota_session.specs.declared.ask.Ask.{Ask}
use Rattle.sota_bounds.specs.declared.fault.AskFault.{AskFault}
use Rattle.sota_script.specs.declared.command.Ask3.{Ask3}
use Rattle.sota_app.specs.declared.showing.Plan.{Plan}
use Rattle.sota_app.specs.declared.words.MakeWords.{MakeWords}

-- the network of a request's numbers, and the ask from its first node to its last one
abbrev pub net_made : MakeWords → Net
net_made make = made make.seed make.nodes make.arcs make.span

abbrev pub ask_made : MakeWords → Ask3
ask_made make = record { origin = 1; dest = make.nodes; budget = make.budget }

-- 'made N M CELLS BYTES': the nodes and the arcs, and the entries and the bytes of the policy file
abbrev pub made_line : Net → Table → List ℕ
made_line net table =
    codes "made " ++ decimal net.nodes ++ codes " " ++ decimal (length net.arcs) ++ codes " "
    ++ decimal (cells table) ++ codes " " ++ decimal (file_len table) ++ codes "\n"

-- the answer of an ask and its policy, unless it is refused for this
abbrev pub unless_fault : Option AskFault → Plan → Result Plan AskFault
unless_fault (Some fault) plan = Err fault
unless_fault None plan = Ok plan

abbrev pub plan_result : Net → Ask → Result Plan AskFault
plan_result net ask = unless_fault (ask_fault net ask)
    (record { answer = answer_of net ask; table = plan_table net ask })

-- the policy of an ask is a table that holds on the network, and names the ask's lower bound
pub record PlanHolds (net : Net) (ask : Ask) : Type 0 where
  pub table : IsTable (plan_table net ask)
  pub holds : IsCertified net (plan_table net ask)
  pub bound : value (plan_table net ask) ask.origin ask.budget
      ≡ lo net ask.dest ask.origin ask.budget

-- so it is with each ask that is not refused
abbrev pub HoldsUnlessRefused : Net → Ask → Type 0
HoldsUnlessRefused net ask = ask_fault net ask ≡ None → PlanHolds net ask
