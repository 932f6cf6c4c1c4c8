-- Inputs that are not accepted, and their lines.
use Rattle.std.specs.Prelude.{ℕ, List, ◌++◌, codes, decimal}
use Rattle.sota_units.specs.Limits.{TEXT_LIMIT}
use Rattle.sota_dimacs.specs.Words as graphs
use Rattle.sota_histcsv.specs.Words as hists
use Rattle.sota_polfile.specs.Limits.{POLICY_LIMIT}
use Rattle.sota_polfile.specs.Words as policies
use Rattle.sota_report.specs.Words as names
use Rattle.sota_app.specs.declared.input.Input.{Input}
use Rattle.sota_app.specs.declared.input.Input.TheVariants as inputs
use Rattle.sota_app.specs.declared.input.InputFault.{InputFault}
use Rattle.sota_app.specs.declared.input.InputFault.TheVariants.{TooLong, Graph, Hists, Policy}
use Rattle.sota_app.specs.declared.input.InputFault.TheVariants.{Names, ScaleDiffers}

abbrev pub input_word : Input → List ℕ
input_word inputs.Graph = codes "graph"
input_word inputs.Hists = codes "hists"
input_word inputs.Script = codes "script"
input_word inputs.Policy = codes "policy"
input_word inputs.Names = codes "names"

-- the most bytes of an input
abbrev pub input_limit : Input → ℕ
input_limit inputs.Graph = TEXT_LIMIT
input_limit inputs.Hists = TEXT_LIMIT
input_limit inputs.Script = TEXT_LIMIT
input_limit inputs.Policy = POLICY_LIMIT
input_limit inputs.Names = TEXT_LIMIT

-- ---- 'refused KIND CAUSE PLACE'

abbrev pub fault_input : InputFault → Input
fault_input (TooLong input) = input
fault_input (Graph fault) = inputs.Graph
fault_input (Hists fault) = inputs.Hists
fault_input (Policy fault) = inputs.Policy
fault_input (Names fault) = inputs.Names
fault_input (ScaleDiffers place) = inputs.Hists

abbrev pub fault_word : InputFault → List ℕ
fault_word (TooLong input) = codes "TooLong"
fault_word (Graph fault) = graphs.fault_word fault
fault_word (Hists fault) = hists.fault_word fault
fault_word (Policy fault) = policies.fault_word fault
fault_word (Names fault) = names.fault_word fault
fault_word (ScaleDiffers place) = codes "ScaleDiffers"

-- the number that a fault carries: for an input that is too long it is the limit
abbrev pub fault_place : InputFault → ℕ
fault_place (TooLong input) = input_limit input
fault_place (Graph fault) = graphs.fault_place fault
fault_place (Hists fault) = hists.fault_place fault
fault_place (Policy fault) = policies.fault_place fault
fault_place (Names fault) = names.fault_place fault
fault_place (ScaleDiffers place) = place

abbrev pub fault_line : InputFault → List ℕ
fault_line fault =
    codes "refused " ++ input_word (fault_input fault) ++ codes " " ++ fault_word fault
    ++ codes " " ++ decimal (fault_place fault) ++ codes "\n"
