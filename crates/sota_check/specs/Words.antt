-- Causes of a rejection: their printed names, and the entry that each is about.
use Rattle.std.specs.Prelude.{ℕ, List, Option, None, Some, codes}
use Rattle.sota_check.specs.declared.verdict.Rejection.{Rejection}
use Rattle.sota_check.specs.declared.verdict.Rejection.TheVariants.{Size, Scale}
use Rattle.sota_check.specs.declared.verdict.Rejection.TheVariants.{NoArc, WrongTail, Value}
use Rattle.sota_check.specs.declared.bracket_verdict.BracketRejection.{BracketRejection}
use Rattle.sota_check.specs.declared.bracket_verdict.BracketRejection.TheVariants as brackets

-- the name of a cause, as replies print it
abbrev pub cause_word : Rejection → List ℕ
cause_word Size = codes "Size"
cause_word Scale = codes "Scale"
cause_word (NoArc node budget) = codes "NoArc"
cause_word (WrongTail node budget) = codes "WrongTail"
cause_word (Value node budget) = codes "Value"

-- the node and the budget of the entry, none where no entry was looked at
abbrev pub cause_entry : Rejection → Option (ℕ × ℕ)
cause_entry Size = None
cause_entry Scale = None
cause_entry (NoArc node budget) = Some (node, budget)
cause_entry (WrongTail node budget) = Some (node, budget)
cause_entry (Value node budget) = Some (node, budget)

-- the same of a bracket
abbrev pub bracket_word : BracketRejection → List ℕ
bracket_word brackets.Size = codes "Size"
bracket_word brackets.Scale = codes "Scale"
bracket_word (brackets.Potential node) = codes "Potential"
bracket_word (brackets.NoArc node budget) = codes "NoArc"
bracket_word (brackets.WrongTail node budget) = codes "WrongTail"
bracket_word (brackets.Lower node budget) = codes "Lower"
bracket_word (brackets.Upper node budget) = codes "Upper"

-- the node that it is about, none where no node was looked at
abbrev pub bracket_node : BracketRejection → Option ℕ
bracket_node brackets.Size = None
bracket_node brackets.Scale = None
bracket_node (brackets.Potential node) = Some node
bracket_node (brackets.NoArc node budget) = Some node
bracket_node (brackets.WrongTail node budget) = Some node
bracket_node (brackets.Lower node budget) = Some node
bracket_node (brackets.Upper node budget) = Some node

-- the budget of the entry that it is about, none where no entry was looked at
abbrev pub bracket_budget : BracketRejection → Option ℕ
bracket_budget brackets.Size = None
bracket_budget brackets.Scale = None
bracket_budget (brackets.Potential node) = None
bracket_budget (brackets.NoArc node budget) = Some budget
bracket_budget (brackets.WrongTail node budget) = Some budget
bracket_budget (brackets.Lower node budget) = Some budget
bracket_budget (brackets.Upper node budget) = Some budget
