-- The printed words of refused edits.
use Rattle.std.specs.Prelude.{ℕ, List, codes}
use Rattle.sota_session.specs.declared.edit.EditFault.{EditFault}
use Rattle.sota_session.specs.declared.edit.EditFault.TheVariants as edits

-- the name of a refused edit's fault, as replies print it
abbrev pub edit_word : EditFault → List ℕ
edit_word edits.NoArc = codes "NoArc"
edit_word edits.NoMemory = codes "NoMemory"
