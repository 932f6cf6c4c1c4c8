-- A line with names of places whose numbers give a line with a fault.
use Rattle.std.proofs.Common.{◌≡◌, ℕ, List, Bool, true, false, Option, Some, None, Result, Ok, Err}
use Rattle.std.proofs.Common.{refl}
use Rattle.sota_units.specs.Memory.{Unless, ◌>>=◌, or_fault}
use Rattle.sota_script.specs.Lines.{parse_line}
use Rattle.sota_script.specs.declared.fault.LineFault.{LineFault}
use Rattle.sota_report.specs.declared.fault.ResolveFault.{ResolveFault}
use Rattle.sota_report.specs.declared.fault.ResolveFault.TheVariants as unresolved
use Rattle.sota_app.specs.Script.{or_refused_line}
use Rattle.sota_app.specs.declared.reply.Refusal.TheVariants as refusals

abbrev pub resolved_or_place : Option (List ℕ) → Result (List ℕ) ResolveFault
resolved_or_place found = or_fault unresolved.Place found

resolved_line : (found : Option (List ℕ)) (bytes : List ℕ)
    → resolved_or_place found ≡ Ok bytes → found ≡ Some bytes
resolved_line None bytes e = absurd (cc)
resolved_line (Some line) bytes e = cc

pub resolved_fault : (found : Option (List ℕ)) (bytes : List ℕ) (fault : LineFault) (short : Bool)
    → or_fault unresolved.Place found ≡ Ok bytes
    → Unless short (parse_line bytes ≡ Err fault)
    → Unless short ((or_fault (refusals.Name unresolved.Place) found
    >>= λ line. or_refused_line (parse_line line)) ≡ Err (refusals.Line fault))
resolved_fault found bytes fault true is answers = tt
resolved_fault found bytes fault false is answers =
    rw (resolved_line found bytes is) (rw answers refl)
