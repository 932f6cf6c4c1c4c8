use Rattle.std.proofs.Common.{◌≡◌, [], ◌∷◌, Ok, refl}
use Rattle.sota_script.proofs.Names.{name_read}
use Rattle.sota_units.specs.GrainText.{fixed, grain_spelling}
use Rattle.sota_script.specs.Lines.{parse_name}
use Rattle.sota_script.proofs.laws.worked_lines.Goals as goal

pub returns-clause-policy : goal.returns-clause-policy
unfolding lib.Utf8.encode
returns-clause-policy c =
    let name : parse_name (112 ∷ []) ≡ Ok (112 ∷ []) = name_read (112 ∷ []) (112 ∷ [], (refl, refl)) in
    rw name refl

pub returns-clause-bracket : goal.returns-clause-bracket
unfolding lib.Utf8.encode
returns-clause-bracket c =
    let name : parse_name (112 ∷ []) ≡ Ok (112 ∷ []) = name_read (112 ∷ []) (112 ∷ [], (refl, refl)) in
    rw name refl

pub returns-clause-need : goal.returns-clause-need
unfolding fixed grain_spelling
returns-clause-need c = refl
