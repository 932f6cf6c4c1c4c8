use Rattle.std.proofs.Common.{◌≡◌, ◌<◌, ◌^◌, ◌∷◌, List, ℕ, map, length, ap, arith}
use Rattle.sota_text.specs.Text.{fields_of}
use Rattle.sota_text.specs.Spans.{bytes_of}
use Rattle.sota_script.proofs.Few.{few_fields, command_few}
use Rattle.sota_script.proofs.line.read_line.Goals as goal

pub returns-clause-few : goal.returns-clause-few
returns-clause-few c =
    let line : List ℕ = c.args.line.now in
    let texts : map (bytes_of line) (c.in-Some.first ∷ c.next.new.self) ≡ fields_of line = rw c.in-Some.ensures.steps at c.new-fields.ensures.texts in
    let few : length (map (bytes_of line) c.next.new.self) < 2 ^ 32 = omega (arith, ap length texts, few_fields line, c.requires) in
    command_few (bytes_of line c.in-Some.first) (map (bytes_of line) c.next.new.self) c.in_ok-read_command.field-0 few c.in_ok-read_command.ensures
