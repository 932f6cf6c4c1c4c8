use Rattle.std.proofs.Common.{refl}
use Rattle.std.specs.Fmt.{digits}
use Rattle.std.specs.Str.{is_utf8, chars}
use Rattle.serde_json.proofs.OnLiterals.{serde_json_on_literals}
use Rattle.sota_report.proofs.laws.worked_names.Goals as goal

pub returns-clause-names : goal.returns-clause-names
unfolding is_utf8 chars lib.Utf8.encode
returns-clause-names c = refl

pub returns-clause-repeated : goal.returns-clause-repeated
unfolding is_utf8 chars lib.Utf8.encode
returns-clause-repeated c = refl

pub returns-clause-line : goal.returns-clause-line
unfolding digits
returns-clause-line c = refl

pub returns-clause-answer : goal.returns-clause-answer
unfolding serde_json_on_literals digits
returns-clause-answer c = refl

pub returns-clause-refused : goal.returns-clause-refused
unfolding serde_json_on_literals digits
returns-clause-refused c = refl
