use Rattle.std.proofs.lemmas.Str.{IsUtf8-from_is_utf8}
use Rattle.sota_report.proofs.text.Text.of_word.Goals as goal

pub unreachable-requires : goal.unreachable-requires
unreachable-requires c = c.in-Err.ensures.cases.0 (IsUtf8-from_is_utf8 c.args.word.now c.requires)
