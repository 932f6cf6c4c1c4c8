use Rattle.sota_text.specs.Text.{is_line_end, line_pieces}
use Rattle.sota_text.proofs.Texts.{ended_stands, line_texts, lines_within}
use Rattle.sota_text.proofs.lines.Lines.new.Goals as goal

pub returns-clause-texts : goal.returns-clause-texts
returns-clause-texts c = line_texts c.args.bytes.now 0 0 (line_pieces c.args.bytes.now) (ended_stands is_line_end c.args.bytes.now)

pub returns-clause-within : goal.returns-clause-within
returns-clause-within c = lines_within c.args.bytes.now 0 0 (line_pieces c.args.bytes.now) (ended_stands is_line_end c.args.bytes.now)
