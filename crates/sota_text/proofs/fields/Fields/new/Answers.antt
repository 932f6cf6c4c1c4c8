use Rattle.std.proofs.Common.{refl, arith}
use Rattle.std.specs.List.{slice_split}
use Rattle.sota_text.specs.Text.{is_blank}
use Rattle.sota_text.proofs.Texts.{split_stands, field_texts, fields_within, fields_in_order}
use Rattle.sota_text.proofs.fields.Fields.new.Goals as goal

pub returns-clause-texts : goal.returns-clause-texts
returns-clause-texts c = field_texts c.args.line.now 0 (slice_split is_blank c.args.line.now) (split_stands is_blank c.args.line.now c.args.line.now 0 refl (omega arith))

pub returns-clause-within : goal.returns-clause-within
returns-clause-within c = fields_within c.args.line.now 0 (slice_split is_blank c.args.line.now) (split_stands is_blank c.args.line.now c.args.line.now 0 refl (omega arith))

pub returns-clause-order : goal.returns-clause-order
returns-clause-order c = fields_in_order 0 0 (slice_split is_blank c.args.line.now) (omega arith)
