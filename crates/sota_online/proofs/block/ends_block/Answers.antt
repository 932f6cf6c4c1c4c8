use Rattle.std.proofs.Common.{inr, sym, ◌∙◌}
use Rattle.std.proofs.lemmas.Bool.{eqb-true, eqb-false}
use Rattle.sota_online.proofs.Blocks.{masked}
use Rattle.sota_online.proofs.block.ends_block.Goals as goal

pub returns-then-smallest-span-clause-whole : goal.returns-then-smallest-span-clause-whole
returns-then-smallest-span-clause-whole c = λ yes. sym (masked c.args.first c.args.smallest c.args.fed c.requires) ∙ eqb-true _ _ yes

pub returns-then-smallest-span-clause-idle : goal.returns-then-smallest-span-clause-idle
returns-then-smallest-span-clause-idle c = λ no. inr (λ even. eqb-false _ _ no (masked c.args.first c.args.smallest c.args.fed c.requires ∙ even))
