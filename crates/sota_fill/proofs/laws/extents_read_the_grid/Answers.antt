use Rattle.sota_fill.proofs.Pushing.{reads-grid}
use Rattle.sota_fill.proofs.laws.extents_read_the_grid.Goals as goal

pub returns : goal.returns
returns c = λ net dest i to tables valid ready extent. reads-grid net (c.filling_laws.ensures net valid) dest tables ready i to extent
