use Rattle.sota_block.proofs.Eight.{highs_added}
use Rattle.sota_block.proofs.lanes.add_highs.Goals as goal

pub returns : goal.returns
returns c = highs_added c.args.sums c.args.values c.args.mass c.fits-sums.0 c.fits-values.0 c.requires.fits
