use Rattle.sota_block.proofs.Eight.{lows_added}
use Rattle.sota_block.proofs.lanes.add_lows.Goals as goal

pub returns : goal.returns
returns c = lows_added c.args.sums c.args.values c.args.mass c.fits-sums.0 c.fits-values.0 c.requires.fits
