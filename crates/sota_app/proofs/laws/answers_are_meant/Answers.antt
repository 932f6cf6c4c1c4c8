use Rattle.sota_app.proofs.MeantBounds.{meant_bounds}
use Rattle.sota_app.proofs.laws.answers_are_meant.Goals as goal

pub returns : goal.returns
returns c =
    let law = c.grid_encloses.ensures in
    meant_bounds law.encloses law.order law.gap law.whole law.fits law.attains
