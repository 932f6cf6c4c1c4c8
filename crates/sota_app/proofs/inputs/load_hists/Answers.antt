use Rattle.std.proofs.Common.{◌≡◌, false, rules}
use Rattle.sota_app.specs.Outcome.{is_dash}
use Rattle.sota_app.proofs.ReadTexts.{hists_read}
use Rattle.sota_app.proofs.inputs.load_hists.Goals as goal

pub returns-clause-read : goal.returns-clause-read
returns-clause-read g c =
    let name = c.args.name.now in
    let word : is_dash name ≡ false = search rules in
    hists_read name c.args.graph c.in_ok-bytes.bytes.items c.parse_hists.result
    (g.D.Desk.state c.args.desk.now) (g.D.Desk.state c.load_input.new.desk)
    word c.in_ok-bytes.ensures.read.0 c.in_ok-bytes.ensures.read.1 c.parse_hists.ensures.read
