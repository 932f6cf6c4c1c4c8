use Rattle.std.proofs.Common.{ℕ, ◌≡◌, ◌+◌, ◌<◌, List, take, length, get_or, Some, None, refl, sym, ◌∙◌, arith}
use Rattle.std.proofs.lemmas.List.{get_or-take}
use Rattle.sota_units.specs.Rounding.{ONE}
use Rattle.sota_network.specs.Network.{Net}
use Rattle.sota_kept.specs.Asks.{IsGridEntry}
use Rattle.sota_tables.specs.Views.{table_at}
use Rattle.sota_fill.proofs.Later.{entry-certain}
use Rattle.sota_fill.proofs.Summed.{take-long}
use Rattle.sota_fill.proofs.Pushing.{AreGridEntries, longer-ready}
use Rattle.sota_fill.proofs.fill.push_certain.Goals as goal

pub returns-clause-ready : goal.returns-clause-ready
returns-clause-ready g c =
    let net : Net = c.args.network.now in
    let dest : ℕ = c.args.dest in
    let i : ℕ = c.args.node in
    let n : ℕ = c.args.count in
    let is = c.requires.unfilled in
    let floors : List ℕ = c.certain.new.self.floors in
    let choices = c.certain.new.self.choices in
    let long : length (take n floors) ≡ n = take-long n floors (omega (arith, c.requires.count, c.certain.ensures.room.0)) in
    let entry : (x : ℕ) → x < n → IsGridEntry net dest i (c.args.from + x) (record { lower = ONE; upper = ONE; choice = Some c.args.arc }) =
    λ x less. entry-certain net (c.filling_laws.ensures net is.valid) dest i is.off (table_at c.args.tables.now i) c.args.arc (c.args.from + x) (is.ready i is.node is.off) c.requires.certain (omega (arith, is.start)) in
    let found : AreGridEntries net dest i c.args.from (take n floors) (take n floors) (take n choices) = record {
      entry = λ x less.
          let h : x < n = omega (arith, less, long) in
          let right = entry x h in
          let value : get_or (take n floors) x 0 ≡ ONE = get_or-take n floors x 0 h ∙ c.certain.ensures.floors x h in
          record {
            lower = value ∙ right.lower;
            upper = value ∙ right.upper;
            choice = get_or-take n choices x None h ∙ c.certain.ensures.choices x h ∙ right.choice;
          };
      upper = refl;
      choices = take-long n choices (omega (arith, c.requires.count, c.certain.ensures.room.1)) ∙ sym long;
    } in
    longer-ready net dest i c.args.from (c.args.from + n) c.args.tables.now c.push_extent.new.self (take n floors) (take n floors) (take n choices) is found (omega (arith, long, is.some)) (omega (arith, long))
    c.push_extent.ensures.others c.push_extent.ensures.entries
