use Rattle.sota_network.specs.Trees.{follow}
use Rattle.sota_check.specs.Bracketed.{lower, lower_entries, bracket_rule, upper}
use Rattle.sota_check.proofs.Keeping.{sound}
use Rattle.sota_check.proofs.Covering.{covers}
use Rattle.sota_check.proofs.Standing.{upper-whole}
use Rattle.sota_check.proofs.laws.bracketed_encloses.Goals as goal

pub returns-clause-encloses : goal.returns-clause-encloses
returns-clause-encloses c = λ net table i t valid is holds. (
  λ tree fits. c.covering_values.ensures net table.head.dest (upper table) valid (covers c.sums_and_scores.ensures.sums c.sums_and_scores.ensures.ticks net valid (λ e arc at. c.arcs_by_number.ensures net e arc valid at) table is holds) i t tree fits,
  (
    follow net (bracket_rule table) table.head.dest i t,
    (
      c.grid_encloses.ensures.fits net (bracket_rule table) table.head.dest i t valid,
      c.sound_values.ensures.attained net table.head.dest (lower table) (bracket_rule table) valid (sound net table.head (lower_entries table) holds.certified) i t,
    ),
  ),
)

pub returns-clause-attains : goal.returns-clause-attains
returns-clause-attains c = λ net table i t valid holds.
    c.sound_values.ensures.attained net table.head.dest (lower table) (bracket_rule table) valid (sound net table.head (lower_entries table) holds.certified) i t

pub returns-clause-whole : goal.returns-clause-whole
returns-clause-whole c = λ net table i t valid holds.
    (c.sound_values.ensures.whole net table.head.dest (lower table) (bracket_rule table) valid (sound net table.head (lower_entries table) holds.certified) i t, upper-whole table i t)
