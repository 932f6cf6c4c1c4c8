use Rattle.std.proofs.Common.{ℕ, ◌≡◌, ◌*◌, min, Bool, Some, ap, sym, ◌∙◌, arith}
use Rattle.std.specs.List.{list_any}
use Rattle.sota_units.specs.Rounding.{ONE}
use Rattle.sota_network.specs.Network.{Net}
use Rattle.sota_polfile.specs.Bracket.{Bracket, IsBracket, bracket_entry_of}
use Rattle.sota_polfile.specs.declared.bracket_entry.BracketEntry.{BracketEntry}
use Rattle.sota_check.specs.Bracketed.{upper}
use Rattle.sota_check.specs.BracketRejected.{exceeds}
use Rattle.sota_check.proofs.BracketJudged.{lower-first, upper-next, upper-cause, upper-fine}
use Rattle.sota_check.proofs.Standing.{entry-row, entry-upper, row-number}
use Rattle.sota_check.proofs.judge_bracket.entry_fault.Goals as goal

pub returns-in-Some : goal.returns-in-Some
returns-in-Some c = sym (lower-first c.args.network.now c.args.table.now c.args.node c.args.budget c.args.entry c.in-Some.fault (sym c.in-Some.ensures))

pub is_exceeded-requires-clause-node : goal.is_exceeded-requires-clause-node
is_exceeded-requires-clause-node c =
    let table = c.args.table.now in
    let stands = entry-row table c.args.node c.args.budget c.args.entry c.requires.entry in
    let number = row-number table c.args.node stands.0 stands.1 in
    (number.0, omega (arith, number.1, c.requires.table.size, c.requires.nodes))

-- the value that is compared with is the table's
compared : (net : Net) (table : Bracket) (i t : ℕ) (entry : BracketEntry) (units : ℕ) (found : Bool) → IsBracket table → bracket_entry_of table i t ≡ Some entry → units ≡ min ONE entry.upper → found ≡ list_any (exceeds (upper table) i t (units * net.scale)) net.arcs → found ≡ list_any (exceeds (upper table) i t (upper table i t * net.scale)) net.arcs
compared net table i t entry units found is at units_are found_is =
    found_is ∙ ap (λ (n : ℕ). list_any (exceeds (upper table) i t (n * net.scale)) net.arcs) (units_are ∙ sym (entry-upper table is i t entry at))

pub returns-then-is_exceeded : goal.returns-then-is_exceeded
returns-then-is_exceeded c =
    let net = c.args.network.now in
    let table = c.args.table.now in
    let units : c.min-upper.result ≡ min ONE c.args.entry.upper = omega (arith, c.min-upper.ensures, c.get.ensures.value) in
    sym (upper-next net table c.args.node c.args.budget c.args.entry (sym c.in_default.ensures) ∙ upper-cause net (upper table) c.args.node c.args.budget (sym (compared net table c.args.node c.args.budget c.args.entry c.min-upper.result c.is_exceeded.result c.requires.table c.requires.entry units c.is_exceeded.ensures) ∙ c.if-is_exceeded.true))

pub returns : goal.returns
returns c =
    let net = c.args.network.now in
    let table = c.args.table.now in
    let units : c.min-upper.result ≡ min ONE c.args.entry.upper = omega (arith, c.min-upper.ensures, c.get.ensures.value) in
    sym (upper-next net table c.args.node c.args.budget c.args.entry (sym c.in_default.ensures) ∙ upper-fine net (upper table) c.args.node c.args.budget (sym (compared net table c.args.node c.args.budget c.args.entry c.min-upper.result c.is_exceeded.result c.requires.table c.requires.entry units c.is_exceeded.ensures) ∙ c.if-is_exceeded.false))
