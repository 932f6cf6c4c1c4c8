-- The roads of a policy that holds.
use Rattle.std.proofs.Common.{ℕ, zero, suc, ◌≡◌, ◌≢◌, Option, Some, None, option_and_then, refl, sym, ◌∙◌, ap, arith, ⊎_elim}
use Rattle.std.proofs.lemmas.Option.{none-some, same_Some}
use Rattle.std.proofs.lemmas.Bool.{eq-eqb, ne_eqb}
use Rattle.sota_network.specs.Network.{Net, arc_at}
use Rattle.sota_network.specs.declared.network.Arc.{Arc}
use Rattle.sota_polfile.specs.Table.{Table, entry_of}
use Rattle.sota_polfile.specs.declared.entry.PolicyEntry.{PolicyEntry}
use Rattle.sota_check.specs.Certified.{IsCertified, Holds, arc_of, rule}
use Rattle.sota_replay.specs.Trip.{road}

-- a number that an arc has is not 0
numbered : (net : Net) (e : ℕ) (arc : Arc) → arc_at net e ≡ Some arc → e ≢ 0
numbered net zero arc is = λ _. none-some arc is
numbered net (suc k) arc is = λ no. omega arith

-- where an entry holds, its road leaves the node, and there is one unless its arc is 0
abbrev Leads : ℕ → Option ℕ → Option Arc → Type 0
Leads i named found = ((arc : Arc) → found ≡ Some arc → arc.tail ≡ i) × (found ≡ None → named ≡ None)

entry-leads : (net : Net) (table : Table) (i t : ℕ) (entry : PolicyEntry) → Holds net table i t entry → Leads i (arc_of entry) (option_and_then (arc_at net) (arc_of entry))
entry-leads net table i t entry holds =
    ⊎_elim
    (λ empty. rw (eq-eqb entry.arc 0 empty.0) ((λ arc is. absurd (none-some arc is)), (λ _. refl)))
    (λ led.
    let some : entry.arc ≢ 0 = numbered net entry.arc led.0 led.1 in
    rw (ne_eqb entry.arc 0 some) (
      (λ arc is. let same : led.0 ≡ arc = same_Some led.0 arc (sym led.1 ∙ is) in ap (λ (a : Arc). a.tail) (sym same) ∙ led.2),
      (λ none. absurd (none-some led.0 (sym none ∙ led.1))),
    ))
    holds

by_entry : (net : Net) (table : Table) (i t : ℕ) → IsCertified net table → (o : Option PolicyEntry) → entry_of table i t ≡ o → Leads i (option_and_then arc_of o) (option_and_then (arc_at net) (option_and_then arc_of o))
by_entry net table i t certified None is = ((λ arc no. absurd (none-some arc no)), (λ _. refl))
by_entry net table i t certified (Some entry) is = entry-leads net table i t entry (certified.entries i t entry is)

pub road-leads : (net : Net) (table : Table) (i t : ℕ) → IsCertified net table → Leads i (rule table i t) (road net table i t)
road-leads net table i t certified = by_entry net table i t certified (entry_of table i t) refl
