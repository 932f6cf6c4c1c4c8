use Rattle.std.proofs.Common.{◌≡◌, ◌+◌, ◌≤◌, length, map, take, drop, sym, ◌∙◌, arith, ap, Some, length-take, length-drop}
use Rattle.std.proofs.lemmas.List.{length-map}
use Rattle.std.specs.List.{refill, length_refill}
use Rattle.sota_bank.specs.Places.{somes}
use Rattle.sota_bank.proofs.Runs.{length-replaced, somes-map}
use Rattle.sota_bank.proofs.region.Region.slice_mut.Goals as goal

pub invariant_of-self-lent : goal.invariant_of-self-lent
invariant_of-self-lent g c = λ w.
    let cs = c.self.inside.cells.slots in let from = c.args.from in let len = c.args.len in let block = c.self.invariant in
    let e = c.slice_mut.ensures.value in let xs = c.slice_mut.result.now in let old = somes (take len (drop from cs)) in
    let inside : from + len ≤ length cs = omega (arith, c.requires.0, ap length c.self.view_is) in
    let count : len ≡ length old = omega (arith, ap length e, ap (λ l. length (somes l)) e, ap length (somes-map xs), length-map xs Some, length-take len (drop from cs), length-drop from cs) in
    (block.0, block.1, block.2, block.3, length-replaced cs (map Some (refill len old w)) from len inside (length-map (refill len old w) Some ∙ sym (length_refill len old w count)) ∙ block.4)
