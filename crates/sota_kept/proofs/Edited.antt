-- What an edit leaves as it is.
use Rattle.std.proofs.Common.{ℕ, zero, suc, ◌≡◌, ◌<◌, ◌≤◌, List, Some, None, Option, set, refl, sym, ◌∙◌, ap, arith, ⊎_elim, subst}
use Rattle.std.proofs.lemmas.Bool.{cases_eq, eq-eqb}
use Rattle.sota_hist.specs.Time.{before, is_closed, least_tick}
use Rattle.sota_network.specs.Network.{Net, arc_at, replaced}
use Rattle.sota_network.specs.Grid.{choice}
use Rattle.sota_network.specs.Walks.{Walk, IsLeastTime, empty}
use Rattle.sota_network.specs.declared.network.Arc.{Arc}
use Rattle.sota_kept.proofs.Changed.{Changed, Far}
use Rattle.sota_kept.proofs.Affecting.{lo-unchanged, hi-unchanged, choice-unchanged, reach-unchanged, first_affected-far, under-far, tail-least, head-least, same-least}
use Rattle.sota_kept.specs.Edits.{first_affected, first_affected_by, IsUnder, IsEdit, SameAt}
use Rattle.sota_kept.specs.Laws.{Lawful}
use Rattle.sota_kept.proofs.Networks.{NetworkLaws, hi-at_dest, lo-at_dest, replaced-at, timed, walk-reaches}

pub edit-changed : NetworkLaws → (net : Net) (k : ℕ) (a : Arc) (s0 : ℕ) (time : List (ℕ × ℕ)) → IsEdit net (suc k) a s0 time → Changed net (replaced net (suc k) time) k a (timed a time)
edit-changed laws net k a s0 time is =
    let valid : Lawful net = laws net is.valid in
    let made : replaced net (suc k) time ≡ record net { arcs = set net.arcs k (timed a time) } = replaced-at net k a time is.found in
    record {
      valid = valid;
      valid' = laws (replaced net (suc k) time) (valid.edited (suc k) time is.rises is.sums);
      found = is.found;
      arcs = ap (λ (x : Net). x.arcs) made;
      scale = ap (λ (x : Net). x.scale) made;
      tails = refl;
      heads = refl;
    }

choice-there : (net : Net) (dest i t : ℕ) → i ≡ dest → choice net dest i t ≡ None
unfolding choice
choice-there net dest i t at = rw (eq-eqb i dest at) refl

same-dest : (net other : Net) → Lawful net → Lawful other → (dest i t : ℕ) → i ≡ dest → SameAt net other dest i t
same-dest net other valid valid' dest i t at = record {
  lower = lo-at_dest other valid' dest i t at ∙ sym (lo-at_dest net valid dest i t at);
  upper = hi-at_dest other valid' dest i t at ∙ sym (hi-at_dest net valid dest i t at);
  choice = choice-there other dest i t at ∙ sym (choice-there net dest i t at);
  reach =
      walk-reaches other valid' dest (subst (λ (j : ℕ). Walk other dest j dest 0) (sym at) empty) t (let z : 0 ≤ t = omega arith in z)
      ∙ sym (walk-reaches net valid dest (subst (λ (j : ℕ). Walk net dest j dest 0) (sym at) empty) t (let z : 0 ≤ t = omega arith in z));
}

same-far : (net other : Net) (dest k : ℕ) (a b : Arc) (is : Changed net other k a b) (s0 : ℕ) → before s0 a.time ≡ before s0 b.time → (i t : ℕ) → Far net other dest k a b is s0 i t → SameAt net other dest i t
same-far net other dest k a b is s0 alike i t far = record {
  lower = sym (lo-unchanged net other dest k a b is s0 alike i t far);
  upper = sym (hi-unchanged net other dest k a b is s0 alike i t far);
  choice = sym (choice-unchanged net other dest k a b is s0 alike i t far);
  reach = sym (reach-unchanged net other dest k a b is s0 alike i t far);
}

pub edit-valid : NetworkLaws → (net : Net) (number : ℕ) (a : Arc) (s0 : ℕ) (time : List (ℕ × ℕ)) → IsEdit net number a s0 time → Lawful (replaced net number time)
edit-valid laws net number a s0 time is = laws (replaced net number time) ((laws net is.valid).edited number time is.rises is.sums)

-- below the first affected budget, never counting as the limit, nothing changes
pub edit-same : NetworkLaws → (net : Net) (dest number : ℕ) (a : Arc) (s0 : ℕ) (time : List (ℕ × ℕ)) → IsEdit net number a s0 time → (i t : ℕ) → t < first_affected net dest a s0 i → SameAt net (replaced net number time) dest i t
edit-same laws net dest zero a s0 time is i t early = absurd (let none : arc_at net zero ≡ Some a = is.found in cc)
edit-same laws net dest (suc k) a s0 time is i t early =
    let changed = edit-changed laws net k a s0 time is in
    ⊎_elim
    (λ (at : i ≡ dest). same-dest net (replaced net (suc k) time) changed.valid changed.valid' dest i t at)
    (λ (off : i ≡ dest → ⊥). same-far net (replaced net (suc k) time) dest k a (timed a time) changed s0 is.same i t (first_affected-far net (replaced net (suc k) time) dest k a (timed a time) changed s0 is.same i t off early))
    (cases_eq i dest)

-- the same by least times, without a limit
pub edit-under : NetworkLaws → (net : Net) (dest number : ℕ) (a : Arc) (s0 : ℕ) (time : List (ℕ × ℕ)) → IsEdit net number a s0 time → (i t : ℕ) (to onward : Option ℕ)
    → IsLeastTime net dest i a.tail to → IsLeastTime net dest a.head dest onward → IsUnder t (first_affected_by dest a s0 i to onward) → SameAt net (replaced net number time) dest i t
edit-under laws net dest zero a s0 time is i t to onward before after early = absurd (let none : arc_at net zero ≡ Some a = is.found in cc)
edit-under laws net dest (suc k) a s0 time is i t to onward before after early =
    let changed = edit-changed laws net k a s0 time is in
    ⊎_elim
    (λ (at : i ≡ dest). same-dest net (replaced net (suc k) time) changed.valid changed.valid' dest i t at)
    (λ (off : i ≡ dest → ⊥). same-far net (replaced net (suc k) time) dest k a (timed a time) changed s0 is.same i t (under-far net (replaced net (suc k) time) dest k a (timed a time) changed s0 i t to onward off before after early))
    (cases_eq i dest)

-- neither time depends on the arc
pub edit-to : NetworkLaws → (net : Net) (dest number : ℕ) (a : Arc) (s0 : ℕ) (time : List (ℕ × ℕ)) → IsEdit net number a s0 time → (i : ℕ) (least : Option ℕ) → IsLeastTime net dest i a.tail least → IsLeastTime (replaced net number time) dest i a.tail least
edit-to laws net dest zero a s0 time is i least before = absurd (let none : arc_at net zero ≡ Some a = is.found in cc)
edit-to laws net dest (suc k) a s0 time is i least before = tail-least net (replaced net (suc k) time) dest k a (timed a time) (edit-changed laws net k a s0 time is) i least before

pub edit-onward : NetworkLaws → (net : Net) (dest number : ℕ) (a : Arc) (s0 : ℕ) (time : List (ℕ × ℕ)) → IsEdit net number a s0 time → (least : Option ℕ) → IsLeastTime net dest a.head dest least → IsLeastTime (replaced net number time) dest a.head dest least
edit-onward laws net dest zero a s0 time is least before = absurd (let none : arc_at net zero ≡ Some a = is.found in cc)
edit-onward laws net dest (suc k) a s0 time is least before = head-least net (replaced net (suc k) time) dest k a (timed a time) (edit-changed laws net k a s0 time is) least before

-- where the arc's least tick stays, and it stays open or closed, so do all least times
pub edit-tick : NetworkLaws → (net : Net) (dest number : ℕ) (a : Arc) (s0 : ℕ) (time : List (ℕ × ℕ)) → IsEdit net number a s0 time → (i j : ℕ) → least_tick time ≡ least_tick a.time → is_closed time ≡ is_closed a.time → (least : Option ℕ)
    → IsLeastTime net dest i j least → IsLeastTime (replaced net number time) dest i j least
edit-tick laws net dest zero a s0 time is i j tick closed least before = absurd (let none : arc_at net zero ≡ Some a = is.found in cc)
edit-tick laws net dest (suc k) a s0 time is i j tick closed least before =
    same-least net (replaced net (suc k) time) dest k a (timed a time) (edit-changed laws net k a s0 time is) (sym tick) (sym closed) i j least before
