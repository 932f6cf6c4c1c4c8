-- Where an entry is certain and takes the first arc of its node, so does each later one.
use Rattle.std.proofs.Common.{ℕ, ◌≡◌, ◌≢◌, ◌+◌, ◌-◌, ◌*◌, ◌%◌, ◌<◌, ◌≤◌, List, [], ◌∷◌, length, get_or, take, take_all, slice_get, None, Some, refl, sym, ◌∙◌, ap, subst, arith}
use Rattle.std.proofs.lemmas.Bool.{eq-eqb, ne_eqb, le-ltb}
use Rattle.std.proofs.lemmas.Nat.{div-add-mod'}
use Rattle.std.proofs.lemmas.Option.{slice_get_within, get_or_from_slice_get}
use Rattle.sota_units.specs.Rounding.{ONE, floor_by}
use Rattle.sota_network.specs.Network.{Net}
use Rattle.sota_network.specs.Grid.{lo, choice, choice_of, plain_sum, best_of}
use Rattle.sota_network.specs.declared.network.Arc.{Arc}
use Rattle.sota_kept.specs.NodeTables.{NodeTable, IsReadyAt, known_end}
use Rattle.sota_kept.specs.Asks.{IsGridEntry}
use Rattle.sota_fill.specs.Certain.{EndsCertain}
use Rattle.sota_fill.specs.Laws.{Fillable}
use Rattle.sota_network.specs.Among.{leaving_numbers, best_among, choice_among, numbered_worth}
use Rattle.sota_fill.proofs.Pushing.{sum-le}

-- a sum whose quotient is one whole
quotient-whole : (q x : ℕ) → floor_by q x ≡ ONE → q * ONE ≤ x
quotient-whole q x is =
    let parts : ONE * q + x % q ≡ x = subst (λ (k : ℕ). k * q + x % q ≡ x) is (div-add-mod' x q) in
    omega arith

-- the first of some numbers, where it has the greatest worth
choice-head : (w : ℕ → ℕ) (es : List ℕ) (e : ℕ) → slice_get es 0 ≡ Some e → 0 < w e → best_among w es ≤ w e → choice_among w es ≡ Some e
choice-head w [] e is some most = absurd cc
choice-head w (x ∷ es) e is some most =
    let same : x ≡ e = cc in
    let here : w x ≡ w e = ap w same in
    let best : best_among w (x ∷ es) ≡ w x = omega arith in
    let positive : best_among w (x ∷ es) ≡ 0 → ⊥ = λ z. omega arith in
    rw (ne_eqb (best_among w (x ∷ es)) 0 positive, eq-eqb (w x) (best_among w (x ∷ es)) (sym best)) (ap Some same)

module _ (net : Net) (laws : Fillable net) (dest i : ℕ) (off : i ≢ dest) where
  -- what an arc is worth at a budget
  abbrev worth_at : ℕ → Arc → ℕ
  worth_at t arc = plain_sum arc (lo net dest) t

  whole-best : (t : ℕ) → lo net dest i t ≡ ONE → best_of net.arcs (worth_at t) i ≡ net.scale * ONE
  whole-best t is =
      let least : net.scale * ONE ≤ best_of net.arcs (worth_at t) i = quotient-whole net.scale (best_of net.arcs (worth_at t) i) (sym (laws.lower dest i t off) ∙ is) in
      let most : best_of net.arcs (worth_at t) i ≤ net.scale * ONE = sum-le net laws (lo net dest) (λ j u _. omega (arith, laws.order dest j u, laws.whole dest j u)) i t in
      omega arith

  later-certain : (e t u : ℕ) → t ≤ u → lo net dest i t ≡ ONE → choice net dest i t ≡ Some e → slice_get (leaving_numbers net i) 0 ≡ Some e
      → IsGridEntry net dest i u (record { lower = ONE; upper = ONE; choice = Some e })
  later-certain e t u later is chosen head =
      let now : lo net dest i u ≡ ONE = omega (arith, is, laws.rise dest i t u later, laws.order dest i u, laws.whole dest i u) in
      let first = laws.found (worth_at t) i e (sym (laws.choice dest i t off) ∙ chosen) in
      let arc : Arc = first.arc in
      let then_worth : worth_at t arc ≡ net.scale * ONE = first.greatest ∙ whole-best t is in
      let rises : worth_at t arc ≤ worth_at u arc = laws.sums.rise (lo net dest arc.head) t u arc.time (laws.arc e arc first.number).time (λ a b _ up. laws.rise dest arc.head a b up) later in
      let numbered : worth_at u arc ≡ numbered_worth net (worth_at u) e = laws.among.number net (worth_at u) e arc first.number in
      let es : List ℕ = leaving_numbers net i in
      let all : take (length es) es ≡ es = take_all (length es) es (omega arith) in
      let best : best_among (numbered_worth net (worth_at u)) es ≡ net.scale * ONE = rw all at (laws.among.best_end net (worth_at u) i es (length es) refl (omega arith)) ∙ whole-best u now in
      let choice : choice_of net.arcs (worth_at u) i ≡ choice_among (numbered_worth net (worth_at u)) es = sym (rw all at (laws.among.choice_end net (worth_at u) i es (length es) refl (omega arith))) in
      let scale : 1 ≤ net.scale = laws.valid.scale in
      record {
        lower = sym now;
        upper = omega (arith, now, laws.order dest i u, laws.whole dest i u);
        choice = sym (laws.choice dest i u off ∙ choice ∙ choice-head (numbered_worth net (worth_at u)) es e head (omega arith) (omega arith));
      }

  -- an entry at or after the known end of a node whose last entry is so
  pub entry-certain : (s : NodeTable) (e u : ℕ) → IsReadyAt net dest i s → EndsCertain net i e s → known_end s ≤ u
      → IsGridEntry net dest i u (record { lower = ONE; upper = ONE; choice = Some e })
  entry-certain s e u ready is past =
      let kept = ready.settled.kept in
      let within : length s.lower - 1 < length s.lower = slice_get_within s.lower (length s.lower - 1) ONE is.value in
      let t : ℕ = s.front - 1 in
      let place : t - s.base ≡ length s.lower - 1 = omega (arith, kept.shape.lower, within) in
      let last : t - s.base ≡ length s.choices - 1 = omega (arith, kept.shape.lower, kept.shape.choices, within) in
      let low : s.base ≤ t = omega (arith, kept.shape.lower, within) in
      let less : t < s.front = omega (arith, kept.shape.lower, within) in
      let value : get_or s.lower (t - s.base) 0 ≡ ONE = ap (λ (k : ℕ). get_or s.lower k 0) place ∙ get_or_from_slice_get s.lower (length s.lower - 1) ONE 0 is.value in
      let taken : get_or s.choices (t - s.base) None ≡ Some e = ap (λ (k : ℕ). get_or s.choices k None) last ∙ get_or_from_slice_get s.choices (length s.choices - 1) (Some e) None is.choice in
      later-certain e t u (omega arith) (sym ((rw (le-ltb t s.base low) at (kept.lower t low less))) ∙ value) (sym ((rw (le-ltb t s.base low) at (kept.choice t low less))) ∙ taken) is.first
