-- A loop over the arcs that leave a node: how far it can be known.
use Rattle.std.proofs.Common.{ℕ, zero, suc, ◌≡◌, ◌+◌, ◌<◌, ◌≤◌, ◌⊎◌, inl, inr, min, ◌==◌, true, List, [], ◌∷◌, length, get_or, Option, None, Some, refl, sym, ◌∙◌, ap, arith, ⊎_elim}
use Rattle.std.specs.List.{All, Contains}
use Rattle.std.proofs.lemmas.Bool.{cases_lt, eqb-true, eq-eqb}
use Rattle.sota_network.specs.Network.{Net, arc_at}
use Rattle.sota_network.specs.Numbers.{numbers}
use Rattle.sota_network.specs.declared.network.Arc.{Arc}
use Rattle.sota_order.specs.Orders.{OrderView, IsReach, need_at, bound_of}

-- after the first k numbers, where each arc has a bound or none
pub record Reached (net : Net) (bound : Arc → Option ℕ) (node needed : ℕ) (es : List ℕ) (k to : ℕ) : Type 0 where
  pub need : to ≤ needed
  pub arcs : (m d : ℕ) → m < k → (arc : Arc) (n : ℕ) → arc_at net (get_or es m d) ≡ Some arc → bound arc ≡ Some n → to ≤ n
  pub attained : (to ≡ needed) ⊎ ((e : ℕ) × (arc : Arc) × (arc_at net e ≡ Some arc) × (arc.tail ≡ node) × (bound arc ≡ Some to))

pub get_or-default : (xs : List ℕ) (k d e : ℕ) → k < length xs → get_or xs k d ≡ get_or xs k e
get_or-default [] k d e h = absurd (omega arith)
get_or-default (x ∷ xs) zero d e h = refl
get_or-default (x ∷ xs) (suc k) d e h = get_or-default xs k d e (omega arith)

the-arc : {x y : Arc} → Some x ≡ Some y → x ≡ y
the-arc h = cc

the-bound : {x y : ℕ} → Some x ≡ Some y → x ≡ y
the-bound h = cc

-- the numbers of the arcs that leave a node
abbrev pub numbers_at : Net → ℕ → List ℕ
numbers_at net node = numbers (λ (arc : Arc). arc.tail == node) 1 net.arcs

-- the arc that has one of them leaves the node
pub leaves : (net : Net) (node : ℕ) (es : List ℕ) (k e : ℕ) (arc : Arc) → All (λ (n : ℕ). (a : Arc) × (arc_at net n ≡ Some a) × ((a.tail == node) ≡ true)) (numbers_at net node) → es ≡ numbers_at net node
    → k < length es → e ≡ get_or es k e → arc_at net e ≡ Some arc → arc.tail ≡ node
leaves net node es k e arc only same within is number =
    let all : All (λ (n : ℕ). (a : Arc) × (arc_at net n ≡ Some a) × ((a.tail == node) ≡ true)) es = rw same only in
    let out = all k e within in
    let own : out.0 ≡ arc = the-arc (sym out.1 ∙ ap (arc_at net) (sym is) ∙ number) in
    ap (λ (a : Arc). a.tail) (sym own) ∙ eqb-true out.0.tail node out.2

-- what an arc leaves of a reach
abbrev pub lessened : Option ℕ → ℕ → ℕ
lessened None to = to
lessened (Some n) to = min n to

lessened-le : (bound : Option ℕ) (to : ℕ) → lessened bound to ≤ to
lessened-le None to = omega arith
lessened-le (Some n) to = omega arith

lessened-bound : (bound : Option ℕ) (to n : ℕ) → bound ≡ Some n → lessened bound to ≤ n
lessened-bound None to n at = cc
lessened-bound (Some m) to n at = let same : m ≡ n = the-bound at in omega arith

lessened-is : (bound : Option ℕ) (to : ℕ) → (lessened bound to ≡ to) ⊎ (bound ≡ Some (lessened bound to))
lessened-is None to = inl refl
lessened-is (Some n) to =
    ⊎_elim
    (λ (less : n < to). inr (ap (λ (x : ℕ). Some x) (let z : n ≡ min n to = omega arith in z)))
    (λ (more : to ≤ n). inl (let z : min n to ≡ to = omega arith in z))
    (cases_lt n to)

module _ (net : Net) (bound : Arc → Option ℕ) (node needed : ℕ) (es : List ℕ) where
  pub reached-none : Reached net bound node needed es 0 needed
  reached-none = record { need = omega arith; arcs = λ m d less. absurd (omega arith); attained = inl refl }

  -- one number more, and the arc that it has
  pub reached-more : (k e to : ℕ) (arc : Arc) → Reached net bound node needed es k to → k < length es → e ≡ get_or es k e → arc_at net e ≡ Some arc → arc.tail ≡ node
      → Reached net bound node needed es (k + 1) (lessened (bound arc) to)
  reached-more k e to arc is within at number tail =
      let le : lessened (bound arc) to ≤ to = lessened-le (bound arc) to in
      record {
        need = (let h : to ≤ needed = is.need in omega arith);
        arcs = λ m d under other n found bounded.
            ⊎_elim
            (λ (before : m < k). let h : to ≤ n = is.arcs m d before other n found bounded in omega arith)
            (λ (here : k ≤ m).
            let same : m ≡ k = omega arith in
            let read : get_or es m d ≡ e = ap (λ (x : ℕ). get_or es x d) same ∙ get_or-default es k d e within ∙ sym at in
            let own : other ≡ arc = the-arc (sym found ∙ ap (arc_at net) read ∙ number) in
            lessened-bound (bound arc) to n (ap bound (sym own) ∙ bounded))
            (cases_lt m k);
        attained =
            ⊎_elim
            (λ (same : lessened (bound arc) to ≡ to). ⊎_elim (λ (h : to ≡ needed). inl (same ∙ h)) (λ h. inr (h.0, h.1, h.2, h.3, h.4 ∙ ap (λ (x : ℕ). Some x) (sym same))) is.attained)
            (λ (new : bound arc ≡ Some (lessened (bound arc) to)). inr (e, arc, number, tail, new))
            (lessened-is (bound arc) to);
      }

-- after all of them
pub reached-all : (net : Net) (dest : ℕ) (fronts bases : List ℕ) (node needed : ℕ) (es : List ℕ) (k to : ℕ) → Reached net (bound_of dest fronts bases) node needed es k to → length es ≤ k
    → es ≡ numbers_at net node → ((e : ℕ) (arc : Arc) → arc_at net e ≡ Some arc → (arc.tail == node) ≡ true → Contains (numbers_at net node) e)
    → (w : OrderView) → w.dest ≡ dest → w.fronts ≡ fronts → w.bases ≡ bases → need_at w node ≡ needed → IsReach net w node to
reached-all net dest fronts bases node needed es k to is all same every w at-dest at-fronts at-bases at-need = record {
  need = rw at-need is.need;
  arcs = λ e arc n number tail bounded.
      let has : Contains es e = rw same (every e arc number (eq-eqb arc.tail node tail)) in
      let read : arc_at net (get_or es has.0 e) ≡ Some arc = ap (arc_at net) has.2 ∙ number in
      let here : bound_of dest fronts bases arc ≡ Some n = (rw (at-dest, at-fronts, at-bases) at bounded) in
      is.arcs has.0 e (omega (arith, has.1)) arc n read here;
  attained =
      ⊎_elim
      (λ (h : to ≡ needed). inl (h ∙ sym at-need))
      (λ h. inr (h.0, h.1, h.2, h.3, rw (at-dest, at-fronts, at-bases) h.4))
      is.attained;
}
