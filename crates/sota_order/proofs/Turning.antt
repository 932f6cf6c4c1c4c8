-- The turns of nodes.
use Rattle.std.proofs.Common.{ℕ, suc, ◌≡◌, ◌+◌, ◌-◌, ◌<◌, ◌≤◌, max, ◌==◌, cond, nat_lt, false, List, [], ◌∷◌, length, get_or, set, refl, sym, ◌∙◌, ap, arith, ⊎_elim, subst}
use Rattle.std.specs.List.{All}
use Rattle.std.specs.List.Sorted.{IsPermutation}
use Rattle.std.specs.BinaryHeap.{IsUpperBound}
use Rattle.std.specs.Ordering.{nat_cmp, ordering_then, is_lt}
use Rattle.std.specs.declared.cmp.Ordering.{Ordering}
use Rattle.std.specs.declared.cmp.Ordering.TheVariants.{Less, Equal, Greater}
use Rattle.std.proofs.lemmas.Bool.{cases_lt, cases_eq, eq-eqb, ne_eqb, lt-ltb, le-ltb}
use Rattle.std.proofs.lemmas.List.Elements.{All-nil, All-cons, All-head, All-tail}
use Rattle.std.proofs.lemmas.List.Sums.{sum_by-cons}
use Rattle.std.proofs.lemmas.List.Sorted.{le_from_greatest, All-permutation, sum_by-IsPermutation}
use Rattle.std.proofs.lemmas.List.{get_or-set_same, get_or-set_other}
use Rattle.sota_order.specs.Orders.{OrderView, order_end, need_at, with_front}
use Rattle.sota_order.specs.Queue.{by_end, turns_of, IsTurn, AreTurns}
use Rattle.sota_order.specs.declared.order.Turn.{Turn}

-- what comes first decides unless it is `Equal`
first-decides : (a b : Ordering) → is_lt (ordering_then a b) ≡ false → is_lt a ≡ false
first-decides Less b e = e
first-decides Equal b e = refl
first-decides Greater b e = e

-- the greatest turn is at the least end
pub least-end : (turn : Turn) (turns : List Turn) → IsUpperBound by_end turn turns → All (λ (v : Turn). turn.end.0 ≤ v.end.0) turns
least-end turn [] greatest = All-nil (λ (v : Turn). turn.end.0 ≤ v.end.0)
least-end turn (v ∷ turns) greatest =
    let later : turn.end.0 ≤ v.end.0 =
    le_from_greatest v.end.0 (turn.end.0 ∷ []) (first-decides (nat_cmp v.end.0 turn.end.0) (nat_cmp turn.node v.node) greatest.0, tt) 0 0 (omega arith) in
    All-cons (λ (v : Turn). turn.end.0 ≤ v.end.0) v turns later (least-end turn turns greatest.1)

-- ---- counts
turns-cons : (i : ℕ) (v : Turn) (turns : List Turn) → turns_of i (v ∷ turns) ≡ cond (v.node == i) 1 0 + turns_of i turns
turns-cons i v turns = sum_by-cons (λ (w : Turn). cond (w.node == i) 1 0) v turns

turns-own : (i : ℕ) (v : Turn) (turns : List Turn) → v.node ≡ i → turns_of i (v ∷ turns) ≡ 1 + turns_of i turns
turns-own i v turns at = turns-cons i v turns ∙ (rw (eq-eqb v.node i at) refl)

turns-other : (i : ℕ) (v : Turn) (turns : List Turn) → (v.node ≡ i → ⊥) → turns_of i (v ∷ turns) ≡ turns_of i turns
turns-other i v turns off = turns-cons i v turns ∙ (rw (ne_eqb v.node i off) (omega arith))

turns-moved : (i : ℕ) (xs ys : List Turn) → IsPermutation xs ys → turns_of i ys ≡ turns_of i xs
turns-moved i xs ys moved = sum_by-IsPermutation (λ (w : Turn). cond (w.node == i) 1 0) xs ys moved

-- no turn of a node that has none
turns-none : (i : ℕ) (turns : List Turn) → turns_of i turns ≡ 0 → All (λ (v : Turn). v.node ≡ i → ⊥) turns
turns-none i [] none = All-nil (λ (v : Turn). v.node ≡ i → ⊥)
turns-none i (v ∷ turns) none =
    ⊎_elim
    (λ (at : v.node ≡ i). absurd (let h : turns_of i (v ∷ turns) ≡ 1 + turns_of i turns = turns-own i v turns at in omega arith))
    (λ (off : v.node ≡ i → ⊥). All-cons (λ (w : Turn). w.node ≡ i → ⊥) v turns off (turns-none i turns (sym (turns-other i v turns off) ∙ none)))
    (cases_eq v.node i)

-- a node that has a turn has one in which what holds of all holds
turns-some : (P : Turn → Type 0) (i : ℕ) (turns : List Turn) → 0 < turns_of i turns → All P turns → (v : Turn) × (v.node ≡ i) × P v
turns-some P i [] some all = absurd (omega arith)
turns-some P i (v ∷ turns) some all =
    ⊎_elim
    (λ (at : v.node ≡ i). (v, at, All-head P v turns all))
    (λ (off : v.node ≡ i → ⊥). turns-some P i turns (let h : turns_of i (v ∷ turns) ≡ turns_of i turns = turns-other i v turns off in omega arith) (All-tail P v turns all))
    (cases_eq v.node i)

-- ---- a turn that is taken
ltb-from : (a b n : ℕ) → cond (nat_lt a b) 1 0 ≡ suc n → a < b
ltb-from a b n is =
    ⊎_elim
    (λ (less : a < b). less)
    (λ (more : b ≤ a). absurd (let z : 0 ≡ suc n = (rw (le-ltb a b more) at is) in omega arith))
    (cases_lt a b)

module _ (w : OrderView) (last : ℕ) (xs : List Turn) (are : AreTurns w last xs) (long : last ≡ length w.needs) (v : Turn) (ys : List Turn) (moved : IsPermutation xs (v ∷ ys)) where
  each : All (IsTurn w) (v ∷ ys)
  each = All-permutation (IsTurn w) xs (v ∷ ys) moved are.each

  pub taken-turn : IsTurn w v
  taken-turn = All-head (IsTurn w) v ys each

  own-count : cond (nat_lt (order_end w v.node) (need_at w v.node)) 1 0 ≡ suc (turns_of v.node ys)
  own-count =
      sym (are.once v.node taken-turn.node.0 (let h : v.node ≤ length w.needs = taken-turn.node.1 in omega arith))
      ∙ sym (turns-moved v.node xs (v ∷ ys) moved) ∙ turns-own v.node v ys refl ∙ (let z : 1 + turns_of v.node ys ≡ suc (turns_of v.node ys) = omega arith in z)

  pub taken-needed : order_end w v.node < need_at w v.node
  taken-needed = ltb-from (order_end w v.node) (need_at w v.node) (turns_of v.node ys) own-count

  taken-rest : turns_of v.node ys ≡ 0
  taken-rest =
      let one : cond (nat_lt (order_end w v.node) (need_at w v.node)) 1 0 ≡ 1 = rw (lt-ltb (order_end w v.node) (need_at w v.node) taken-needed) refl in
      let both : 1 ≡ suc (turns_of v.node ys) = sym one ∙ own-count in
      omega (arith, both)

  -- no node that is not known as far as it is needed has a lesser end
  pub taken-least : IsUpperBound by_end v xs → (j : ℕ) → 1 ≤ j → j ≤ last → order_end w j < need_at w j → order_end w v.node ≤ order_end w j
  taken-least greatest j low high needed =
      let count : turns_of j xs ≡ 1 = are.once j low high ∙ (rw (lt-ltb (order_end w j) (need_at w j) needed) refl) in
      let both : All (λ (u : Turn). (u.end.0 ≡ order_end w u.node) × (v.end.0 ≤ u.end.0)) xs =
      λ k d h. ((are.each k d h).end, least-end v xs greatest k d h) in
      let found = turns-some (λ (u : Turn). (u.end.0 ≡ order_end w u.node) × (v.end.0 ≤ u.end.0)) j xs (omega arith) both in
      let mine : v.end.0 ≡ order_end w v.node = taken-turn.end in
      let theirs : found.0.end.0 ≡ order_end w j = found.2.0 ∙ ap (order_end w) found.1 in
      let le : v.end.0 ≤ found.0.end.0 = found.2.1 in
      omega arith

  -- ---- the node's front is another
  module _ (to : ℕ) (more : order_end w v.node < to) (within : v.node ≤ length w.fronts) where
    pub front-own : order_end (with_front w v.node to) v.node ≡ to
    front-own =
        let low : 1 ≤ v.node = taken-turn.node.0 in
        let at : get_or (set w.fronts (v.node - 1) to) (v.node - 1) 0 ≡ to = get_or-set_same w.fronts (v.node - 1) to 0 (omega arith) in
        rw at (omega arith)

    pub front-other : (j : ℕ) → 1 ≤ j → (j ≡ v.node → ⊥) → order_end (with_front w v.node to) j ≡ order_end w j
    front-other j from off =
        let low : 1 ≤ v.node = taken-turn.node.0 in
        let at : get_or (set w.fronts (v.node - 1) to) (j - 1) 0 ≡ get_or w.fronts (j - 1) 0 = get_or-set_other w.fronts (v.node - 1) (j - 1) to 0 (λ z. off (omega arith)) in
        rw at refl

    pub front-rises : (j : ℕ) → 1 ≤ j → order_end w j ≤ order_end (with_front w v.node to) j
    front-rises j from =
        ⊎_elim
        (λ (at : j ≡ v.node). rw (at, front-own) (omega arith))
        (λ (off : j ≡ v.node → ⊥). rw (front-other j from off) (omega arith))
        (cases_eq j v.node)

    -- the other turns stay
    rest-turns : All (IsTurn (with_front w v.node to)) ys
    rest-turns k d h =
        let old : IsTurn w (get_or ys k d) = All-tail (IsTurn w) v ys each k d h in
        let apart : (get_or ys k d).node ≡ v.node → ⊥ = turns-none v.node ys taken-rest k d h in
        record { node = old.node; end = old.end ∙ sym (front-other (get_or ys k d).node old.node.0 apart) }

    rest-once : (i : ℕ) → (i ≡ v.node → ⊥) → turns_of i ys ≡ turns_of i xs
    rest-once i off = sym (turns-other i v ys (λ z. off (sym z))) ∙ turns-moved i xs (v ∷ ys) moved

    pub turns-met : need_at w v.node ≤ to → AreTurns (with_front w v.node to) last ys
    turns-met enough = record {
      each = rest-turns;
      once = λ i low high.
          ⊎_elim
          (λ (at : i ≡ v.node).
          let none : turns_of i ys ≡ 0 = ap (λ (x : ℕ). turns_of x ys) at ∙ taken-rest in
          let end : order_end (with_front w v.node to) i ≡ to = ap (order_end (with_front w v.node to)) at ∙ front-own in
          let need : need_at w i ≤ to = subst (λ (x : ℕ). need_at w x ≤ to) (sym at) enough in
          none ∙ sym (rw (end, le-ltb to (need_at w i) need) refl))
          (λ (off : i ≡ v.node → ⊥). rest-once i off ∙ are.once i low high ∙ sym (rw (front-other i low off) refl))
          (cases_eq i v.node);
      later = λ i far. rest-once i (λ z. (let h : v.node ≤ length w.needs = taken-turn.node.1 in omega arith)) ∙ are.later i far;
    }

    pub turns-again : (zs : List Turn) (u : Turn) → u.node ≡ v.node → u.end.0 ≡ to → IsPermutation (u ∷ ys) zs → to < need_at w v.node → AreTurns (with_front w v.node to) last zs
    turns-again zs u same end put less = record {
      each =
          All-permutation (IsTurn (with_front w v.node to)) (u ∷ ys) zs put
          (All-cons (IsTurn (with_front w v.node to)) u ys (record { node = rw same taken-turn.node; end = end ∙ sym front-own ∙ ap (order_end (with_front w v.node to)) (sym same) }) rest-turns);
      once = λ i low high.
          ⊎_elim
          (λ (at : i ≡ v.node).
          let one : turns_of i zs ≡ 1 =
          turns-moved i (u ∷ ys) zs put ∙ turns-own i u ys (same ∙ sym at) ∙ (let none : turns_of i ys ≡ 0 = ap (λ (x : ℕ). turns_of x ys) at ∙ taken-rest in omega arith) in
          let now : order_end (with_front w v.node to) i ≡ to = ap (order_end (with_front w v.node to)) at ∙ front-own in
          let need : to < need_at w i = subst (λ (x : ℕ). to < need_at w x) (sym at) less in
          one ∙ sym (rw (now, lt-ltb to (need_at w i) need) refl))
          (λ (off : i ≡ v.node → ⊥).
          turns-moved i (u ∷ ys) zs put ∙ turns-other i u ys (λ z. off (sym z ∙ same)) ∙ rest-once i off ∙ are.once i low high ∙ sym (rw (front-other i low off) refl))
          (cases_eq i v.node);
      later = λ i far.
          let off : i ≡ v.node → ⊥ = λ z. (let h : v.node ≤ length w.needs = taken-turn.node.1 in omega arith) in
          turns-moved i (u ∷ ys) zs put ∙ turns-other i u ys (λ z. off (sym z ∙ same)) ∙ rest-once i off ∙ are.later i far;
    }

-- ---- turns that are queued one after another
pub turns-first : (w : OrderView) → AreTurns w 0 []
turns-first w = record { each = All-nil (IsTurn w); once = λ i low high. absurd (omega arith); later = λ i far. refl }

pub turns-skip : (w : OrderView) (k : ℕ) (xs : List Turn) → AreTurns w k xs → need_at w (k + 1) ≤ order_end w (k + 1) → AreTurns w (k + 1) xs
turns-skip w k xs are met = record {
  each = are.each;
  once = λ i low high.
      ⊎_elim
      (λ (at : i ≡ k + 1).
      let met' : need_at w i ≤ order_end w i = subst (λ (x : ℕ). need_at w x ≤ order_end w x) (sym at) met in
      are.later i (omega arith) ∙ sym (rw (le-ltb (order_end w i) (need_at w i) met') refl))
      (λ (off : i ≡ k + 1 → ⊥). are.once i low (omega arith))
      (cases_eq i (k + 1));
  later = λ i far. are.later i (omega arith);
}

pub turns-more : (w : OrderView) (k : ℕ) (xs zs : List Turn) (u : Turn) → AreTurns w k xs → u.node ≡ k + 1 → k + 1 ≤ length w.needs → u.end.0 ≡ order_end w (k + 1) → order_end w (k + 1) < need_at w (k + 1) → IsPermutation (u ∷ xs) zs
    → AreTurns w (k + 1) zs
turns-more w k xs zs u are own within end less put = record {
  each =
      All-permutation (IsTurn w) (u ∷ xs) zs put
      (All-cons (IsTurn w) u xs (record { node = (omega arith, omega arith); end = end ∙ ap (order_end w) (sym own) }) are.each);
  once = λ i low high.
      ⊎_elim
      (λ (at : i ≡ k + 1).
      let less' : order_end w i < need_at w i = subst (λ (x : ℕ). order_end w x < need_at w x) (sym at) less in
      let none : turns_of i xs ≡ 0 = are.later i (omega arith) in
      turns-moved i (u ∷ xs) zs put ∙ turns-own i u xs (own ∙ sym at) ∙ (let z : 1 + turns_of i xs ≡ 1 = omega arith in z) ∙ sym (rw (lt-ltb (order_end w i) (need_at w i) less') refl))
      (λ (off : i ≡ k + 1 → ⊥). turns-moved i (u ∷ xs) zs put ∙ turns-other i u xs (λ z. off (sym z ∙ own)) ∙ are.once i low (omega arith))
      (cases_eq i (k + 1));
  later = λ i far. turns-moved i (u ∷ xs) zs put ∙ turns-other i u xs (λ z. omega arith) ∙ are.later i (omega arith);
}

-- the node of an index
pub end-place : (w : OrderView) (k : ℕ) → order_end w (k + 1) ≡ max (get_or w.fronts k 0) (get_or w.bases k 0)
end-place w k = ap (λ (x : ℕ). max (get_or w.fronts x 0) (get_or w.bases x 0)) (let z : k + 1 - 1 ≡ k = omega arith in z)

pub need-place : (w : OrderView) (k : ℕ) → need_at w (k + 1) ≡ get_or w.needs k 0
need-place w k = ap (λ (x : ℕ). get_or w.needs x 0) (let z : k + 1 - 1 ≡ k = omega arith in z)
