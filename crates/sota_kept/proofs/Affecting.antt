-- What another time of an arc leaves as it is.
use Rattle.std.proofs.Common.{ℕ, zero, suc, ◌≡◌, ◌≢◌, ◌+◌, ◌-◌, ◌<◌, ◌≤◌, min, Bool, true, false, ◌||◌, ◌==◌, get_or, Some, Option, None, refl, sym, ◌∙◌, ap, arith, ⊎_elim, subst, nat_lt}
use Rattle.std.specs.List.{All}
use Rattle.std.proofs.lemmas.List.Elements.{All-filter, All-weaker}
use Rattle.std.proofs.lemmas.Bool.{cases_eq, cases_lt, cases_Bool, eq-eqb, ne_eqb, true≢false}
use Rattle.std.proofs.lemmas.Option.{slice_get-get_or}
use Rattle.sota_hist.specs.Time.{is_closed, least_tick, before}
use Rattle.sota_network.specs.Network.{Net, IsArc}
use Rattle.sota_network.specs.Grid.{weighed, plain_sum, best_sum, lo, hi, choice}
use Rattle.sota_network.specs.Walks.{Walk, IsLeastTime, empty, step}
use Rattle.sota_network.specs.Reach.{reaches}
use Rattle.sota_network.specs.declared.network.Arc.{Arc}
use Rattle.sota_units.specs.Rounding.{ONE, floor_by, ceiling_by}
use Rattle.sota_kept.proofs.Counting.{ticks-most, ticks-least, ticks-walk, ticks-time}
use Rattle.sota_kept.proofs.Alike.{Matches, changed-matches, best-matched, choice-matched}
use Rattle.sota_kept.proofs.Changed.{Changed, Far, changed-back, to-tail, from-head, same-old, far-old, weighed-before}
use Rattle.sota_kept.specs.Ticks.{ticks_to, up_to, END_LIMIT}
use Rattle.sota_kept.specs.Edits.{first_affected, first_affected_by, affected_if, IsUnder}
use Rattle.sota_kept.specs.Laws.{Lawful}
use Rattle.sota_kept.proofs.Networks.{arc-valid, hi-at_dest, hi-elsewhere, lo-at_dest, lo-elsewhere, reach-walk, walk-reaches, zero-at}

-- values of a network, with either rounding
pub record Values (net : Net) (dest : ℕ) (round : ℕ → ℕ → ℕ) (v : ℕ → ℕ → ℕ) (top : ℕ) : Type 0 where
  pub at_dest : (i t : ℕ) → i ≡ dest → v i t ≡ top
  pub elsewhere : (i t : ℕ) → (i ≡ dest → ⊥) → v i t ≡ round net.scale (best_sum net v i t)
  pub below : (i t : ℕ) → ((n : ℕ) → Walk net dest i dest n → t < n) → v i t ≡ 0

module _ (net other : Net) (dest k : ℕ) (a b : Arc) (is : Changed net other k a b) (s0 : ℕ) (alike : before s0 a.time ≡ before s0 b.time) where
  module _ (round : ℕ → ℕ → ℕ) (v w : ℕ → ℕ → ℕ) (top : ℕ) (vs : Values net dest round v top) (ws : Values other dest round w top) where
    -- the arc's own sums agree
    own-same : (t : ℕ) → ((n : ℕ) → Walk net dest a.head dest n → t < s0 + n) → ((u : ℕ) → u < t → v a.head u ≡ w a.head u) → plain_sum a v t ≡ plain_sum b w t
    own-same t far less =
        let arc : IsArc net a = arc-valid net is.valid (suc k) a is.found in
        let late : (s : ℕ) → s0 ≤ s → s ≤ t → (n : ℕ) → Walk net dest a.head dest n → t - s < n = λ s high le n walk. omega (arith, far n walk) in
        let late' : (s : ℕ) → s0 ≤ s → s ≤ t → (n : ℕ) → Walk other dest a.head dest n → t - s < n =
        λ s high le n walk.
        let old = from-head net other dest k a b is dest n walk in
        let first : t - s < old.sum = late s high le old.sum old.walk in
        let most : old.sum ≤ n = old.most in
        omega arith
        in
        let f : ℕ → ℕ = v a.head in
        let g : ℕ → ℕ = w a.head in
        let old : weighed f t a.time ≡ weighed f t (before s0 a.time) =
        weighed-before is.valid.sums f t s0 a.time (λ m d inside high le. vs.below a.head (t - (get_or a.time m d).0) (late (get_or a.time m d).0 high le)) in
        let new : weighed g t b.time ≡ weighed g t (before s0 b.time) =
        weighed-before is.valid.sums g t s0 b.time (λ m d inside high le. ws.below a.head (t - (get_or b.time m d).0) (late' (get_or b.time m d).0 high le)) in
        let positive : All (λ (p : ℕ × ℕ). 0 < p.0) (before s0 a.time) =
        All-filter (λ (p : ℕ × ℕ). nat_lt p.0 s0) (λ (p : ℕ × ℕ). 0 < p.0) a.time (is.valid.ticks.above 0 a.time arc.time) in
        let middle : weighed f t (before s0 a.time) ≡ weighed g t (before s0 a.time) =
        is.valid.sums.agree f g t (before s0 a.time)
        (All-weaker (λ (p : ℕ × ℕ). 0 < p.0) (λ (p : ℕ × ℕ). p.0 ≤ t → f (t - p.0) ≡ g (t - p.0)) (λ p pos le. less (t - p.0) (let z : t - p.0 < t = omega arith in z)) (before s0 a.time) positive) in
        rw is.heads (old ∙ middle ∙ ap (weighed g t) alike ∙ sym new)

    -- the arcs of a node match where smaller budgets agree
    arcs-match : (i t : ℕ) → (i ≡ dest → ⊥) → Far net other dest k a b is s0 i t → ((j u : ℕ) → u < t → Far net other dest k a b is s0 j u → v j u ≡ w j u)
        → Matches net other (λ x. plain_sum x v t) (λ x. plain_sum x w t) i
    arcs-match i t off far less =
        changed-matches net other k a b is (λ x. plain_sum x v t) (λ x. plain_sum x w t) i
        (λ tail.
        let leaves : a.tail ≢ dest = λ z. off (sym tail ∙ z) in
        let stay : Walk net dest i a.tail 0 = subst (λ (j : ℕ). Walk net dest i j 0) (sym tail) empty in
        let own : (n : ℕ) → Walk net dest a.head dest n → t < s0 + n = λ n walk. omega (arith, far leaves 0 stay n walk) in
        own-same t own (λ u early. less a.head u early (λ leave n w1 m w2. omega (arith, own m w2))))
        (λ f x at tail.
        let arc : IsArc net x = arc-valid net is.valid (suc f) x at in
        let leaves : x.tail ≢ dest = λ z. off (sym tail ∙ z) in
        is.valid.sums.agree (v x.head) (w x.head) t x.time
        (λ q d inside le.
        let p : ℕ × ℕ = get_or x.time q d in
        let pos : 0 < p.0 = is.valid.ticks.above 0 x.time arc.time q d inside in
        let first : least_tick x.time ≤ p.0 = is.valid.ticks.least x.time arc.time q d inside in
        less x.head (t - p.0) (omega arith)
        (λ leave n w1 m w2.
        let longer : Walk net dest i a.tail (least_tick x.time + n) = subst (λ (j : ℕ). Walk net dest j a.tail (least_tick x.time + n)) tail (step {n = n} (suc f) x at leaves (is.valid.ticks.opened x.time q p (slice_get-get_or x.time q d inside)) w1) in
        let limit : t < least_tick x.time + n + (s0 + m) = far leave (least_tick x.time + n) longer m w2 in
        omega arith)))

    same-below : (l i t : ℕ) → t < l → Far net other dest k a b is s0 i t → v i t ≡ w i t
    same-below zero i t h far = absurd (omega arith)
    same-below (suc l) i t h far =
        ⊎_elim
        (λ (at : i ≡ dest). vs.at_dest i t at ∙ sym (ws.at_dest i t at))
        (λ (off : i ≡ dest → ⊥).
        let bests : best_sum net v i t ≡ best_sum other w i t =
        best-matched net other is.valid is.valid' (λ x. plain_sum x v t) (λ x. plain_sum x w t) i
        (arcs-match i t off far (λ j u early far'. same-below l j u (omega arith) far')) in
        vs.elsewhere i t off ∙ (rw (bests, is.scale) refl) ∙ sym (ws.elsewhere i t off))
        (cases_eq i dest)

  lo-values : (other : Net) → Lawful other → Values other dest floor_by (lo other dest) ONE
  lo-values other valid = record {
    at_dest = λ i t at. lo-at_dest other valid dest i t at;
    elsewhere = λ i t off. lo-elsewhere other valid dest i t off;
    below = λ i t far. (let up : hi other dest i t ≡ 0 = zero-at other valid dest i t far in omega (arith, valid.order dest i t));
  }

  hi-values : (other : Net) → Lawful other → Values other dest ceiling_by (hi other dest) ONE
  hi-values other valid = record {
    at_dest = λ i t at. hi-at_dest other valid dest i t at;
    elsewhere = λ i t off. hi-elsewhere other valid dest i t off;
    below = λ i t far. zero-at other valid dest i t far;
  }

  abbrev pub IsFar : ℕ → ℕ → Type 0
  IsFar i t = Far net other dest k a b is s0 i t

  pub lo-unchanged : (i t : ℕ) → IsFar i t → lo net dest i t ≡ lo other dest i t
  lo-unchanged i t far = same-below floor_by (lo net dest) (lo other dest) ONE (lo-values net is.valid) (lo-values other is.valid') (suc t) i t (let z : t < suc t = omega arith in z) far

  pub hi-unchanged : (i t : ℕ) → IsFar i t → hi net dest i t ≡ hi other dest i t
  hi-unchanged i t far = same-below ceiling_by (hi net dest) (hi other dest) ONE (hi-values net is.valid) (hi-values other is.valid') (suc t) i t (let z : t < suc t = omega arith in z) far

  pub choice-unchanged : (i t : ℕ) → IsFar i t → choice net dest i t ≡ choice other dest i t
  unfolding choice
  choice-unchanged i t far =
      ⊎_elim
      (λ (at : i ≡ dest). rw (eq-eqb i dest at) refl)
      (λ (off : i ≡ dest → ⊥).
      rw (ne_eqb i dest off)
      (choice-matched net other is.valid is.valid' (λ x. plain_sum x (lo net dest) t) (λ x. plain_sum x (lo other dest) t) i
      (arcs-match floor_by (lo net dest) (lo other dest) ONE (lo-values net is.valid) (lo-values other is.valid') i t off far (λ j u early far'. lo-unchanged j u far'))))
      (cases_eq i dest)

  -- what is far for the network is far for the other
  far-there : (i t : ℕ) → IsFar i t → Far other net dest k b a (changed-back net other k a b is) s0 i t
  far-there i t far leaves n w1 m w2 =
      let one = to-tail net other dest k a b is i n (subst (λ (x : ℕ). Walk other dest i x n) is.tails w1) in
      let two = from-head net other dest k a b is dest m (subst (λ (x : ℕ). Walk other dest x dest m) is.heads w2) in
      let limit : t < one.sum + (s0 + two.sum) = far (λ z. leaves (is.tails ∙ z)) one.sum one.walk two.sum two.walk in
      let most : one.sum ≤ n = one.most in
      let most' : two.sum ≤ m = two.most in
      omega arith

  pub reach-unchanged : (i t : ℕ) → IsFar i t → reaches net dest dest i t ≡ reaches other dest dest i t
  reach-unchanged i t far =
      ⊎_elim
      (λ (here : reaches net dest dest i t ≡ true).
      let walk = reach-walk net is.valid dest dest i t here in
      let there = far-old other net dest k b a (changed-back net other k a b is) s0 i t walk.0 (sym alike) (far-there i t far) walk.1 walk.2 in
      let most : there.sum ≤ walk.0 = there.most in
      here ∙ sym (walk-reaches other is.valid' dest there.walk t (let z : there.sum ≤ t = omega (arith, walk.2) in z)))
      (λ (none : reaches net dest dest i t ≡ false).
      ⊎_elim
      (λ (there : reaches other dest dest i t ≡ true).
      let walk = reach-walk other is.valid' dest dest i t there in
      let here = far-old net other dest k a b is s0 i t walk.0 alike far walk.1 walk.2 in
      let most : here.sum ≤ walk.0 = here.most in
      absurd (true≢false (sym (walk-reaches net is.valid dest here.walk t (let z : here.sum ≤ t = omega (arith, walk.2) in z)) ∙ none)))
      (λ (never : reaches other dest dest i t ≡ false). none ∙ sym never)
      (cases_Bool (reaches other dest dest i t)))
      (cases_Bool (reaches net dest dest i t))

  -- below the first affected budget all is far
  pub first_affected-far : (i t : ℕ) → i ≢ dest → t < first_affected net dest a s0 i → IsFar i t
  first_affected-far i t off early leaves n w1 m w2 =
      let is-first_affected : first_affected net dest a s0 i ≡ min END_LIMIT (ticks_to net dest END_LIMIT a.tail i + (s0 + ticks_to net dest END_LIMIT dest a.head)) =
      rw (ne_eqb a.tail dest leaves, ne_eqb i dest off, first_affected) refl in
      let one : ticks_to net dest END_LIMIT a.tail i ≤ n = ⊎_elim (λ bad. absurd (ticks-least net is.valid dest a.tail i END_LIMIT n w1 bad)) (λ good. good) (cases_lt n (ticks_to net dest END_LIMIT a.tail i)) in
      let two : ticks_to net dest END_LIMIT dest a.head ≤ m = ⊎_elim (λ bad. absurd (ticks-least net is.valid dest dest a.head END_LIMIT m w2 bad)) (λ good. good) (cases_lt m (ticks_to net dest END_LIMIT dest a.head)) in
      omega arith

-- no least time to the arc's tail, or from its head, becomes less
ticks-le : (net other : Net) (dest limit i j : ℕ) → Lawful net → Lawful other → ((m : ℕ) → Walk other dest i j m → (n : ℕ) × Walk net dest i j n × (n ≤ m)) → ticks_to net dest limit j i ≤ ticks_to other dest limit j i
ticks-le net other dest limit i j valid valid' old =
    let c : ℕ = ticks_to net dest limit j i in
    let c' : ℕ = ticks_to other dest limit j i in
    let most : c ≤ limit = ticks-most net valid dest j i limit in
    ⊎_elim
    (λ (less : c' < c).
    let walk = ticks-walk other valid' dest j i limit (omega arith) in
    let here = old walk.0 walk.1 in
    absurd (ticks-least net valid dest j i limit here.0 here.1 (let z : here.0 < c = omega (arith, walk.2, here.2) in z)))
    (λ (le : c ≤ c'). le)
    (cases_lt c' c)

module _ (net other : Net) (dest k limit : ℕ) (a b : Arc) (is : Changed net other k a b) where
  tail-le : (i : ℕ) → ticks_to net dest limit a.tail i ≤ ticks_to other dest limit a.tail i
  tail-le i = ticks-le net other dest limit i a.tail is.valid is.valid' (λ m walk. let old = to-tail net other dest k a b is i m walk in (old.sum, old.walk, old.most))

  head-le : ticks_to net dest limit dest a.head ≤ ticks_to other dest limit dest a.head
  head-le = ticks-le net other dest limit a.head dest is.valid is.valid' (λ m walk. let old = from-head net other dest k a b is dest m walk in (old.sum, old.walk, old.most))

-- neither depends on the arc
module _ (net other : Net) (dest k limit : ℕ) (a b : Arc) (is : Changed net other k a b) where
  pub tail-unchanged : (i : ℕ) → ticks_to net dest limit a.tail i ≡ ticks_to other dest limit a.tail i
  tail-unchanged i =
      let le : ticks_to net dest limit a.tail i ≤ ticks_to other dest limit a.tail i = tail-le net other dest k limit a b is i in
      let ge : ticks_to other dest limit b.tail i ≤ ticks_to net dest limit b.tail i = tail-le other net dest k limit b a (changed-back net other k a b is) i in
      let ge' : ticks_to other dest limit a.tail i ≤ ticks_to net dest limit a.tail i = subst (λ (x : ℕ). ticks_to other dest limit x i ≤ ticks_to net dest limit x i) is.tails ge in
      omega arith

  pub head-unchanged : ticks_to net dest limit dest a.head ≡ ticks_to other dest limit dest a.head
  head-unchanged =
      let le : ticks_to net dest limit dest a.head ≤ ticks_to other dest limit dest a.head = head-le net other dest k limit a b is in
      let ge : ticks_to other dest limit dest b.head ≤ ticks_to net dest limit dest b.head = head-le other net dest k limit b a (changed-back net other k a b is) in
      let ge' : ticks_to other dest limit dest a.head ≤ ticks_to net dest limit dest a.head = subst (λ (x : ℕ). ticks_to other dest limit dest x ≤ ticks_to net dest limit dest x) is.heads ge in
      omega arith

-- a least time of the one is that of the other, where walks of each give walks of the other that are no longer
least-carried : (net other : Net) (dest i j : ℕ) → ((m : ℕ) → Walk other dest i j m → (n : ℕ) × Walk net dest i j n × (n ≤ m)) → ((m : ℕ) → Walk net dest i j m → (n : ℕ) × Walk other dest i j n × (n ≤ m))
    → (time : Option ℕ) → IsLeastTime net dest i j time → IsLeastTime other dest i j time
least-carried net other dest i j back forth None never = λ n walk. let old = back n walk in never old.0 old.1
least-carried net other dest i j back forth (Some n) is =
    let there = forth n is.walk in
    let again = back there.0 there.1 in
    let low : n ≤ again.0 = is.least again.0 again.1 in
    let same : there.0 ≡ n = omega (arith, there.2, again.2) in
    record {
      walk = subst (λ (x : ℕ). Walk other dest i j x) same there.1;
      least = λ m walk. let old = back m walk in let le : n ≤ old.0 = is.least old.0 old.1 in omega (arith, old.2);
    }

module _ (net other : Net) (dest k : ℕ) (a b : Arc) (is : Changed net other k a b) where
  tail-back : (i m : ℕ) → Walk other dest i a.tail m → (n : ℕ) × Walk net dest i a.tail n × (n ≤ m)
  tail-back i m walk = let old = to-tail net other dest k a b is i m walk in (old.sum, old.walk, old.most)

  head-back : (m : ℕ) → Walk other dest a.head dest m → (n : ℕ) × Walk net dest a.head dest n × (n ≤ m)
  head-back m walk = let old = from-head net other dest k a b is dest m walk in (old.sum, old.walk, old.most)

module _ (net other : Net) (dest k : ℕ) (a b : Arc) (is : Changed net other k a b) where
  same-back : least_tick a.time ≡ least_tick b.time → is_closed a.time ≡ is_closed b.time → (i j m : ℕ) → Walk other dest i j m → (n : ℕ) × Walk net dest i j n × (n ≤ m)
  same-back least alike i j m walk = let old = same-old net other dest k a b is i j m least alike walk in (old.sum, old.walk, old.most)

module _ (net other : Net) (dest k : ℕ) (a b : Arc) (is : Changed net other k a b) where
  -- where the least ticks agree, and the arc is open or closed in both, so do all least times
  pub same-least : least_tick a.time ≡ least_tick b.time → is_closed a.time ≡ is_closed b.time → (i j : ℕ) (time : Option ℕ) → IsLeastTime net dest i j time → IsLeastTime other dest i j time
  same-least least alike i j time =
      least-carried net other dest i j (same-back net other dest k a b is least alike i j)
      (same-back other net dest k b a (changed-back net other k a b is) (sym least) (sym alike) i j)
      time

  pub tail-least : (i : ℕ) (time : Option ℕ) → IsLeastTime net dest i a.tail time → IsLeastTime other dest i a.tail time
  tail-least i time =
      least-carried net other dest i a.tail (tail-back net other dest k a b is i)
      (subst (λ (x : ℕ). (m : ℕ) → Walk net dest i x m → (n : ℕ) × Walk other dest i x n × (n ≤ m)) is.tails (tail-back other net dest k b a (changed-back net other k a b is) i))
      time

  pub head-least : (time : Option ℕ) → IsLeastTime net dest a.head dest time → IsLeastTime other dest a.head dest time
  head-least time =
      least-carried net other dest a.head dest (head-back net other dest k a b is)
      (subst (λ (x : ℕ). (m : ℕ) → Walk net dest x dest m → (n : ℕ) × Walk other dest x dest n × (n ≤ m)) is.heads (head-back other net dest k b a (changed-back net other k a b is)))
      time

  -- below the first affected budget, by least times, all is far
  pub under-far : (s0 i t : ℕ) (to onward : Option ℕ) → i ≢ dest → IsLeastTime net dest i a.tail to → IsLeastTime net dest a.head dest onward → IsUnder t (first_affected_by dest a s0 i to onward) → Far net other dest k a b is s0 i t
  under-far s0 i t None onward off before after early leaves n w1 m w2 = absurd (before n w1)
  under-far s0 i t (Some x) None off before after early leaves n w1 m w2 = absurd (after m w2)
  under-far s0 i t (Some x) (Some y) off before after early leaves n w1 m w2 =
      let made : first_affected_by dest a s0 i (Some x) (Some y) ≡ Some (x + (s0 + y)) = rw (ne_eqb a.tail dest leaves, ne_eqb i dest off) refl in
      let low : t < x + (s0 + y) = subst (λ (o : Option ℕ). IsUnder t o) made early in
      let one : x ≤ n = before.least n w1 in
      let two : y ≤ m = after.least m w2 in
      omega arith

first_affected-sums : (s0 : ℕ) (never : Bool) (x y : Option ℕ) → (elim never as (λ _. ℕ) [ true ↦ END_LIMIT | false ↦ min END_LIMIT (up_to END_LIMIT x + (s0 + up_to END_LIMIT y)) ]) ≡ up_to END_LIMIT (affected_if never s0 x y)
first_affected-sums s0 true (Some x) (Some y) = refl
first_affected-sums s0 false (Some x) (Some y) = omega arith
first_affected-sums s0 true None y = refl
first_affected-sums s0 true (Some x) None = refl
first_affected-sums s0 false None y = omega arith
first_affected-sums s0 false (Some x) None = omega arith

-- the two forms of the first affected budget
pub first_affected-is : (net : Net) → Lawful net → (dest : ℕ) (a : Arc) (s0 i : ℕ) (to onward : Option ℕ) → IsLeastTime net dest i a.tail to → IsLeastTime net dest a.head dest onward
    → first_affected net dest a s0 i ≡ up_to END_LIMIT (first_affected_by dest a s0 i to onward)
first_affected-is net valid dest a s0 i to onward before after =
    let one : ticks_to net dest END_LIMIT a.tail i ≡ up_to END_LIMIT to = ticks-time net valid dest a.tail i END_LIMIT to before in
    let two : ticks_to net dest END_LIMIT dest a.head ≡ up_to END_LIMIT onward = ticks-time net valid dest dest a.head END_LIMIT onward after in
    ⊎_elim
    (λ (never : ((a.tail == dest) || (i == dest)) ≡ true). rw (never, first_affected) (first_affected-sums s0 true to onward))
    (λ (some : ((a.tail == dest) || (i == dest)) ≡ false). rw (some, first_affected) (rw (one, two) (first_affected-sums s0 false to onward)))
    (cases_Bool ((a.tail == dest) || (i == dest)))
