-- A network in which the time of one arc is another.
use Rattle.std.proofs.Common.{ℕ, zero, suc, ◌≡◌, ◌≢◌, ◌+◌, ◌-◌, ◌*◌, ◌<◌, ◌≤◌, ◌⊎◌, inl, inr, List, [], ◌∷◌, set, false, Some, slice_get, refl, sym, ◌∙◌, ap, arith, ⊎_elim, subst}
use Rattle.std.specs.List.{All}
use Rattle.std.proofs.lemmas.List.Elements.{All-head, All-tail}
use Rattle.std.proofs.lemmas.Bool.{cases_eq, cases_lt, lt-ltb, le-ltb}
use Rattle.sota_hist.specs.Time.{IsTime, RisesFrom, is_closed, least_tick, before}
use Rattle.sota_network.specs.Network.{Net, IsArc, arc_at}
use Rattle.sota_network.specs.Grid.{weighed}
use Rattle.sota_network.specs.Walks.{Walk, empty, step}
use Rattle.sota_network.specs.declared.network.Arc.{Arc}
use Rattle.sota_kept.specs.Laws.{Lawful}
use Rattle.sota_network.specs.Laws.{SumLaws}
use Rattle.sota_kept.proofs.Networks.{arc-valid}

-- pairs from a tick on, at which the values are 0, may be left out
pub weighed-before : SumLaws → (v : ℕ → ℕ) (t s : ℕ) (ps : List (ℕ × ℕ)) → All (λ (p : ℕ × ℕ). s ≤ p.0 → p.0 ≤ t → v (t - p.0) ≡ 0) ps → weighed v t ps ≡ weighed v t (before s ps)
weighed-before sums v t s [] none = refl
weighed-before sums v t s (p ∷ ps) none =
    let more : weighed v t ps ≡ weighed v t (before s ps) = weighed-before sums v t s ps (All-tail (λ (q : ℕ × ℕ). s ≤ q.0 → q.0 ≤ t → v (t - q.0) ≡ 0) p ps none) in
    ⊎_elim
    (λ (low : p.0 < s).
    rw (lt-ltb p.0 s low)
    (⊎_elim
    (λ (out : t < p.0). sums.outside v t p ps out ∙ more ∙ sym (sums.outside v t p (before s ps) out))
    (λ (inside : p.0 ≤ t). sums.inside v t p ps inside ∙ ap (λ (n : ℕ). p.1 * v (t - p.0) + n) more ∙ sym (sums.inside v t p (before s ps) inside))
    (cases_lt t p.0)))
    (λ (high : s ≤ p.0).
    rw (le-ltb p.0 s high)
    (⊎_elim
    (λ (out : t < p.0). sums.outside v t p ps out ∙ more)
    (λ (inside : p.0 ≤ t).
    let here : v (t - p.0) ≡ 0 = All-head (λ (q : ℕ × ℕ). s ≤ q.0 → q.0 ≤ t → v (t - q.0) ≡ 0) p ps none high inside in
    sums.inside v t p ps inside ∙ (rw here (let z : p.1 * 0 + weighed v t ps ≡ weighed v t ps = omega arith in z)) ∙ more)
    (cases_lt t p.0)))
    (cases_lt p.0 s)

-- no pair is below the first
before-none : (floor s : ℕ) (ps : List (ℕ × ℕ)) → RisesFrom floor ps → s ≤ suc floor → before s ps ≡ []
before-none floor s [] rises low = refl
before-none floor s (p ∷ ps) rises low =
    let late : s ≤ p.0 = omega (arith, rises.0) in
    rw (le-ltb p.0 s late) (before-none p.0 s ps rises.2 (omega (arith, rises.0)))

-- times with the same pairs below a tick have the same least tick where that of the second is below it, and then both are open
before-least : (s : ℕ) (ps qs : List (ℕ × ℕ)) → IsTime ps → before s ps ≡ before s qs → is_closed qs ≡ false → least_tick qs < s → (least_tick ps ≡ least_tick qs) × (is_closed ps ≡ false)
before-least s ps [] rises same some low = cc
before-least s [] (q ∷ qs) rises same some low =
    let has : before s (q ∷ qs) ≡ q ∷ before s qs = rw (lt-ltb q.0 s low) refl in
    cc
before-least s (p ∷ ps) (q ∷ qs) rises same some low =
    let has : before s (q ∷ qs) ≡ q ∷ before s qs = rw (lt-ltb q.0 s low) refl in
    ⊎_elim
    (λ (early : p.0 < s).
    let has' : before s (p ∷ ps) ≡ p ∷ before s ps = rw (lt-ltb p.0 s early) refl in
    let one : p ≡ q = cc in
    (ap (λ (x : ℕ × ℕ). x.0) one, refl))
    (λ (late : s ≤ p.0).
    let none : before s (p ∷ ps) ≡ [] = rw (le-ltb p.0 s late) (before-none p.0 s ps rises.2 (omega arith)) in
    cc)
    (cases_lt p.0 s)

the : {x y : Arc} → Some x ≡ Some y → x ≡ y
the h = cc

pub set-same : (k : ℕ) (a b : Arc) (arcs : List Arc) → slice_get arcs k ≡ Some a → slice_get (set arcs k b) k ≡ Some b
set-same k a b [] found = cc
set-same zero a b (x ∷ arcs) found = refl
set-same (suc k) a b (x ∷ arcs) found = set-same k a b arcs found

pub set-other : (k m : ℕ) (b : Arc) (arcs : List Arc) → (m ≡ k → ⊥) → slice_get (set arcs k b) m ≡ slice_get arcs m
set-other k m b [] apart = refl
set-other zero zero b (x ∷ arcs) apart = absurd (apart refl)
set-other zero (suc m) b (x ∷ arcs) apart = refl
set-other (suc k) zero b (x ∷ arcs) apart = refl
set-other (suc k) (suc m) b (x ∷ arcs) apart = set-other k m b arcs (λ z. apart (ap suc z))

pub set-back : (k : ℕ) (a b : Arc) (arcs : List Arc) → slice_get arcs k ≡ Some a → arcs ≡ set (set arcs k b) k a
set-back k a b [] found = refl
set-back zero a b (x ∷ arcs) found = (let same : x ≡ a = cc in ap (λ (y : Arc). y ∷ arcs) same)
set-back (suc k) a b (x ∷ arcs) found = ap (λ (ys : List Arc). x ∷ ys) (set-back k a b arcs found)

-- two networks that differ in the time of arc number k + 1 alone
pub record Changed (net other : Net) (k : ℕ) (a b : Arc) : Type 0 where
  pub valid : Lawful net
  pub valid' : Lawful other
  pub found : slice_get net.arcs k ≡ Some a
  pub arcs : other.arcs ≡ set net.arcs k b
  pub scale : other.scale ≡ net.scale
  pub tails : b.tail ≡ a.tail
  pub heads : b.head ≡ a.head

pub changed-found : (net other : Net) (k : ℕ) (a b : Arc) → Changed net other k a b → slice_get other.arcs k ≡ Some b
changed-found net other k a b is = ap (λ (xs : List Arc). slice_get xs k) is.arcs ∙ set-same k a b net.arcs is.found

-- and back
pub changed-back : (net other : Net) (k : ℕ) (a b : Arc) → Changed net other k a b → Changed other net k b a
changed-back net other k a b is = record {
  valid = is.valid';
  valid' = is.valid;
  found = changed-found net other k a b is;
  arcs = set-back k a b net.arcs is.found ∙ ap (λ (xs : List Arc). set xs k a) (sym is.arcs);
  scale = sym is.scale;
  tails = sym is.tails;
  heads = sym is.heads;
}

module _ (net other : Net) (dest k : ℕ) (a b : Arc) (is : Changed net other k a b) where
  -- a walk of the network of at most this sum
  pub record Old (i j m : ℕ) : Type 0 where
    pub sum : ℕ
    pub walk : Walk net dest i j sum
    pub most : sum ≤ m

  -- walks of the network to the arc and from it, that with the arc's other time have at most this sum
  pub record Through (i j m : ℕ) : Type 0 where
    pub before_it : ℕ
    pub after_it : ℕ
    pub to : Walk net dest i a.tail before_it
    pub from : Walk net dest a.head j after_it
    pub leaves : a.tail ≢ dest
    pub opened : is_closed b.time ≡ false
    pub most : before_it + least_tick b.time + after_it ≤ m

  abbrev Parts : ℕ → ℕ → ℕ → Type 0
  Parts i j m = Old i j m ⊎ Through i j m

  part-own : (j n : ℕ) (x : Arc) → x ≡ b → x.tail ≢ dest → is_closed x.time ≡ false → Parts x.head j n → Parts x.tail j (least_tick x.time + n)
  part-own j n x own leaves opened rest =
      let opened' : is_closed b.time ≡ false = subst (λ (y : Arc). is_closed y.time ≡ false) own opened in
      let tail : x.tail ≡ a.tail = ap (λ (y : Arc). y.tail) own ∙ is.tails in
      let head : x.head ≡ a.head = ap (λ (y : Arc). y.head) own ∙ is.heads in
      let least : least_tick x.time ≡ least_tick b.time = ap (λ (y : Arc). least_tick y.time) own in
      let stay : Walk net dest x.tail a.tail 0 = subst (λ (h : ℕ). Walk net dest x.tail h 0) tail empty in
      let leaves' : a.tail ≢ dest = λ z. leaves (tail ∙ z) in
      ⊎_elim
      (λ (one : Old x.head j n).
      let le : one.sum ≤ n = one.most in
      inr (record { before_it = 0; after_it = one.sum; to = stay; from = subst (λ (h : ℕ). Walk net dest h j one.sum) head one.walk; leaves = leaves'; opened = opened'; most = omega arith }))
      (λ (one : Through x.head j n).
      let le : one.before_it + least_tick b.time + one.after_it ≤ n = one.most in
      inr (record { before_it = 0; after_it = one.after_it; to = stay; from = one.from; leaves = leaves'; opened = opened'; most = omega arith }))
      rest

  part-other : (j n e : ℕ) (x : Arc) → arc_at net e ≡ Some x → x.tail ≢ dest → is_closed x.time ≡ false → Parts x.head j n → Parts x.tail j (least_tick x.time + n)
  part-other j n e x number leaves opened rest =
      ⊎_elim
      (λ (one : Old x.head j n).
      let le : one.sum ≤ n = one.most in
      inl (record { sum = least_tick x.time + one.sum; walk = step {n = one.sum} e x number leaves opened one.walk; most = omega arith }))
      (λ (one : Through x.head j n).
      let le : one.before_it + least_tick b.time + one.after_it ≤ n = one.most in
      inr (record { before_it = least_tick x.time + one.before_it; after_it = one.after_it; to = step {n = one.before_it} e x number leaves opened one.to; from = one.from; leaves = one.leaves; opened = one.opened; most = omega arith }))
      rest

  part-step : (j n e : ℕ) (x : Arc) → arc_at other e ≡ Some x → x.tail ≢ dest → is_closed x.time ≡ false → Parts x.head j n → Parts x.tail j (least_tick x.time + n)
  part-step j n zero x number leaves opened rest = cc
  part-step j n (suc f) x number leaves opened rest =
      let at : slice_get (set net.arcs k b) f ≡ Some x = subst (λ (xs : List Arc). slice_get xs f ≡ Some x) is.arcs number in
      ⊎_elim
      (λ (same : f ≡ k).
      let own : x ≡ b = the (sym (subst (λ (h : ℕ). slice_get (set net.arcs k b) h ≡ Some x) same at) ∙ set-same k a b net.arcs is.found) in
      part-own j n x own leaves opened rest)
      (λ (apart : f ≡ k → ⊥). part-other j n (suc f) x (sym (set-other k f b net.arcs apart) ∙ at) leaves opened rest)
      (cases_eq f k)

  -- a walk of the other network is one of this, or goes through the arc
  pub parts : {i j m : ℕ} → Walk other dest i j m → Parts i j m
  parts empty = inl (record { sum = 0; walk = empty; most = omega arith })
  parts (step {j} {n} e x number leaves opened rest) = part-step j n e x number leaves opened (parts rest)

  -- to the arc's tail, and from its head, the networks have the same walks as far as least times go
  pub to-tail : (i m : ℕ) → Walk other dest i a.tail m → Old i a.tail m
  to-tail i m walk =
      ⊎_elim
      (λ (one : Old i a.tail m). one)
      (λ (one : Through i a.tail m). let le : one.before_it + least_tick b.time + one.after_it ≤ m = one.most in record { sum = one.before_it; walk = one.to; most = omega arith })
      (parts walk)

  pub from-head : (j m : ℕ) → Walk other dest a.head j m → Old a.head j m
  from-head j m walk =
      ⊎_elim
      (λ (one : Old a.head j m). one)
      (λ (one : Through a.head j m). let le : one.before_it + least_tick b.time + one.after_it ≤ m = one.most in record { sum = one.after_it; walk = one.from; most = omega arith })
      (parts walk)

  -- a walk through the arc, where both times have the same least tick
  through-old : (i j m : ℕ) → least_tick a.time ≡ least_tick b.time → is_closed a.time ≡ false → Through i j m → Old i j m
  through-old i j m least opened one =
      let le : one.before_it + least_tick b.time + one.after_it ≤ m = one.most in
      let onward : Walk net dest a.tail j (least_tick a.time + one.after_it) = step {n = one.after_it} (suc k) a is.found one.leaves opened one.from in
      record { sum = one.before_it + (least_tick a.time + one.after_it); walk = is.valid.joined dest i a.tail j one.before_it (least_tick a.time + one.after_it) one.to onward; most = omega arith }

  -- where both times have the same least tick, and are open or closed alike, no least time changes
  pub same-old : (i j m : ℕ) → least_tick a.time ≡ least_tick b.time → is_closed a.time ≡ is_closed b.time → Walk other dest i j m → Old i j m
  same-old i j m least alike walk =
      ⊎_elim
      (λ (one : Old i j m). one)
      (λ (one : Through i j m). through-old i j m least (alike ∙ one.opened) one)
      (parts walk)

  -- below this budget nothing of node i changes
  abbrev pub Far : ℕ → ℕ → ℕ → Type 0
  Far s0 i t = a.tail ≢ dest → (n : ℕ) → Walk net dest i a.tail n → (m : ℕ) → Walk net dest a.head dest m → t < n + (s0 + m)

  -- a walk that is in time there is one of the network
  pub far-old : (s0 i t m : ℕ) → before s0 a.time ≡ before s0 b.time → Far s0 i t → Walk other dest i dest m → m ≤ t → Old i dest m
  far-old s0 i t m alike far walk early =
      ⊎_elim
      (λ (one : Old i dest m). one)
      (λ (one : Through i dest m).
      ⊎_elim
      (λ (low : least_tick b.time < s0).
      let arc : IsArc net a = arc-valid net is.valid (suc k) a is.found in
      let least = before-least s0 a.time b.time arc.time alike one.opened low in
      through-old i dest m least.0 least.1 one)
      (λ (high : s0 ≤ least_tick b.time).
      let limit : t < one.before_it + (s0 + one.after_it) = far one.leaves one.before_it one.to one.after_it one.from in
      let le : one.before_it + least_tick b.time + one.after_it ≤ m = one.most in
      absurd (omega arith))
      (cases_lt (least_tick b.time) s0))
      (parts walk)
