-- A node with a pair in the region of an ask has both least times.
use Rattle.std.proofs.Common.{ℕ, zero, suc, ◌≡◌, ◌≢◌, ◌+◌, ◌-◌, ◌<◌, ◌≤◌, Bool, true, false, cond, not, ◌&&◌, ◌==◌, nat_le, List, [], ◌∷◌, refl, sym, ◌∙◌, ap, arith, ⊎_elim, subst}
use Rattle.std.specs.List.{count_by}
use Rattle.std.proofs.lemmas.Bool.{cases_lt, cases_Bool, true≢false, eqb-false, leb-true, and_parts, not-true}
use Rattle.std.proofs.lemmas.List.Sums.{sum_by-cons}
use Rattle.sota_network.specs.Network.{Net, IsNet, IsNode}
use Rattle.sota_network.specs.Walks.{Walk, empty, step, IsLeast}
use Rattle.sota_network.specs.Reach.{reaches, in_region}
use Rattle.sota_network.specs.Region.{budgets, pairs_at, HasLeastTimes}
use Rattle.sota_network.proofs.Recursion.{arc-valid}
use Rattle.sota_network.proofs.Reaching.{reach-walk, walk-reaches}

-- ---- the least number that passes a test
record IsFirst (test : ℕ → Bool) (last : ℕ) : Type 0 where
  pub first : ℕ
  pub passes : test first ≡ true
  pub within : first ≤ last
  pub least : (m : ℕ) → test m ≡ true → first ≤ m

passes-past : (test : ℕ → Bool) (a : ℕ) → ((m : ℕ) → m < a → test m ≡ false) → (m : ℕ) → test m ≡ true → a ≤ m
passes-past test a none m is =
    ⊎_elim (λ (less : m < a). absurd (true≢false (sym is ∙ none m less))) (λ (from : a ≤ m). from) (cases_lt m a)

one-more : (test : ℕ → Bool) (a : ℕ) → ((m : ℕ) → m < a → test m ≡ false) → test a ≡ false → (m : ℕ) → m < a + 1 → test m ≡ false
one-more test a none fails m less =
    ⊎_elim (λ (before : m < a). none m before) (λ (from : a ≤ m). let at : m ≡ a = omega arith in ap test at ∙ fails) (cases_lt m a)

first-from : (test : ℕ → Bool) (fuel a last : ℕ) → a + fuel ≡ last → test last ≡ true → ((m : ℕ) → m < a → test m ≡ false) → IsFirst test last
first-from test zero a last ends passes none =
    record { first = last; passes = passes; within = omega arith; least = λ m is. let past = passes-past test a none m is in omega arith }
first-from test (suc fuel) a last ends passes none =
    ⊎_elim
    (λ (here : test a ≡ true). record { first = a; passes = here; within = omega arith; least = passes-past test a none })
    (λ (fails : test a ≡ false). first-from test fuel (a + 1) last (omega arith) passes (one-more test a none fails))
    (cases_Bool (test a))

first-passing : (test : ℕ → Bool) (last : ℕ) → test last ≡ true → IsFirst test last
first-passing test last passes = first-from test last 0 last (omega arith) passes (λ m less. absurd (omega arith))

-- ---- least times
least-reached : (net : Net) → IsNet net → (dest i j t : ℕ) → reaches net dest j i t ≡ true → (n : ℕ) × IsLeast net dest i j n × (n ≤ t)
least-reached net valid dest i j t sure =
    let found = first-passing (λ n. reaches net dest j i n) t sure in
    let walk = reach-walk net valid dest j i found.first found.passes in
    let least : (m : ℕ) → Walk net dest i j m → found.first ≤ m = λ m other. found.least m (walk-reaches net valid dest other m (omega arith)) in
    let same : walk.0 ≡ found.first = omega (arith, walk.2, least walk.0 walk.1) in
    (found.first, record { walk = subst (λ (n : ℕ). Walk net dest i j n) same walk.1; least = least }, found.within)

-- who goes on stands at a node
walk-node : (net : Net) → IsNet net → (dest : ℕ) {i j n : ℕ} → Walk net dest i j n → i ≢ j → IsNode net i
walk-node net valid dest {i} empty apart = absurd (apart refl)
walk-node net valid dest (step e arc number leaves opened rest) apart = (arc-valid net valid e arc number).tail

pub inside-times : (net : Net) → IsNet net → (origin dest last i t : ℕ) → in_region net origin dest last i t ≡ true → HasLeastTimes net origin dest last i
inside-times net valid origin dest last i t inside =
    let one = and_parts (not (i == dest)) (nat_le t last && (reaches net dest dest i t && reaches net dest i origin (last - t))) inside in
    let two = and_parts (nat_le t last) (reaches net dest dest i t && reaches net dest i origin (last - t)) one.1 in
    let three = and_parts (reaches net dest dest i t) (reaches net dest i origin (last - t)) two.1 in
    let apart : i ≢ dest = eqb-false i dest (not-true (i == dest) one.0) in
    let early : t ≤ last = leb-true t last two.0 in
    let onward = least-reached net valid dest i dest t three.0 in
    let came = least-reached net valid dest origin i (last - t) three.1 in
    record {
      node = walk-node net valid dest onward.1.walk apart;
      elsewhere = apart;
      to = onward.0;
      onward = onward.1;
      from = came.0;
      came = came.1;
      within = omega (arith, onward.2, came.2, early);
    }

-- ---- what is counted is there
some-counted : (test : ℕ → Bool) (ts : List ℕ) → 1 ≤ count_by test ts → (t : ℕ) × (test t ≡ true)
some-counted test [] many = absurd (omega arith)
some-counted test (t ∷ ts) many =
    ⊎_elim
    (λ (here : test t ≡ true). (t, here))
    (λ (fails : test t ≡ false).
    let rest : count_by test (t ∷ ts) ≡ count_by test ts = sum_by-cons (λ (u : ℕ). cond (test u) 1 0) t ts ∙ (rw fails (omega arith)) in
    some-counted test ts (omega (arith, many, rest)))
    (cases_Bool (test t))

pub counted-times : (net : Net) → IsNet net → (origin dest last i : ℕ) → 1 ≤ pairs_at net origin dest last i → HasLeastTimes net origin dest last i
unfolding pairs_at
counted-times net valid origin dest last i many =
    let found = some-counted (λ t. in_region net origin dest last i t) (budgets last) many in
    inside-times net valid origin dest last i found.0 found.1
