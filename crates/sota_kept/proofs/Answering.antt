-- What is read from the tables once the needs of an ask are met.
use Rattle.std.proofs.Common.{ℕ, suc, Some, ◌≡◌, ◌≢◌, ◌+◌, ◌-◌, ◌*◌, ◌<◌, ◌≤◌, true, false, None, subst, refl, sym, ◌∙◌, arith, ⊎_elim}
use Rattle.std.proofs.lemmas.Bool.{cases_lt, cases_Bool, ne_eqb, lt-ltb, le-leb, true≢false}
use Rattle.sota_units.specs.Rounding.{ceiling_by}
use Rattle.sota_hist.specs.Time.{total}
use Rattle.sota_network.specs.Network.{Net, arc_at}
use Rattle.sota_network.specs.Grid.{plain_sum, best_sum, lo, hi, choice}
use Rattle.sota_units.specs.Limits.{BUDGET_LIMIT}
use Rattle.sota_network.specs.Walks.{Walk, empty}
use Rattle.sota_network.specs.Reach.{reaches, in_region}
use Rattle.sota_network.specs.Region.{need}
use Rattle.sota_network.specs.declared.network.Arc.{Arc}
use Rattle.sota_kept.specs.Ticks.{END_LIMIT, least_to}
use Rattle.sota_kept.specs.NodeTables.{NodeTable, IsSettledAt, IsReadyAt, known_end, next_of}
use Rattle.sota_kept.proofs.Counting.{ticks-reach}
use Rattle.sota_kept.proofs.Preparing.{need-all}
use Rattle.sota_kept.specs.Laws.{Lawful}
use Rattle.sota_kept.proofs.Networks.{arc-valid, hi-elsewhere, walk-reaches}

-- the values of an arc's sums are in order
arc-order : (net : Net) → Lawful net → (dest t e : ℕ) (a : Arc) → arc_at net e ≡ Some a → plain_sum a (lo net dest) t ≤ plain_sum a (hi net dest) t
arc-order net valid dest t e a at =
    let near : plain_sum a (lo net dest) t ≤ plain_sum a (hi net dest) t + total a.time * 0 =
    valid.sums.near (lo net dest a.head) (hi net dest a.head) 0 t a.time (arc-valid net valid e a at).time (λ u less. omega (arith, valid.order dest a.head u)) in
    omega arith

choice-none : (net : Net) (dest i t : ℕ) → i ≢ dest → best_sum net (lo net dest) i t ≡ 0 → choice net dest i t ≡ None
unfolding choice
choice-none net dest i t off none = rw (ne_eqb i dest off) (rw none refl)

-- where the upper value is 0 no arc is chosen
pub choice-zero : (net : Net) → Lawful net → (dest i t : ℕ) → i ≢ dest → hi net dest i t ≡ 0 → choice net dest i t ≡ None
choice-zero net valid dest i t off none =
    let ceiling : ceiling_by net.scale (best_sum net (hi net dest) i t) ≡ 0 = sym (hi-elsewhere net valid dest i t off) ∙ none in
    let up : best_sum net (hi net dest) i t ≤ ceiling_by net.scale (best_sum net (hi net dest) i t) * net.scale = valid.rounding.up net.scale (best_sum net (hi net dest) i t) valid.valid.scale in
    let top : best_sum net (hi net dest) i t ≤ 0 * net.scale = subst (λ (x : ℕ). best_sum net (hi net dest) i t ≤ x * net.scale) ceiling up in
    let le : best_sum net (lo net dest) i t ≤ best_sum net (hi net dest) i t + 0 =
    valid.near net (λ a. plain_sum a (lo net dest) t) (λ a. plain_sum a (hi net dest) t) 0 i
    (λ e a at tail. (e, a, at, tail, (let z : plain_sum a (lo net dest) t ≤ plain_sum a (hi net dest) t + 0 = omega (arith, arc-order net valid dest t e a at) in z))) in
    choice-none net dest i t off (omega arith)

-- below the known end the choice is known as well
pub known-choice : (net : Net) → Lawful net → (dest i : ℕ) (s : NodeTable) → i ≢ dest → IsSettledAt net dest i s → (t : ℕ) → t < known_end s → next_of s t ≡ choice net dest i t
known-choice net valid dest i s off is t early =
    ⊎_elim
    (λ (low : t < s.base). rw (lt-ltb t s.base low) (sym (choice-zero net valid dest i t off (is.empty t low).1)))
    (λ (high : s.base ≤ t). is.kept.choice t high (omega arith))
    (cases_lt t s.base)

-- once the origin's need is met, its last budget is known
pub asked-known : (net : Net) → Lawful net → (origin dest last : ℕ) → last ≤ BUDGET_LIMIT → origin ≢ dest → (s : NodeTable) → IsReadyAt net dest origin s → need net origin dest last origin ≤ known_end s → last < known_end s
asked-known net valid origin dest last within off s ready met =
    let c : ℕ = least_to net dest origin in
    ⊎_elim
    (λ (sure : reaches net dest dest origin last ≡ true).
    let here : Walk net dest origin origin 0 = empty in
    let stay : reaches net dest origin origin (last - last) ≡ true = walk-reaches net valid dest here (last - last) (omega arith) in
    let inside : in_region net origin dest last origin last ≡ true = rw (ne_eqb origin dest off, le-leb last last (omega arith), sure, stay) refl in
    let enough : suc last ≤ need net origin dest last origin = need-all net valid origin dest last within origin last inside in
    omega arith)
    (λ (never : reaches net dest dest origin last ≡ false).
    let under : last < c =
    ⊎_elim
    (λ (h : last < c). h)
    (λ (h : c ≤ last). absurd (true≢false (sym (le-leb c last h) ∙ sym (ticks-reach net valid dest dest origin END_LIMIT last (omega arith)) ∙ never)))
    (cases_lt last c) in
    ⊎_elim
    (λ (above : c < s.front). omega arith)
    (λ (below : s.front ≤ c). (let z : s.base ≡ c = ready.based below in omega arith))
    (cases_lt c s.front))
    (cases_Bool (reaches net dest dest origin last))
