-- The end of an ask: the state, and how many entries were pushed.
use Rattle.std.proofs.Common.{ℕ, zero, suc, ◌≡◌, ◌≢◌, ◌+◌, ◌<◌, ◌≤◌, max, [], ◌∷◌, refl, sym, ◌∙◌, ap, arith, ⊎_elim}
use Rattle.std.specs.List.{sum}
use Rattle.std.proofs.lemmas.Bool.{cases_eq}
use Rattle.std.proofs.lemmas.List.Sums.{sum_by-append}
use Rattle.sota_network.specs.Network.{Net, IsNode}
use Rattle.sota_units.specs.Limits.{BUDGET_LIMIT}
use Rattle.sota_network.specs.Numbers.{listed}
use Rattle.sota_network.specs.Region.{need}
use Rattle.sota_kept.specs.NodeTables.{AreReady, known_end}
use Rattle.sota_kept.specs.States.{State, grown_state, prepared_state, missing, missing_in, front_of}
use Rattle.sota_kept.specs.TableLists.{TableLists, table_of, state_of}
use Rattle.sota_kept.specs.Asks.{IsGrown, left_to_push}
use Rattle.sota_kept.proofs.Preparing.{grown-front}
use Rattle.sota_network.specs.Laws.{ListLaws}
use Rattle.sota_kept.specs.Laws.{Lawful}

pub state-grown : ListLaws → (net : Net) → Lawful net → (origin dest last : ℕ) → last ≤ BUDGET_LIMIT → (old new : TableLists) → AreReady net dest (table_of old) → IsGrown net origin dest last old new
    → ((i : ℕ) → IsNode net i → need net origin dest last i ≤ known_end (table_of new i)) → state_of new ≡ grown_state net origin dest last (state_of old)
state-grown laws net valid origin dest last within old new ready is met =
    let needed : ℕ → ℕ = need net origin dest last in
    let front : (i : ℕ) → IsNode net i → (table_of new i).front ≡ max (table_of old i).front (needed i) =
    λ i node.
    ⊎_elim
    (λ (at : i ≡ dest).
    let none : needed i ≡ 0 = ap needed at ∙ valid.dest_need origin dest last in
    ⊎_elim
    (λ (same : (table_of new i).front ≡ (table_of old i).front). omega arith)
    (λ (more : (known_end (table_of old i) < (table_of new i).front) × ((table_of new i).front ≤ needed i)). absurd (omega (arith, more.0, more.1)))
    (is.tables i node).front)
    (λ (off : i ≡ dest → ⊥). grown-front net valid origin dest last within i (table_of old i) (table_of new i) (ready i node off) (is.tables i node) (met i node))
    (cases_eq i dest)
    in
    let fronts : new.fronts ≡ listed (λ i. max (front_of (state_of old) i) (needed i)) net.nodes =
    laws.items new.fronts (λ i. max (front_of (state_of old) i) (needed i)) net.nodes is.nodes (λ i low high. front i (low, high)) in
    rw (is.to, is.bases, fronts) refl

-- ---- how many entries are left to push
sum-last : (f : ℕ → ℕ) (n : ℕ) → sum (listed f (suc n)) ≡ sum (listed f n) + f (suc n)
sum-last f n = sum_by-append (λ (x : ℕ). x) (listed f n) (f (suc n) ∷ []) ∙ omega arith

pub left-falls : ListLaws → (f g : ℕ → ℕ) (n i : ℕ) → 1 ≤ i → i ≤ n → f i ≡ suc (g i) → ((j : ℕ) → j ≢ i → f j ≡ g j) → sum (listed f n) ≡ suc (sum (listed g n))
left-falls laws f g zero i low high here others = absurd (omega arith)
left-falls laws f g (suc n) i low high here others =
    let left : sum (listed f (suc n)) ≡ sum (listed f n) + f (suc n) = sum-last f n in
    let right : sum (listed g (suc n)) ≡ sum (listed g n) + g (suc n) = sum-last g n in
    ⊎_elim
    (λ (at : suc n ≡ i).
    let front : sum (listed f n) ≡ sum (listed g n) = ap sum (laws.agree f g n (λ j from to. others j (λ z. omega arith))) in
    let end : f (suc n) ≡ suc (g (suc n)) = ap f at ∙ here ∙ ap (λ (x : ℕ). suc (g x)) (sym at) in
    omega arith)
    (λ (off : suc n ≡ i → ⊥).
    let front : sum (listed f n) ≡ suc (sum (listed g n)) = left-falls laws f g n i low (omega arith) here others in
    let end : f (suc n) ≡ g (suc n) = others (suc n) off in
    omega arith)
    (cases_eq (suc n) i)

pub left-none : (f : ℕ → ℕ) (n : ℕ) → ((i : ℕ) → 1 ≤ i → i ≤ n → f i ≡ 0) → sum (listed f n) ≡ 0
left-none f zero none = refl
left-none f (suc n) none =
    let rest : sum (listed f n) ≡ 0 = left-none f n (λ i low high. none i low (omega arith)) in
    let last : f (suc n) ≡ 0 = none (suc n) (omega arith) (omega arith) in
    sum-last f n ∙ omega arith

pub missing-left : (net : Net) (origin dest last : ℕ) (held : TableLists) (before : State) → state_of held ≡ prepared_state net origin dest last before → missing net origin dest last before ≡ left_to_push net origin dest last (table_of held)
missing-left net origin dest last held before at =
    ap (missing_in net origin dest last) (sym at)
