-- Entries that are pushed by plain sums over known entries are the grid's.
use Rattle.std.proofs.Common.{ℕ, zero, suc, ◌≡◌, ◌≢◌, ◌+◌, ◌-◌, ◌<◌, ◌≤◌, ◌⊎◌, inl, inr, max, List, [], ◌∷◌, ◌++◌, length, get_or, None, refl, sym, ◌∙◌, ap, arith, ⊎_elim, subst}
use Rattle.std.proofs.Math.Seq.{get_or-append_seam}
use Rattle.std.proofs.lemmas.List.{get_or_append_left, length-append}
use Rattle.std.proofs.lemmas.Bool.{cases_lt, cases_eq, eq-eqb, ne_eqb, lt-ltb, le-ltb}
use Rattle.sota_hist.specs.Time.{least_tick}
use Rattle.sota_network.specs.Network.{Net, IsNode}
use Rattle.sota_network.specs.Grid.{lo, hi, choice}
use Rattle.sota_network.specs.Reads.{Reads}
use Rattle.sota_kept.specs.Ticks.{END_LIMIT, least_to}
use Rattle.sota_kept.specs.NodeTables.{NodeTable, Entry, IsNodeTable, IsSettledAt, IsReadyAt, AreReady, IsExtent, known_end, lower_of, upper_of, lower_in, upper_in, entry_from, pushed_table, push_at, filled_tables}
use Rattle.sota_kept.specs.Asks.{IsGridEntry}
use Rattle.sota_kept.specs.Laws.{Lawful}
use Rattle.sota_kept.proofs.Networks.{arc-valid, hi-at_dest, lo-at_dest}

-- ---- below the known end all is known
pub known-lower : (net : Net) (dest i : ℕ) (s : NodeTable) → IsSettledAt net dest i s → (t : ℕ) → t < known_end s → lower_of s t ≡ lo net dest i t
known-lower net dest i s is t early =
    ⊎_elim
    (λ (low : t < s.base). rw (lt-ltb t s.base low) (sym (is.empty t low).0))
    (λ (high : s.base ≤ t). is.kept.lower t high (omega arith))
    (cases_lt t s.base)

pub known-upper : (net : Net) (dest i : ℕ) (s : NodeTable) → IsSettledAt net dest i s → (t : ℕ) → t < known_end s → upper_of s t ≡ hi net dest i t
known-upper net dest i s is t early =
    ⊎_elim
    (λ (low : t < s.base). rw (lt-ltb t s.base low) (sym (is.empty t low).1))
    (λ (high : s.base ≤ t). is.kept.upper t high (omega arith))
    (cases_lt t s.base)

-- ---- one entry more
-- the last of a longer list, and those before it
pushed_table-before : {X : Type 0} → (xs : List X) (x d : X) (n b t : ℕ) → length xs ≡ n - b → b ≤ t → t < n → get_or (xs ++ x ∷ []) (t - b) d ≡ get_or xs (t - b) d
pushed_table-before xs x d n b t is low high = get_or_append_left xs (x ∷ []) d (t - b) (omega arith)

pushed_table-last : {X : Type 0} → (xs : List X) (x d : X) (n b : ℕ) → length xs ≡ n - b → get_or (xs ++ x ∷ []) (max n b - b) d ≡ x
pushed_table-last xs x d n b is =
    let at : max n b - b ≡ length xs = omega arith in
    ap (λ (k : ℕ). get_or (xs ++ x ∷ []) k d) at ∙ get_or-append_seam xs x [] d

pushed_table-length : {X : Type 0} → (xs : List X) (x : X) (n b : ℕ) → length xs ≡ n - b → length (xs ++ x ∷ []) ≡ max n b + 1 - b
pushed_table-length xs x n b is = length-append xs (x ∷ []) ∙ (let z : length xs + 1 ≡ max n b + 1 - b = omega arith in z)

-- what a function says of each of them, it says with one entry more
pushed_table-all : {X : Type 0} → (xs : List X) (x d : X) (n b : ℕ) (f : ℕ → X) → length xs ≡ n - b → ((t : ℕ) → b ≤ t → t < n → get_or xs (t - b) d ≡ f t) → x ≡ f (max n b) → (t : ℕ) → b ≤ t → t < max n b + 1
    → get_or (xs ++ x ∷ []) (t - b) d ≡ f t
pushed_table-all xs x d n b f is before last t low high =
    ⊎_elim
    (λ (old : t < n). pushed_table-before xs x d n b t is low old ∙ before t low old)
    (λ (new : n ≤ t).
    let at : max n b ≡ t = omega arith in
    ap (λ (k : ℕ). get_or (xs ++ x ∷ []) (k - b) d) (sym at) ∙ pushed_table-last xs x d n b is ∙ last ∙ ap f at)
    (cases_lt t n)

-- an entry that is the grid's keeps what is ready
pub ready-pushed_table : (net : Net) (dest i : ℕ) (s : NodeTable) (e : Entry) → IsReadyAt net dest i s → IsGridEntry net dest i (known_end s) e → known_end s < END_LIMIT → IsReadyAt net dest i (pushed_table e s)
ready-pushed_table net dest i s e is right room =
    let kept = is.settled.kept in
    let shape = kept.shape in
    let b : ℕ = s.base in
    let n : ℕ = s.front in
    let c : ℕ = least_to net dest i in
    let based : b ≤ c =
    ⊎_elim
    (λ (above : c < n). ⊎_elim (λ (h : b ≤ c). h) (λ (h : n ≤ c). absurd (omega arith)) kept.least)
    (λ (under : n ≤ c). (let z : b ≡ c = is.based under in omega arith))
    (cases_lt c n) in
    let least-lengths : IsNodeTable (pushed_table e s) = record {
      front = omega arith;
      base = shape.base;
      lower = pushed_table-length s.lower e.lower n b shape.lower;
      upper = pushed_table-length s.upper e.upper n b shape.upper;
      choices = pushed_table-length s.choices e.choice n b shape.choices;
    } in
    record {
      settled = record {
        kept = record {
          shape = least-lengths;
          lower = λ t low high. rw (le-ltb t b low) (pushed_table-all s.lower e.lower 0 n b (lo net dest i) shape.lower (λ u after old. rw (le-ltb u b after) at (kept.lower u after old)) right.lower t low high);
          upper = λ t low high. rw (le-ltb t b low) (pushed_table-all s.upper e.upper 0 n b (hi net dest i) shape.upper (λ u after old. rw (le-ltb u b after) at (kept.upper u after old)) right.upper t low high);
          choice = λ t low high. rw (le-ltb t b low) (pushed_table-all s.choices e.choice None n b (choice net dest i) shape.choices (λ u after old. rw (le-ltb u b after) at (kept.choice u after old)) right.choice t low high);
          below = λ t low. is.settled.empty t (omega arith);
          least = inl based;
        };
        empty = λ t low. is.settled.empty t low;
      };
      based = λ under.
          ⊎_elim
          (λ (above : c < n). absurd (omega arith))
          (λ (old : n ≤ c). is.based old)
          (cases_lt c n);
    }

-- ---- by plain sums
module _ (net : Net) (valid : Lawful net) (dest : ℕ) (tables : ℕ → NodeTable) (ready : AreReady net dest tables) (i t : ℕ) (off : i ≢ dest) (known : (j u : ℕ) → Reads net i t j u → (j ≡ dest) ⊎ (u < known_end (tables j))) where
  head-node : (j u : ℕ) → Reads net i t j u → IsNode net j
  head-node j u reads = subst (λ (x : ℕ). IsNode net x) reads.head (arc-valid net valid reads.number reads.arc reads.is_arc).head

  reads-lower : (j u : ℕ) → Reads net i t j u → lower_in dest tables j u ≡ lo net dest j u
  reads-lower j u reads =
      ⊎_elim
      (λ (at : j ≡ dest). rw (eq-eqb j dest at) (sym (lo-at_dest net valid dest j u at)))
      (λ (apart : j ≡ dest → ⊥).
      let early : u < known_end (tables j) = ⊎_elim (λ (at : j ≡ dest). absurd (apart at)) (λ (h : u < known_end (tables j)). h) (known j u reads) in
      rw (ne_eqb j dest apart) (known-lower net dest j (tables j) (ready j (head-node j u reads) apart).settled u early))
      (cases_eq j dest)

  reads-upper : (j u : ℕ) → Reads net i t j u → upper_in dest tables j u ≡ hi net dest j u
  reads-upper j u reads =
      ⊎_elim
      (λ (at : j ≡ dest). rw (eq-eqb j dest at) (sym (hi-at_dest net valid dest j u at)))
      (λ (apart : j ≡ dest → ⊥).
      let early : u < known_end (tables j) = ⊎_elim (λ (at : j ≡ dest). absurd (apart at)) (λ (h : u < known_end (tables j)). h) (known j u reads) in
      rw (ne_eqb j dest apart) (known-upper net dest j (tables j) (ready j (head-node j u reads) apart).settled u early))
      (cases_eq j dest)

  pub entry-right : IsGridEntry net dest i t (entry_from net (lower_in dest tables) (upper_in dest tables) i t)
  entry-right = record {
    lower = sym (valid.lower_reads dest i t (lower_in dest tables) off reads-lower);
    upper = sym (valid.upper_reads dest i t (upper_in dest tables) off reads-upper);
    choice = sym (valid.choice_reads dest i t (lower_in dest tables) off reads-lower);
  }

-- ---- one push, and many
module _ (net : Net) (dest i : ℕ) where
  -- what a push does to the known ends
  pub push-end : (tables : ℕ → NodeTable) → known_end (push_at net dest i tables i) ≡ known_end (tables i) + 1
  push-end tables = rw (eq-eqb i i refl) (omega arith)

  pub push-other : (tables : ℕ → NodeTable) (j : ℕ) → (j ≡ i → ⊥) → push_at net dest i tables j ≡ tables j
  push-other tables j apart = rw (ne_eqb j i apart) refl

  pub filled_tables-end : (tables : ℕ → NodeTable) (k : ℕ) → known_end (filled_tables net dest i tables k i) ≡ known_end (tables i) + k
  filled_tables-end tables zero = omega arith
  filled_tables-end tables (suc k) =
      let more : known_end (filled_tables net dest i tables k i) ≡ known_end (tables i) + k = filled_tables-end tables k in
      push-end (filled_tables net dest i tables k) ∙ (let z : known_end (filled_tables net dest i tables k i) + 1 ≡ known_end (tables i) + suc k = omega arith in z)

  pub filled_tables-other : (tables : ℕ → NodeTable) (k j : ℕ) → (j ≡ i → ⊥) → filled_tables net dest i tables k j ≡ tables j
  filled_tables-other tables zero j apart = refl
  filled_tables-other tables (suc k) j apart = push-other (filled_tables net dest i tables k) j apart ∙ filled_tables-other tables k j apart

  end-rises : (tables : ℕ → NodeTable) (k j : ℕ) → known_end (tables j) ≤ known_end (filled_tables net dest i tables k j)
  end-rises tables k j =
      ⊎_elim
      (λ (at : j ≡ i). rw at (let z : known_end (filled_tables net dest i tables k i) ≡ known_end (tables i) + k = filled_tables-end tables k in omega arith))
      (λ (apart : j ≡ i → ⊥). rw (filled_tables-other tables k j apart) (omega arith))
      (cases_eq j i)

module _ (net : Net) (valid : Lawful net) (dest i : ℕ) where
  -- an extent reads its heads below their known ends alone
  pub extent-known : (tables : ℕ → NodeTable) (to t : ℕ) → IsExtent net dest tables i to → t < to → (j u : ℕ) → Reads net i t j u → (j ≡ dest) ⊎ (u < known_end (tables j))
  extent-known tables to t extent early j u reads =
      ⊎_elim
      (λ (at : j ≡ dest). inl at)
      (λ (apart : j ≡ dest → ⊥).
      let far : to ≤ known_end (tables reads.arc.head) + least_tick reads.arc.time = extent reads.number reads.arc reads.is_arc reads.tail (valid.left i t j u reads).0 (λ z. apart (sym reads.head ∙ z)) in
      let far' : to ≤ known_end (tables j) + least_tick reads.arc.time = subst (λ (x : ℕ). to ≤ known_end (tables x) + least_tick reads.arc.time) reads.head far in
      let left : u + least_tick reads.arc.time ≤ t = (valid.left i t j u reads).1 in
      inr (omega arith))
      (cases_eq j dest)

module _ (net : Net) (valid : Lawful net) (dest i : ℕ) (off : i ≢ dest) where
  pub ready-push : (tables : ℕ → NodeTable) → AreReady net dest tables → known_end (tables i) < END_LIMIT → ((j u : ℕ) → Reads net i (known_end (tables i)) j u → (j ≡ dest) ⊎ (u < known_end (tables j)))
      → AreReady net dest (push_at net dest i tables)
  ready-push tables ready room known j node apart =
      ⊎_elim
      (λ (at : j ≡ i).
      rw (eq-eqb j i at, at)
      (ready-pushed_table net dest i (tables i) (entry_from net (lower_in dest tables) (upper_in dest tables) i (known_end (tables i))) (ready i (subst (λ (x : ℕ). IsNode net x) at node) off)
      (entry-right net valid dest tables ready i (known_end (tables i)) off known) room))
      (λ (other : j ≡ i → ⊥). rw (ne_eqb j i other) (ready j node apart))
      (cases_eq j i)

  pub ready-filled_tables : (tables : ℕ → NodeTable) → AreReady net dest tables → (to : ℕ) → to ≤ END_LIMIT → IsExtent net dest tables i to → (k : ℕ) → known_end (tables i) + k ≤ to
      → AreReady net dest (filled_tables net dest i tables k)
  ready-filled_tables tables ready to limit extent zero room = ready
  ready-filled_tables tables ready to limit extent (suc k) room =
      let now : ℕ → NodeTable = filled_tables net dest i tables k in
      let end : known_end (now i) ≡ known_end (tables i) + k = filled_tables-end net dest i tables k in
      ready-push now (ready-filled_tables tables ready to limit extent k (omega arith)) (omega arith)
      (λ j u reads.
      ⊎_elim
      (λ (at : j ≡ dest). inl at)
      (λ (low : u < known_end (tables j)). let rise : known_end (tables j) ≤ known_end (now j) = end-rises net dest i tables k j in inr (omega arith))
      (extent-known net valid dest i tables to (known_end (now i)) extent (omega arith) j u reads))
