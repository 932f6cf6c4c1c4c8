-- An entry of the grid is made of what it reads.
use Rattle.std.proofs.Common.{ℕ, suc, ◌≡◌, ◌≢◌, ◌-◌, ◌<◌, ◌≤◌, List, [], ◌∷◌, get_or, refl, sym, ◌∙◌, ⊎_elim}
use Rattle.std.specs.List.{All}
use Rattle.std.proofs.lemmas.List.Elements.{All-head, All-tail}
use Rattle.std.proofs.lemmas.Bool.{cases_lt, ne_eqb}
use Rattle.std.proofs.lemmas.Option.{slice_get-get_or}
use Rattle.sota_units.specs.Rounding.{floor_by, ceiling_by}
use Rattle.sota_network.specs.Network.{Net, IsNet}
use Rattle.sota_network.specs.Grid.{weighed, plain_sum, best_sum, choice_of, lo, hi, choice}
use Rattle.sota_network.specs.Reads.{Reads}
use Rattle.sota_network.specs.declared.network.Arc.{Arc}
use Rattle.sota_network.proofs.Sums.{weighed-in, weighed-out}
use Rattle.sota_network.proofs.Best.{best-agree, choice-agree}
use Rattle.sota_network.proofs.Outward.{lo-elsewhere, hi-elsewhere}

-- values that agree at what each pair leaves
pub weighed-same : (v w : ℕ → ℕ) (t : ℕ) (ps : List (ℕ × ℕ)) → All (λ (p : ℕ × ℕ). p.0 ≤ t → v (t - p.0) ≡ w (t - p.0)) ps → weighed v t ps ≡ weighed w t ps
weighed-same v w t [] agree = refl
weighed-same v w t (p ∷ ps) agree =
    let more : weighed v t ps ≡ weighed w t ps = weighed-same v w t ps (All-tail (λ (q : ℕ × ℕ). q.0 ≤ t → v (t - q.0) ≡ w (t - q.0)) p ps agree) in
    ⊎_elim
    (λ (out : t < p.0). rw (weighed-out v t p ps out, weighed-out w t p ps out) more)
    (λ (inside : p.0 ≤ t).
    let here : v (t - p.0) ≡ w (t - p.0) = All-head (λ (q : ℕ × ℕ). q.0 ≤ t → v (t - q.0) ≡ w (t - q.0)) p ps agree inside in
    rw (weighed-in v t p ps inside, weighed-in w t p ps inside, here, more) refl)
    (cases_lt t p.0)

module _ (net : Net) (f g : ℕ → ℕ → ℕ) (i t : ℕ) (same : (j u : ℕ) → Reads net i t j u → f j u ≡ g j u) where
  sums-agree : All (λ (a : Arc). a.tail ≡ i → plain_sum a f t ≡ plain_sum a g t) net.arcs
  sums-agree k d within tail =
      let a : Arc = get_or net.arcs k d in
      weighed-same (f a.head) (g a.head) t a.time
      (λ q e inside le.
      same a.head (t - (get_or a.time q e).0)
      (record {
        number = suc k;
        arc = a;
        is_arc = slice_get-get_or net.arcs k d within;
        tail = tail;
        head = refl;
        index = q;
        pair = get_or a.time q e;
        is_pair = slice_get-get_or a.time q e inside;
        in_time = le;
        left = refl;
      }))

  best-same : best_sum net f i t ≡ best_sum net g i t
  best-same = best-agree (λ a. plain_sum a f t) (λ a. plain_sum a g t) i net.arcs sums-agree

  choice-same : choice_of net.arcs (λ a. plain_sum a f t) i ≡ choice_of net.arcs (λ a. plain_sum a g t) i
  choice-same = choice-agree (λ a. plain_sum a f t) (λ a. plain_sum a g t) i net.arcs sums-agree

module _ (net : Net) (valid : IsNet net) (dest : ℕ) (f : ℕ → ℕ → ℕ) (i t : ℕ) (off : i ≢ dest) where
  pub lo-reads : ((j u : ℕ) → Reads net i t j u → f j u ≡ lo net dest j u) → lo net dest i t ≡ floor_by net.scale (best_sum net f i t)
  lo-reads known = lo-elsewhere net valid dest i t off ∙ (rw (best-same net f (lo net dest) i t known) refl)

  pub hi-reads : ((j u : ℕ) → Reads net i t j u → f j u ≡ hi net dest j u) → hi net dest i t ≡ ceiling_by net.scale (best_sum net f i t)
  hi-reads known = hi-elsewhere net valid dest i t off ∙ (rw (best-same net f (hi net dest) i t known) refl)

  pub choice-reads : ((j u : ℕ) → Reads net i t j u → f j u ≡ lo net dest j u) → choice net dest i t ≡ choice_of net.arcs (λ a. plain_sum a f t) i
  unfolding choice
  choice-reads known = rw (ne_eqb i dest off) (sym (choice-same net f (lo net dest) i t known))
