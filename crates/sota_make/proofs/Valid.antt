-- Made arcs are arcs of a network.
use Rattle.std.proofs.Common.{ℕ, zero, suc, ◌≡◌, ◌+◌, ◌-◌, ◌%◌, ◌<◌, ◌≤◌, List, [], ◌∷◌, length, refl, sym, ◌∙◌, ap, arith, ⊎_elim, mod-lt, ◌++◌, append_assoc, true}
use Rattle.std.specs.List.{All}
use Rattle.std.proofs.lemmas.List.{append-nil}
use Rattle.std.proofs.lemmas.List.Elements.{All-nil, All-cons}
use Rattle.std.proofs.lemmas.Bool.{cases_lt, le-leb, lt-leb, leb-true, and_parts}
use Rattle.rand_pcg.specs.Lcg.{Lcg}
use Rattle.sota_words.specs.Drawn.{words_of, drawn}
use Rattle.sota_hist.specs.Time.{total}
use Rattle.sota_network.specs.Network.{Net, IsNet, IsNode, IsArc}
use Rattle.sota_network.specs.declared.network.Arc.{Arc}
use Rattle.sota_make.specs.Made.{MADE_SCALE, is_size, made, made_ends, made_time, made_arc, made_arcs}
use Rattle.sota_make.proofs.Pairs.{DrawsBelow, pairs-rise, pairs-total}

module _ (below : DrawsBelow) (net : Net) (some : 1 ≤ net.nodes) where
  ends-valid : (e : ℕ) (words : Lcg) → 1 ≤ e → IsNode net (made_ends net.nodes e words).0.0 × IsNode net (made_ends net.nodes e words).0.1
  ends-valid e words first =
      ⊎_elim
      (λ (over : net.nodes < e). rw (lt-leb e net.nodes over) (
      let tail = drawn net.nodes words in
      let t : tail.0 < net.nodes = below net.nodes words some in
      let h : (drawn net.nodes tail.1).0 < net.nodes = below net.nodes tail.1 some in
      ((omega arith, omega arith), (omega arith, omega arith))))
      (λ (ring : e ≤ net.nodes). rw (le-leb e net.nodes ring) (
      let h : e % net.nodes < net.nodes = mod-lt e some in
      ((first, ring), (omega arith, omega arith))))
      (cases_lt net.nodes e)

  arc-valid : (span e : ℕ) (words : Lcg) → 1 ≤ span → span ≤ MADE_SCALE → net.scale ≡ MADE_SCALE → 1 ≤ e → IsArc net (made_arc net.nodes span e words).0
  arc-valid span e words long short scale first =
      let ends = made_ends net.nodes e words in
      let least = drawn 10 ends.1 in
      let sum : total (made_time span ends.1).0 ≡ span + (MADE_SCALE - span) = pairs-total below span (1 + least.0) (MADE_SCALE - span) least.1 long in
      let valid = ends-valid e words first in
      record {
        tail = valid.0;
        head = valid.1;
        time = pairs-rise span 0 (1 + least.0) (MADE_SCALE - span) least.1 (omega arith);
        total = omega (arith, sum);
      }

  pub arcs-valid : (span arcs e : ℕ) (words : Lcg) → 1 ≤ span → span ≤ MADE_SCALE → net.scale ≡ MADE_SCALE → 1 ≤ e → All (IsArc net) (made_arcs net.nodes span arcs e words)
  unfolding made_arcs
  arcs-valid span zero e words long short scale first = All-nil (IsArc net)
  arcs-valid span (suc more) e words long short scale first =
      let arc = made_arc net.nodes span e words in
      All-cons (IsArc net) arc.0 (made_arcs net.nodes span more (e + 1) arc.1) (arc-valid span e words long short scale first)
      (arcs-valid span more (e + 1) arc.1 long short scale (omega arith))

pub arcs-count : (nodes span arcs e : ℕ) (words : Lcg) → length (made_arcs nodes span arcs e words) ≡ arcs
unfolding made_arcs
arcs-count nodes span zero e words = refl
arcs-count nodes span (suc more) e words =
    let arc = made_arc nodes span e words in ap suc (arcs-count nodes span more (e + 1) arc.1)

pub arcs-step : (nodes span : ℕ) (list : List Arc) (n e : ℕ) (words : Lcg) (arc : Arc) (left : Lcg) → 1 ≤ n → (arc, left) ≡ made_arc nodes span e words
    → list ++ made_arcs nodes span n e words ≡ (list ++ arc ∷ []) ++ made_arcs nodes span (n - 1) (e + 1) left
unfolding made_arcs
arcs-step nodes span list zero e words arc left some is = absurd (omega arith)
arcs-step nodes span list (suc more) e words arc left some is =
    let step : Arc × Lcg → List Arc = λ d. list ++ d.0 ∷ made_arcs nodes span more (e + 1) d.1 in
    let less : suc more - 1 ≡ more = omega arith in
    rw less (ap step (sym is) ∙ sym (append_assoc list (arc ∷ []) (made_arcs nodes span more (e + 1) left)))

pub arcs-end : (nodes span : ℕ) (list : List Arc) (n e : ℕ) (words : Lcg) → n ≡ 0 → list ++ made_arcs nodes span n e words ≡ list
unfolding made_arcs
arcs-end nodes span list n e words none = rw none (append-nil list)

-- the numbers in their ranges
pub record Sized (n a s : ℕ) : Type 0 where
  pub nodes : (2 ≤ n) × (n ≤ 10000)
  pub arcs : (n ≤ a) × (a ≤ 100000)
  pub span : (1 ≤ s) × (s ≤ 1000)

pub sized : (n a s : ℕ) → is_size n a s ≡ true → Sized n a s
sized n a s e = record {
  nodes = grind (arith, leb-true, and_parts);
  arcs = grind (arith, leb-true, and_parts);
  span = grind (arith, leb-true, and_parts);
}

pub made-valid : DrawsBelow → (seed nodes arcs span : ℕ) → is_size nodes arcs span ≡ true → IsNet (made seed nodes arcs span)
made-valid below seed nodes arcs span sizes =
    let size = sized nodes arcs span sizes in
    let net : Net = made seed nodes arcs span in
    record {
      scale = omega arith;
      arcs = arcs-valid below net (omega (arith, size.nodes.0)) span arcs 1 (words_of seed) size.span.0 (omega (arith, size.span.1)) refl (omega arith);
    }
