-- The least of numbers that are met one after the other.
use Rattle.std.proofs.Common.{ℕ, ◌≡◌, ◌+◌, ◌<◌, ◌≤◌, min, true, false, Bool, List, ◌∷◌, length, map, get_or, drop, Option, Some, None, refl, sym, ◌∙◌, ap, arith}
use Rattle.std.specs.Option.{option_map_or}
use Rattle.std.specs.List.{filter}
use Rattle.std.proofs.lemmas.List.{at_drop_more, at_drop_all}
use Rattle.sota_hist.specs.Time.{least_of}
use Rattle.sota_network.specs.declared.network.Arc.{Arc}

-- the lesser of two, where there are
abbrev pub merged : Option ℕ → Option ℕ → Option ℕ
merged None other = other
merged (Some x) None = Some x
merged (Some x) (Some y) = Some (min x y)

merged-more : (before rest : Option ℕ) (x : ℕ) → merged before (Some (option_map_or (λ y. min x y) rest x)) ≡ merged (Some (option_map_or (λ other. min other x) before x)) rest
merged-more None None x = refl
merged-more None (Some y) x = refl
merged-more (Some a) None x = refl
merged-more (Some a) (Some y) x = ap (λ (n : ℕ). Some n) (omega arith)

merged-none : (before : Option ℕ) → merged before None ≡ before
merged-none None = refl
merged-none (Some x) = refl

module _ (test : Arc → Bool) where
  abbrev pub least_tail : List Arc → Option ℕ
  least_tail arcs = least_of (map (λ arc. arc.tail) (filter test arcs))

  module _ (before : Option ℕ) (i : ℕ) (arcs : List Arc) (arc : Arc) (whole : Option ℕ) where
    parted : i < length arcs → arc ≡ get_or arcs i arc → least_tail (drop i arcs) ≡ least_tail (arc ∷ drop (i + 1) arcs)
    parted lt is = at_drop_more least_tail arcs i arc lt ∙ ap (λ (a : Arc). least_tail (a ∷ drop (i + 1) arcs)) (sym is)

    pub counts : i < length arcs → arc ≡ get_or arcs i arc → test arc ≡ true → merged before (least_tail (drop i arcs)) ≡ whole → merged (Some (option_map_or (λ other. min other arc.tail) before arc.tail)) (least_tail (drop (i + 1) arcs)) ≡ whole
    counts lt is yes-is so_far =
        let here : least_tail (arc ∷ drop (i + 1) arcs) ≡ Some (option_map_or (λ y. min arc.tail y) (least_tail (drop (i + 1) arcs)) arc.tail) = rw yes-is refl in
        sym (merged-more before (least_tail (drop (i + 1) arcs)) arc.tail) ∙ ap (merged before) (sym here ∙ sym (parted lt is)) ∙ so_far

    pub skips : i < length arcs → arc ≡ get_or arcs i arc → test arc ≡ false → merged before (least_tail (drop i arcs)) ≡ whole → merged before (least_tail (drop (i + 1) arcs)) ≡ whole
    skips lt is no-is so_far =
        let here : least_tail (arc ∷ drop (i + 1) arcs) ≡ least_tail (drop (i + 1) arcs) = rw no-is refl in
        ap (merged before) (sym here ∙ sym (parted lt is)) ∙ so_far

  pub ends : (before : Option ℕ) (i : ℕ) (arcs : List Arc) (whole : Option ℕ) → length arcs ≤ i → merged before (least_tail (drop i arcs)) ≡ whole → before ≡ whole
  ends before i arcs whole le so_far = sym (merged-none before) ∙ ap (merged before) (sym (at_drop_all least_tail arcs i le)) ∙ so_far
