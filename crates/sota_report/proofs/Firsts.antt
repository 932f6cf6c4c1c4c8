-- The first names of nodes, as names are added.
use Rattle.std.proofs.Common.{◌≡◌, ℕ, ◌-◌, ◌<◌, ◌≤◌, List, [], ◌∷◌, ◌++◌, Bool, true, false, cond, ◌==◌, length, take, get_or, Option, Some, None, refl, sym, ◌∙◌, ap, subst, arith, length-append, take_all, nat_lt, ◌≢◌}
use Rattle.std.specs.Prelude.{option_map, slice_get, is_none, replicate}
use Rattle.std.specs.Option.{option_or}
use Rattle.std.proofs.Math.ListN.{set}
use Rattle.std.proofs.lemmas.List.{get_or_append_left, get_or-append_right, get_or-replicate, get_or-set_other, get_or_past, length-replicate}
use Rattle.std.proofs.Math.Seq.{get_or-append_seam}
use Rattle.std.proofs.lemmas.Grind.{get_or-set_at}
use Rattle.std.proofs.lemmas.Option.{slice_get-get_or}
use Rattle.sota_report.specs.Names.{Place, first_name}
use Rattle.sota_report.specs.Kept.{name_at, with_first, ShowsFirst, ShowsFirsts}

-- the first name among all is the first one before, or else the first one after
name_of_both : (before after : List Place) (node : ℕ) → first_name (before ++ after) node ≡ option_or (first_name before node) (first_name after node)
name_of_both [] after node = refl
name_of_both (place ∷ before) after node =
    elim (place.1 == node) as (λ b. cond b (Some place.0) (first_name (before ++ after) node) ≡ option_or (cond b (Some place.0) (first_name before node)) (first_name after node)) [
      | true ↦ refl
      | false ↦ name_of_both before after node
    ]

-- one more name leaves what is shown of a node that had one, and of each other node
stays : (places : List Place) (place : Place) (node : ℕ) (index : Option ℕ) → ShowsFirst places node index → (is_none index ≡ true → (place.1 == node) ≡ false)
    → ShowsFirst (places ++ place ∷ []) node index
stays places place node None shows other =
    let not = other refl in
    record {
      is = sym (name_of_both places (place ∷ []) node ∙ ap (λ name. option_or name (first_name (place ∷ []) node)) (sym shows.is) ∙ rw not refl);
      within = tt;
    }
stays places place node (Some index) shows other =
    let all = places ++ place ∷ [] in
    let inside : index < length places = shows.within in
    let more : index < length all = omega (arith, inside, length-append places (place ∷ [])) in
    let before : slice_get places index ≡ Some (get_or places index place) = slice_get-get_or places index place inside in
    let after : slice_get all index ≡ Some (get_or places index place) =
    slice_get-get_or all index place more ∙ ap Some (get_or_append_left places (place ∷ []) place index inside) in
    let name : first_name places node ≡ Some ((get_or places index place).0) = sym shows.is ∙ ap (option_map (λ place. place.0)) before in
    record {
      is = ap (option_map (λ place. place.0)) after ∙ sym (name_of_both places (place ∷ []) node ∙ ap (λ name. option_or name (first_name (place ∷ []) node)) name);
      within = more;
    }

-- the first name of a node is shown where it now stands
begins : (places : List Place) (place : Place) (node : ℕ) → None ≡ first_name places node → place.1 ≡ node
    → ShowsFirst (places ++ place ∷ []) node (Some (length places))
begins places place node none e =
    let all = places ++ place ∷ [] in
    let more : length places < length all = omega (arith, length-append places (place ∷ [])) in
    let there : slice_get all (length places) ≡ Some place =
    slice_get-get_or all (length places) place more ∙ ap Some (get_or-append_seam places place [] place) in
    let same : (place.1 == node) ≡ true = grind arith in
    record {
      is = ap (option_map (λ place. place.0)) there ∙ sym (name_of_both places (place ∷ []) node ∙ ap (λ name. option_or name (first_name (place ∷ []) node)) (sym none) ∙ rw same refl);
      within = more;
    }

-- ---- all nodes

all_stay : (places : List Place) (place : Place) (firsts : List (Option ℕ)) → ShowsFirsts places firsts → is_none (get_or firsts place.1 None) ≡ false
    → ShowsFirsts (places ++ place ∷ []) firsts
all_stay places place firsts shows some node =
    stays places place node (get_or firsts node None) (shows node) (λ none. grind arith)

only_none : {X : Type 0} → (x : Option X) → is_none x ≡ true → x ≡ None
only_none None h = refl
only_none (Some x) h = absurd (grind (arith, h))

one_begins : (places : List Place) (place : Place) (firsts : List (Option ℕ)) → ShowsFirsts places firsts → is_none (get_or firsts place.1 None) ≡ true → place.1 < length firsts
    → ShowsFirsts (places ++ place ∷ []) (set firsts place.1 (Some (length places)))
one_begins places place firsts shows none inside node = by (place.1 == node) refl
  where
    by : (b : Bool) → (place.1 == node) ≡ b → ShowsFirst (places ++ place ∷ []) node (get_or (set firsts place.1 (Some (length places))) node None)
    by true e =
        let same : place.1 ≡ node = grind arith in
        let blank : get_or firsts node None ≡ None = ap (λ n. get_or firsts n None) (sym same) ∙ only_none (get_or firsts place.1 None) none in
        subst (λ index. ShowsFirst (places ++ place ∷ []) node index) (sym (get_or-set_at firsts place.1 node (Some (length places)) None (sym same) inside))
        (begins places place node (ap (name_at places) (sym blank) ∙ (shows node).is) same)
    by false e =
        let other : node ≢ place.1 = grind arith in
        subst (λ index. ShowsFirst (places ++ place ∷ []) node index) (sym (get_or-set_other firsts place.1 node (Some (length places)) None other))
        (stays places place node (get_or firsts node None) (shows node) (λ _. e))

-- a name more, and its node shown with it where it is the node's first
pub one_more : (places : List Place) (place : Place) (firsts : List (Option ℕ)) → ShowsFirsts places firsts → place.1 < length firsts
    → ShowsFirsts (places ++ place ∷ []) (with_first firsts place.1 (length places))
one_more places place firsts shows inside = by (is_none (get_or firsts place.1 None)) refl
  where
    by : (b : Bool) → is_none (get_or firsts place.1 None) ≡ b → ShowsFirsts (places ++ place ∷ []) (cond b (set firsts place.1 (Some (length places))) firsts)
    by true none = one_begins places place firsts shows none inside
    by false some = all_stay places place firsts shows some

-- lists that read alike show the same
pub alike : (places : List Place) (old new : List (Option ℕ)) → ShowsFirsts places old → ((node : ℕ) → get_or new node None ≡ get_or old node None) → ShowsFirsts places new
alike places old new shows same node = subst (λ index. ShowsFirst places node index) (sym (same node)) (shows node)

-- ---- reading

-- the name that is shown of a node is its first
pub name_found : {places : List Place} (seen : List Place) (firsts : List (Option ℕ)) (node : ℕ) (index : Option ℕ) → ShowsFirsts places firsts → places ≡ seen
    → index ≡ get_or firsts node None → name_at places index ≡ first_name seen node
name_found {places} seen firsts node index shows view e = ap (name_at places) e ∙ (shows node).is ∙ ap (λ places. first_name places node) view

-- ---- room

no_more : (n at : ℕ) → get_or {A = Option ℕ} (replicate n None) at None ≡ None
no_more n at = by (nat_lt at n) refl
  where
    by : (b : Bool) → nat_lt at n ≡ b → get_or {A = Option ℕ} (replicate n None) at None ≡ None
    by true e = get_or-replicate n at None None (grind arith)
    by false e = let past : n ≤ at = grind arith in get_or_past (replicate n None) at None (omega (arith, length-replicate {A = Option ℕ} n None, past))

-- room for more nodes shows nothing new
pub room : (firsts : List (Option ℕ)) (n node : ℕ) → length firsts ≤ n → get_or (take n firsts ++ replicate (n - length firsts) None) node None ≡ get_or firsts node None
room firsts n node h = rw (take_all n firsts h) (by (nat_lt node (length firsts)) refl)
  where
    by : (b : Bool) → nat_lt node (length firsts) ≡ b → get_or (firsts ++ replicate (n - length firsts) None) node None ≡ get_or firsts node None
    by true e = get_or_append_left firsts (replicate (n - length firsts) None) None node (grind arith)
    by false e =
        let past : length firsts ≤ node = grind arith in
        get_or-append_right firsts (replicate (n - length firsts) None) (length firsts) node None refl past
        ∙ no_more (n - length firsts) (node - length firsts) ∙ sym (get_or_past firsts node None past)

-- the steps that add a place, together
pub kept : (places all : List Place) (place : Place) (old roomy new : List (Option ℕ)) (index : ℕ) → ShowsFirsts places old → ((node : ℕ) → get_or roomy node None ≡ get_or old node None)
    → place.1 < length roomy → all ≡ places ++ place ∷ [] → index ≡ length places → new ≡ with_first roomy place.1 index → ShowsFirsts all new
kept places all place old roomy new index shows same inside more last first =
    let after = one_more places place roomy (alike places old roomy shows same) inside in
    subst (λ all. ShowsFirsts all new) (sym more)
    (subst (λ firsts. ShowsFirsts (places ++ place ∷ []) firsts) (sym (first ∙ ap (with_first roomy place.1) last)) after)
