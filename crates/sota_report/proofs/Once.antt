-- Names that are read stand once, at nodes of the network.
use Rattle.std.proofs.Common.{◌≡◌, ℕ, ◌≤◌, List, [], ◌∷◌, ◌++◌, Bool, true, false, cond, ◌&&◌, nat_lt, nat_le, Option, Some, None, Result, Ok, Err, refl, sym, ◌∙◌, ap, subst, arith, append_assoc, ◌<◌}
use Rattle.std.specs.Prelude.{All, is_none, is_some}
use Rattle.std.proofs.lemmas.List.{append-nil}
use Rattle.std.proofs.lemmas.List.Elements.{All-append, All-cons}
use Rattle.sota_units.specs.Memory.{◌>>=◌, or_fault}
use Rattle.sota_text.specs.Text.{fields_of, number_of}
use Rattle.sota_script.specs.Lines.{begins_with_hash}
use Rattle.sota_report.specs.Names.{Place, node_of, parse_node, parse_place_name, parse_place, parse_place_fields, with_place, places_after}
use Rattle.sota_report.specs.Laws.{are_new, IsAtNode}
use Rattle.sota_report.specs.declared.fault.NamesFault.TheVariants.{Number, NodeRange, RepeatedName}

-- both parts of a step that went well
bound : {A B E : Type 0} (x : Result A E) (f : A → Result B E) (y : B) → x >>= f ≡ Ok y → (a : A) × (x ≡ Ok a) × (f a ≡ Ok y)
bound (Ok a) f y h = (a, refl, h)
bound (Err fault) f y h = absurd (grind (arith, h))

if_ok : {A E : Type 0} (b : Bool) (x y : A) (fault : E) → cond b (Ok x) (Err fault) ≡ Ok y → (b ≡ true) × (x ≡ y)
if_ok true x y fault h = (refl, cc h)
if_ok false x y fault h = absurd (grind (arith, h))

unless_ok : {A E : Type 0} (b : Bool) (x y : A) (fault : E) → cond b (Err fault) (Ok x) ≡ Ok y → (b ≡ false) × (x ≡ y)
unless_ok true x y fault h = absurd (grind (arith, h))
unless_ok false x y fault h = (refl, cc h)

both_true : (a b : Bool) → (a && b) ≡ true → (a ≡ true) × (b ≡ true)
both_true true b h = (refl, h)
both_true false b h = absurd (grind (arith, h))

-- ---- names

not_some : {A : Type 0} (x : Option A) → is_some x ≡ false → is_none x ≡ true
not_some None h = refl
not_some (Some x) h = absurd (grind (arith, h))

-- one more new name
one_new : (before places : List Place) (place : Place) → are_new before places ≡ true → is_none (node_of (before ++ places) place.0) ≡ true → are_new before (places ++ place ∷ []) ≡ true
one_new before [] place h new =
    let new : is_none (node_of before place.0) ≡ true = subst (λ places. is_none (node_of places place.0) ≡ true) (append-nil before) new in
    ap (λ b. b && true) new
one_new before (first ∷ places) place h new =
    let both = both_true (is_none (node_of before first.0)) (are_new (before ++ first ∷ []) places) h in
    let rest = one_new (before ++ first ∷ []) places place both.1 (subst (λ places. is_none (node_of places place.0) ≡ true) (sym (append_assoc before (first ∷ []) places)) new) in
    ap (λ b. b && are_new (before ++ first ∷ []) (places ++ place ∷ [])) both.0 ∙ rest

-- ---- nodes

node_in_range : (nodes line : ℕ) (field : List ℕ) (node : ℕ) → parse_node nodes line field ≡ Ok node → (1 ≤ node) × (node ≤ nodes)
node_in_range nodes line field node h =
    let read = bound (or_fault (Number line) (number_of field)) _ node h in
    let found = read.0 in
    let inside = if_ok (nat_lt 0 found && nat_le found nodes) found node (NodeRange line) read.2 in
    let both = both_true (nat_lt 0 found) (nat_le found nodes) inside.0 in
    let above : 0 < found = grind (arith, both.0) in
    let within : found ≤ nodes = grind (arith, both.1) in
    (omega (arith, above, inside.1), omega (arith, within, inside.1))

place_in_range : (nodes line : ℕ) (fields : List (List ℕ)) (place : Place) → parse_place nodes line fields ≡ Ok place → IsAtNode nodes place
place_in_range nodes line [] place h = absurd (grind (arith, h))
place_in_range nodes line (node ∷ []) place h = absurd (grind (arith, h))
place_in_range nodes line (node ∷ name ∷ more ∷ fields) place h = absurd (grind (arith, h))
place_in_range nodes line (node ∷ name ∷ []) place h =
    let read = bound (parse_node nodes line node) _ place h in
    let named = bound (parse_place_name line name) _ place read.2 in
    let is : (named.0, read.0) ≡ place = cc named.2 in
    subst (IsAtNode nodes) is (node_in_range nodes line node read.0 read.1)

found_in_range : (nodes line : ℕ) (fields : List (List ℕ)) (place : Place) → parse_place_fields nodes line fields ≡ Ok (Some place) → IsAtNode nodes place
found_in_range nodes line [] place h = absurd (grind (arith, h))
found_in_range nodes line (first ∷ more) place h = by (begins_with_hash first) h
  where
    by : (b : Bool) → cond b (Ok None) (parse_place nodes line (first ∷ more) >>= λ place. Ok (Some place)) ≡ Ok (Some place) → IsAtNode nodes place
    by true h = absurd (grind (arith, h))
    by false h =
        let read = bound (parse_place nodes line (first ∷ more)) _ (Some place) h in
        let is : read.0 ≡ place = cc read.2 in
        subst (IsAtNode nodes) is (place_in_range nodes line (first ∷ more) read.0 read.1)

-- ---- texts

pub record Sound (nodes : ℕ) (places : List Place) : Type 0 where
  pub once : are_new [] places ≡ true
  pub at_nodes : All (IsAtNode nodes) places

added : (nodes line : ℕ) (before : List Place) (found : Option Place) (places : List Place) → Sound nodes before → ((place : Place) → found ≡ Some place → IsAtNode nodes place)
    → with_place before line found ≡ Ok places → Sound nodes places
added nodes line before None places sound inside h = let is : before ≡ places = cc h in subst (Sound nodes) is sound
added nodes line before (Some place) places sound inside h =
    let new = unless_ok (is_some (node_of before place.0)) (before ++ place ∷ []) places (RepeatedName line) h in
    subst (Sound nodes) new.1 (record {
      once = one_new [] before place sound.once (not_some (node_of before place.0) new.0);
      at_nodes = All-append (IsAtNode nodes) before (place ∷ []) sound.at_nodes (All-cons (IsAtNode nodes) place [] (inside place refl) (λ k d h. absurd (omega arith)));
    })

pub all_sound : (nodes : ℕ) (before : List Place) (lines : List (ℕ × List ℕ)) (places : List Place) → Sound nodes before → places_after nodes before lines ≡ Ok places → Sound nodes places
all_sound nodes before [] places sound h = let is : before ≡ places = cc h in subst (Sound nodes) is sound
all_sound nodes before (line ∷ lines) places sound h =
    let found = bound (parse_place_fields nodes line.0 (fields_of line.1)) _ places h in
    let more = bound (with_place before line.0 found.0) _ places found.2 in
    all_sound nodes more.0 lines places
    (added nodes line.0 before found.0 more.0 sound (λ place e. found_in_range nodes line.0 (fields_of line.1) place (found.1 ∙ ap Ok e)) more.1)
    more.2
