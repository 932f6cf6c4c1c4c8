-- An edit has no more pairs than its line has bytes: each stands in a field of its own.
use Rattle.std.proofs.Common.{◌≡◌, ℕ, ◌+◌, ◌≤◌, ◌<◌, ◌^◌, List, [], ◌∷◌, true, false, not, cond, length, map, filter, Bool, Option, Some, None, option_map, Result, Ok, Err, codes, refl, sym, ap, subst, arith}
use Rattle.std.specs.List.{slice_split, onto_first}
use Rattle.std.specs.Str.{bytes_eq}
use Rattle.std.proofs.lemmas.List.{length-map}
use Rattle.sota_text.specs.Text.{is_blank, is_empty, fields_of}
use Rattle.sota_text.specs.Words.{three, four}
use Rattle.sota_units.specs.Memory.{◌>>=◌, or_fault}
use Rattle.sota_script.specs.Lines.{all_there, pair_of, pairs_of, parse_number, parse_ask, parse_edit, parse_close, parse_ask_line, parse_named, parse_policy, parse_bracket, parse_route, parse_need, parse_command, numbers_of, grain_of}
use Rattle.sota_script.specs.Few.{HasFewPairs}
use Rattle.sota_script.specs.declared.command.Ask3.{Ask3}
use Rattle.sota_script.specs.declared.command.Command.{Command}
use Rattle.sota_script.specs.declared.command.Command.TheVariants as commands
use Rattle.sota_script.specs.declared.fault.LineFault.{LineFault}
use Rattle.sota_script.specs.declared.fault.LineFault.TheVariants.{Count, Number, Word}

-- ---- a field has a byte

abbrev pub some_fields : List (List ℕ) → List (List ℕ)
some_fields pieces = filter (λ (piece : List ℕ). not (is_empty piece)) pieces

one_longer : (byte : ℕ) (pieces : List (List ℕ)) → length (some_fields (onto_first byte pieces)) ≤ length (some_fields pieces) + 1
one_longer byte [] = omega arith
one_longer byte ([] ∷ pieces) = omega arith
one_longer byte ((first ∷ piece) ∷ pieces) = omega arith

pub few_fields : (line : List ℕ) → length (fields_of line) ≤ length line
few_fields [] = omega arith
few_fields (byte ∷ line) =
    let rest : length (some_fields (slice_split is_blank line)) ≤ length line = few_fields line in
    elim (is_blank byte) as (λ b. length (some_fields (cond b ([] ∷ slice_split is_blank line) (onto_first byte (slice_split is_blank line)))) ≤ length (byte ∷ line)) [
      | true ↦ omega (arith, rest)
      | false ↦ omega (arith, rest, one_longer byte (slice_split is_blank line))
    ]

-- ---- a pair has a field

one_more : {A : Type 0} (first : A) (more : Option (List A)) (all : List A) (n : ℕ) → ((xs : List A) → more ≡ Some xs → length xs ≡ n) → option_map (λ xs. first ∷ xs) more ≡ Some all → length all ≡ n + 1
one_more first None all n h e = absurd (cc)
one_more first (Some xs) all n h e =
    let is : first ∷ xs ≡ all = cc in
    let many : length xs ≡ n = h xs refl in
    omega (arith, ap length is, many)

all_of : {A : Type 0} (options : List (Option A)) (all : List A) → all_there options ≡ Some all → length all ≡ length options
all_of [] all e = let is : [] ≡ all = cc in ap length (sym is)
all_of (None ∷ options) all e = absurd (cc)
all_of (Some x ∷ options) all e = let many : length all ≡ length options + 1 = one_more x (all_there options) all (length options) (all_of options) e in omega (arith, many)

edit_by : (number : Result ℕ LineFault) (pairs : Option (List (ℕ × ℕ))) (command : Command) → ((all : List (ℕ × ℕ)) → pairs ≡ Some all → length all < 2 ^ 32)
    → (number >>= λ arc. or_fault Number pairs >>= λ all. Ok (commands.Edit arc all)) ≡ Ok command → HasFewPairs command
edit_by (Err fault) pairs command few e = absurd (cc)
edit_by (Ok arc) None command few e = absurd (cc)
edit_by (Ok arc) (Some all) command few e =
    let is : commands.Edit arc all ≡ command = cc in
    subst (λ (command : Command). HasFewPairs command) is (few all refl)

edit_few : (words : List (List ℕ)) (command : Command) → length words < 2 ^ 32 → parse_edit words ≡ Ok command → HasFewPairs command
edit_few [] command few e = absurd (cc)
edit_few (arc ∷ []) command few e = absurd (cc)
edit_few (arc ∷ first ∷ more) command few e =
    edit_by (parse_number arc) (pairs_of (first ∷ more)) command
    (λ all is. let many : length all ≡ length (map pair_of (first ∷ more)) = all_of (map pair_of (first ∷ more)) all is in omega (arith, many, few, length-map more pair_of)) e

-- ---- the other commands have none

close_by : (number : Result ℕ LineFault) (command : Command) → (number >>= λ arc. Ok (commands.Close arc)) ≡ Ok command → HasFewPairs command
close_by (Err fault) command e = absurd (cc)
close_by (Ok arc) command e = let is : commands.Close arc ≡ command = cc in subst (λ (command : Command). HasFewPairs command) is tt

close_few : (words : List (List ℕ)) (command : Command) → parse_close words ≡ Ok command → HasFewPairs command
close_few [] command e = absurd (cc)
close_few (arc ∷ []) command e = close_by (parse_number arc) command e
close_few (arc ∷ more ∷ rest) command e = absurd (cc)

ask_by : (ask : Result Ask3 LineFault) (command : Command) → (ask >>= λ ask. Ok (commands.Ask ask)) ≡ Ok command → HasFewPairs command
ask_by (Err fault) command e = absurd (cc)
ask_by (Ok ask) command e = let is : commands.Ask ask ≡ command = cc in subst (λ (command : Command). HasFewPairs command) is tt

ask_few : (words : List (List ℕ)) (command : Command) → parse_ask_line words ≡ Ok command → HasFewPairs command
ask_few words command e =
    elim (three words) as (λ found. (or_fault Count found >>= λ word. parse_ask word.0 word.1 word.2 >>= λ ask. Ok (commands.Ask ask)) ≡ Ok command → HasFewPairs command) [
      | None ↦ λ e. absurd (cc)
      | Some word ↦ λ e. ask_by (parse_ask word.0 word.1 word.2) command e
    ] e

-- an ask with a name makes such a command
named_few : (make : Ask3 → List ℕ → Command) → ((ask : Ask3) (name : List ℕ) → HasFewPairs (make ask name)) → (named : Result (Ask3 × List ℕ) LineFault) (command : Command)
    → (named >>= λ named. Ok (make named.0 named.1)) ≡ Ok command → HasFewPairs command
named_few make few (Err fault) command e = absurd (cc)
named_few make few (Ok named) command e = let is : make named.0 named.1 ≡ command = cc in subst (λ (command : Command). HasFewPairs command) is (few named.0 named.1)

policy_few : (words : List (List ℕ)) (command : Command) → parse_policy words ≡ Ok command → HasFewPairs command
policy_few words command e = named_few (λ ask name. commands.Policy ask name) (λ ask name. tt) (parse_named words) command e

bracket_few : (words : List (List ℕ)) (command : Command) → parse_bracket words ≡ Ok command → HasFewPairs command
bracket_few words command e = named_few (λ ask name. commands.Bracket ask name) (λ ask name. tt) (parse_named words) command e

route_by : (dest budget : Result ℕ LineFault) (arcs : Option (List ℕ)) (command : Command) → (dest >>= λ dest. budget >>= λ budget. or_fault Number arcs >>= λ arcs. Ok (commands.Route dest budget arcs)) ≡ Ok command → HasFewPairs command
route_by (Err fault) budget arcs command e = absurd (cc)
route_by (Ok dest) (Err fault) arcs command e = absurd (cc)
route_by (Ok dest) (Ok budget) None command e = absurd (cc)
route_by (Ok dest) (Ok budget) (Some arcs) command e = let is : commands.Route dest budget arcs ≡ command = cc in subst (λ (command : Command). HasFewPairs command) is tt

route_few : (words : List (List ℕ)) (command : Command) → parse_route words ≡ Ok command → HasFewPairs command
route_few [] command e = absurd (cc)
route_few (dest ∷ []) command e = absurd (cc)
route_few (dest ∷ budget ∷ []) command e = absurd (cc)
route_few (dest ∷ budget ∷ first ∷ more) command e = route_by (parse_number dest) (parse_number budget) (numbers_of (first ∷ more)) command e

need_by : (ask : Result Ask3 LineFault) (confidence : Option ℕ) (command : Command) → (ask >>= λ ask. or_fault Number confidence >>= λ confidence. Ok (commands.Need ask confidence)) ≡ Ok command → HasFewPairs command
need_by (Err fault) confidence command e = absurd (cc)
need_by (Ok ask) None command e = absurd (cc)
need_by (Ok ask) (Some confidence) command e = let is : commands.Need ask confidence ≡ command = cc in subst (λ (command : Command). HasFewPairs command) is tt

need_few : (words : List (List ℕ)) (command : Command) → parse_need words ≡ Ok command → HasFewPairs command
need_few words command e =
    elim (four words) as (λ words. (or_fault Count words >>= λ word. parse_ask word.0 word.1 word.3 >>= λ ask. or_fault Number (grain_of word.2) >>= λ confidence. Ok (commands.Need ask confidence)) ≡ Ok command → HasFewPairs command) [
      | None ↦ λ e. absurd (cc)
      | Some word ↦ λ e. need_by (parse_ask word.0 word.1 word.3) (grain_of word.2) command e
    ] e

-- one of two commands, by a test
by_word : (test : Bool) (one other : Result Command LineFault) (command : Command) → (one ≡ Ok command → HasFewPairs command) → (other ≡ Ok command → HasFewPairs command)
    → cond test one other ≡ Ok command → HasFewPairs command
by_word true one other command here there e = here e
by_word false one other command here there e = there e

pub command_few : (first : List ℕ) (words : List (List ℕ)) (command : Command) → length words < 2 ^ 32 → parse_command first words ≡ Ok command → HasFewPairs command
command_few first words command few =
    by_word (bytes_eq first (codes "edit")) (parse_edit words) _ command (edit_few words command few)
    (by_word (bytes_eq first (codes "close")) (parse_close words) _ command (close_few words command)
    (by_word (bytes_eq first (codes "ask")) (parse_ask_line words) _ command (ask_few words command)
    (by_word (bytes_eq first (codes "policy")) (parse_policy words) _ command (policy_few words command)
    (by_word (bytes_eq first (codes "bracket")) (parse_bracket words) _ command (bracket_few words command)
    (by_word (bytes_eq first (codes "route")) (parse_route words) _ command (route_few words command)
    (by_word (bytes_eq first (codes "need")) (parse_need words) (Err Word) command (need_few words command)
    (λ e. absurd (cc))))))))
