use Rattle.std.proofs.Common.{◌≡◌, ℕ, zero, suc, ◌<◌, List, [], ◌∷◌, length, Some, None, refl, sym, ◌∙◌, arith}
use Rattle.csv.specs.Records.{field_at, fields_of}
use Rattle.sota_text.specs.Words.{three}
use Rattle.sota_histcsv.proofs.records.three_fields.Goals as goal

three_at : (fields : List (List ℕ)) (a b c : List ℕ) → length fields ≡ 3 → Some a ≡ field_at fields 0 → Some b ≡ field_at fields 1 → Some c ≡ field_at fields 2 → Some (a, b, c) ≡ three fields
unfolding field_at
three_at [] a b c few x y z = cc
three_at (x1 ∷ []) a b c few x y z = cc
three_at (x1 ∷ x2 ∷ []) a b c few x y z = cc
three_at (x1 ∷ x2 ∷ x3 ∷ []) a b c few x y z = cc
three_at (x1 ∷ x2 ∷ x3 ∷ x4 ∷ fields) a b c few x y z = absurd (omega arith)

none_at : (fields : List (List ℕ)) (i : ℕ) → i < 3 → None ≡ field_at fields i → None ≡ three fields
unfolding field_at
none_at [] i less e = refl
none_at (x1 ∷ []) i less e = refl
none_at (x1 ∷ x2 ∷ []) i less e = refl
none_at (x1 ∷ x2 ∷ x3 ∷ []) zero less e = cc
none_at (x1 ∷ x2 ∷ x3 ∷ []) (suc zero) less e = cc
none_at (x1 ∷ x2 ∷ x3 ∷ []) (suc (suc zero)) less e = cc
none_at (x1 ∷ x2 ∷ x3 ∷ []) (suc (suc (suc i))) less e = absurd (omega arith)
none_at (x1 ∷ x2 ∷ x3 ∷ x4 ∷ fields) i less e = refl

pub returns : goal.returns
returns c =
    three_at (fields_of c.args.row.now) _ _ _ (sym c.len.ensures ∙ c.if-len-ne3.false) c.in_ok-get.ensures.value c.in_ok-get-2.ensures.value c.in_ok-get-3.ensures.value

pub returns-in_err-get : goal.returns-in_err-get
returns-in_err-get c = rw c.from_residual.ensures (none_at (fields_of c.args.row.now) 0 (omega arith) c.in_err-get.ensures.value)

pub returns-in_err-get-2 : goal.returns-in_err-get-2
returns-in_err-get-2 c = rw c.from_residual-in_err-get-2.ensures (none_at (fields_of c.args.row.now) 1 (omega arith) c.in_err-get-2.ensures.value)

pub returns-in_err-get-3 : goal.returns-in_err-get-3
returns-in_err-get-3 c = rw c.from_residual-in_err-get-3.ensures (none_at (fields_of c.args.row.now) 2 (omega arith) c.in_err-get-3.ensures.value)
