-- What holds of a result of which it is not known whether it is a refusal.
use Rattle.std.proofs.Common.{Result, Ok, Err, OnOk, OnErr, IfErr}

pub on-err : {A E : Type 0} (r : Result A E) (P : Type 0) → P → OnErr r P
on-err (Ok v) P p = tt
on-err (Err e) P p = p

-- what holds after Ok, where there is no refusal
pub ok-then : {A E : Type 0} (r : Result A E) (P Q : Type 0) → OnOk r P → IfErr r (λ e. Q) → (Q → ⊥) → P
ok-then (Ok v) P Q ok err never = ok
ok-then (Err e) P Q ok err never = absurd (never err)
