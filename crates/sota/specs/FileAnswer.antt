-- What reading a file to its end answers.
use Rattle.std.specs.Prelude.{◌≡◌, ℕ, ◌≤◌, ◌<◌, List, length, Option, None}
use Rattle.std.specs.Prelude.{Result, Ok, Err, IfSome}
use Rattle.sota_edge.specs.declared.desk.LoadError.{LoadError}
use Rattle.sota_edge.specs.declared.desk.LoadError.TheVariants.{Missing, TooLong, Failed, NoMemory}

-- Where it is known which bytes a reader gives, all of those are the answer, unless they are more
-- than the limit.
abbrev pub FileAnswer : {T : Type 0} → (T → List ℕ) → Result T LoadError → Option (List ℕ) → ℕ
    → Type 0
FileAnswer items (Ok bytes) given limit =
    (length (items bytes) ≤ limit) × IfSome given (λ all. items bytes ≡ all)
FileAnswer items (Err TooLong) given limit = IfSome given (λ all. limit < length all)
FileAnswer items (Err Missing) given limit = ⊥
FileAnswer items (Err Failed) given limit = Unit {0}
FileAnswer items (Err NoMemory) given limit = Unit {0}

-- the bytes that a file gives which could be opened
abbrev pub opened_bytes : {F E : Type 0} → (F → Option (List ℕ)) → Result F E → Option (List ℕ)
opened_bytes remaining (Ok file) = remaining file
opened_bytes remaining (Err _) = None

-- the outside failed, or there was no memory
abbrev pub IsFailure : LoadError → Type 0
IsFailure Failed = Unit {0}
IsFailure NoMemory = Unit {0}
IsFailure _ = ⊥
