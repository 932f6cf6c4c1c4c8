-- What a reader of `csv` has left of a text.
use Rattle.std.specs.Prelude.{◌≡◌, ℕ, List, [], ◌∷◌, Bool, true, false, Some, Result, Ok, Err}
use Rattle.std.specs.Borrow.{Bor}
use Rattle.csv.specs.Reading.{Ready, AreRecords, default_config, source_of}
use Rattle.csv.specs.declared.reader.Reader.{Reader}
use Rattle.csv.specs.declared.reader.Trim.TheVariants as trim

-- a reader that reads with the defaults, trims nothing and knows no header has these records left
pub record Leaves (reader : Reader (Bor (List ℕ))) (left : List (List (List ℕ))) : Type 0 where
  pub trim : reader.trim ≡ trim.None
  pub ready : Ready reader
  pub config : reader.config ≡ default_config
  pub text : List ℕ
  pub source : source_of (λ s. Some s.now) reader ≡ Some text
  pub records : AreRecords default_config reader.state text left

-- a reader takes the first of the records that are left, if any
abbrev pub TakesRecord : {E : Type 0} → Result Bool E → List (List (List ℕ))
    → Reader (Bor (List ℕ)) → List (List ℕ) → Type 0
TakesRecord (Ok true) [] after fields = ⊥
TakesRecord (Ok true) (first ∷ left) after fields = (fields ≡ first) × Leaves after left
TakesRecord (Ok false) left after fields = left ≡ []
TakesRecord (Err _) left after fields = Unit {0}
