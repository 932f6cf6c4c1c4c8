-- What a desk means, and what its answers say.
use Rattle.std.specs.Prelude.{◌≡◌, ℕ, ◌+◌, ◌≤◌, ◌<◌, List, false, length, Option, None, Some}
use Rattle.std.specs.Prelude.{Result, Ok, Err, IfSome, option_map}
use Rattle.std.specs.Option.{IsSomeAnd}
use Rattle.std.specs.Str.{bytes_eq}
use Rattle.std.specs.Map.{update}
use Rattle.sota_edge.specs.Counts.{Rose, RoseBy, raised_by}
use Rattle.sota_edge.specs.declared.desk.LoadError.{LoadError}
use Rattle.sota_edge.specs.declared.desk.StoreError.{StoreError}
use Rattle.sota_edge.specs.declared.desk.LoadError.TheVariants as load
use Rattle.sota_edge.specs.declared.desk.StoreError.TheVariants as store

-- what each name holds: a name is the bytes of its text
abbrev pub Files : Type 0
Files = List ℕ → Option (List ℕ)

-- these bytes under this name, and everything else as before
abbrev pub stored : List ℕ → List ℕ → Files → Files
stored name bytes files = update bytes_eq files name (Some bytes)

-- all names but this one hold what they held
abbrev pub SameBut : List ℕ → Option Files → Option Files → Type 0
SameBut name (Some old) (Some new) =
    (other : List ℕ) → bytes_eq name other ≡ false → new other ≡ old other
SameBut name None None = Unit {0}
SameBut name _ _ = ⊥

-- A desk that works over real files cannot say what they hold, so `holds` is none there.
-- `fault_name` is the name that was handed to the call that failed last. The counts never fall: of
-- loads that failed, of stores that failed, and of bytes that loads took from the outside.
pub record DeskState : Type 0 where
  pub holds : Option Files
  pub fault_name : Option (List ℕ)
  pub load_faults : ℕ
  pub store_faults : ℕ
  pub taken : ℕ

-- The bytes of Ok are those that the name holds, where that is known. Missing comes only for a name
-- that is not held, and TooLong only for one that holds more than the limit. So a load of a name
-- that is not held answers Missing, Failed or NoMemory, and one of a list that is too long TooLong,
-- Failed or NoMemory.
abbrev pub LoadAnswer : {T : Type 0} → (T → List ℕ) → Result T LoadError → List ℕ → ℕ
    → DeskState → Type 0
LoadAnswer items (Ok bytes) name limit old =
    (length (items bytes) ≤ limit) × IfSome old.holds (λ files. files name ≡ Some (items bytes))
LoadAnswer items (Err load.Missing) name limit old =
    IsSomeAnd old.holds (λ files. files name ≡ None)
LoadAnswer items (Err load.TooLong) name limit old =
    IfSome old.holds (λ files. IsSomeAnd (files name) (λ bytes. limit < length bytes))
LoadAnswer items (Err load.Failed) name limit old = Unit {0}
LoadAnswer items (Err load.NoMemory) name limit old = Unit {0}

-- A load that is answered took the bytes of its answer, and one that is too long took more than its
-- limit. Any other load leaves what was taken.
abbrev pub LoadTaken : {T : Type 0} → (T → List ℕ) → Result T LoadError → ℕ → ℕ → ℕ → Type 0
LoadTaken items (Ok bytes) limit old new = new ≡ raised_by (length (items bytes)) old
LoadTaken items (Err load.TooLong) limit old new = RoseBy (limit + 1) old new
LoadTaken items (Err _) limit old new = new ≡ old

-- A load that fails raises its count and keeps its name. Any other answer leaves both.
abbrev pub LoadCause : {T : Type 0} → Result T LoadError → List ℕ → DeskState → DeskState → Type 0
LoadCause (Err load.Failed) name old new = (old.load_faults ≤ new.load_faults)
    × Rose old.load_faults new.load_faults × (new.fault_name ≡ Some name)
LoadCause _ name old new =
    (new.load_faults ≡ old.load_faults) × (new.fault_name ≡ old.fault_name)

-- At Ok the name holds the bytes. After an error its bytes are unknown. All other names stay,
-- whatever the answer.
abbrev pub StoreAnswer : {T : Type 0} → Result T StoreError → List ℕ → List ℕ
    → DeskState → DeskState → Type 0
StoreAnswer (Ok _) name bytes old new = new.holds ≡ option_map (stored name bytes) old.holds
StoreAnswer (Err _) name bytes old new = SameBut name old.holds new.holds

-- a store likewise
abbrev pub StoreCause : {T : Type 0} → Result T StoreError → List ℕ → DeskState → DeskState → Type 0
StoreCause (Err store.Failed) name old new = (old.store_faults ≤ new.store_faults)
    × Rose old.store_faults new.store_faults × (new.fault_name ≡ Some name)
StoreCause _ name old new =
    (new.store_faults ≡ old.store_faults) × (new.fault_name ≡ old.fault_name)
