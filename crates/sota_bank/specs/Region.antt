-- What holds of the fields of a region.
use Rattle.std.specs.Prelude.{◌≡◌, length}
use Rattle.sota_bank.specs.declared.region.Region.TheInside.{Inside}

-- the parts belong to one block, of as many places as the length says
abbrev pub IsOneBlock : {X : Type 0} → Inside X → Type 0
IsOneBlock r = (r.cells.at ≡ r.base.ptr) × (r.deed.at ≡ r.base.ptr) × (r.deed.len ≡ r.len)
    × (r.deed.alloc ≡ r.alloc) × (length r.cells.slots ≡ r.len)
