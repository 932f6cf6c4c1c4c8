-- What the values of arcs end as, once a `&mut` to one of them has ended.
use Rattle.std.specs.Prelude.{ℕ, ◌-◌, List, slice_set, Option, Some}
use Rattle.std.specs.Borrow.{Lends, LendsIf, Fml, RattleType, MutBor}
use Rattle.sota_fill.specs.contracts.arc_map.ArcMap.{the_row}

module _ (T : RattleType) (values : MutBor (List (Option T.Denot))) (arc : ℕ) where
  -- the arc has the last value written through r
  abbrev pub lends_value : MutBor T.Denot → Fml
  lends_value r = Lends (the_row T) T values r (λ w. slice_set values.now (arc - 1) (Some w))

  -- the same where r is a reference, and at `None` all stays
  abbrev pub lends_found : Option (MutBor T.Denot) → Fml
  lends_found r = LendsIf (the_row T) T values r
      (λ w. slice_set values.now (arc - 1) (Some w)) values.now
