-- The first fault of bytes, of rows in them, and of rows one after the other: for both versions.
use Rattle.std.proofs.Common.{◌≡◌, ℕ, suc, ◌+◌, ◌-◌, ◌*◌, ◌/◌, ◌≤◌, ◌<◌, Bool, true, false, not, ltb, List, length, Option, Some, None, refl, arith}
use Rattle.std.specs.Prelude.{nat_eq}
use Rattle.std.specs.List.{starts_with}
use Rattle.std.proofs.lemmas.Bool.{lt-ltb, le-ltb, ltb-false, not_from_true, not_from_false}
use Rattle.sota_polfile.specs.declared.fault.PolicyFault.{PolicyFault}
use Rattle.sota_polfile.specs.declared.fault.PolicyFault.TheVariants.{Magic, Truncated, Range, Trailing}
use Rattle.sota_polfile.specs.Places.{head_at}
use Rattle.sota_polfile.specs.Faults.{is_head, sized_fault, fault_among, head_fault, file_fault}
use Rattle.sota_polfile.proofs.Rules.{first_of_found, test_failed, none_first}

not_false : (b : Bool) → not b ≡ false → b ≡ true
not_false true e = refl
not_false false e = absurd cc

-- ---- one row

module _ (long at front : ℕ) (numbers : Option PolicyFault) (size count : ℕ) where
  pub sized_none : numbers ≡ None → at + front + size * count ≤ long → sized_fault long at front numbers size count ≡ None
  unfolding sized_fault
  sized_none good within =
      let whole : ltb long (at + front) ≡ false = le-ltb _ _ (omega arith) in
      let entries : ltb long (at + front + size * count) ≡ false = le-ltb _ _ within in
      rw (whole, good, entries) refl

  -- the bytes end before the entries
  pub sized_short : long < at + front → sized_fault long at front numbers size count ≡ Some (Truncated at)
  unfolding sized_fault
  sized_short short = first_of_found _ (Truncated at) _ (lt-ltb _ _ short)

  -- the bytes end inside an entry
  pub sized_cut : numbers ≡ None → at + front ≤ long → long < at + front + size * count → sized_fault long at front numbers size count ≡ Some (Truncated (at + front + size * ((long - (at + front)) / size)))
  unfolding sized_fault
  sized_cut good whole short =
      let enough : ltb long (at + front) ≡ false = le-ltb _ _ whole in
      let cut : ltb long (at + front + size * count) ≡ true = lt-ltb _ _ short in
      rw (enough, good, cut) refl

  -- the numbers are at fault
  pub sized_bad : (fault : PolicyFault) → numbers ≡ Some fault → at + front ≤ long → sized_fault long at front numbers size count ≡ Some fault
  unfolding sized_fault
  sized_bad fault found whole =
      let enough : ltb long (at + front) ≡ false = le-ltb _ _ whole in
      rw (enough, found) refl

  pub sized_passes : sized_fault long at front numbers size count ≡ None → (numbers ≡ None) × (at + front + size * count ≤ long)
  unfolding sized_fault
  sized_passes e =
      let whole = test_failed (ltb long (at + front)) (Truncated at) _ e in
      let good = none_first numbers _ whole.1 in
      let entries = test_failed (ltb long (at + front + size * count)) (Truncated (at + front + size * ((long - (at + front)) / size))) _ good.1 in
      (good.0, ltb-false _ _ entries.0)

-- ---- rows one after the other

module _ (fault : ℕ → Option PolicyFault) (k n : ℕ) where
  pub among_passed : fault k ≡ None → fault_among fault k (suc n) ≡ fault_among fault (k + 1) n
  unfolding fault_among
  among_passed none = rw none refl

  pub among_found : (found : PolicyFault) → fault k ≡ Some found → fault_among fault k (suc n) ≡ Some found
  unfolding fault_among
  among_found found is = rw is refl

  pub among_parts : fault_among fault k (suc n) ≡ None → (fault k ≡ None) × (fault_among fault (k + 1) n ≡ None)
  unfolding fault_among
  among_parts e = none_first (fault k) _ e

pub among_none : (fault : ℕ → Option PolicyFault) (k : ℕ) → fault_among fault k 0 ≡ None
unfolding fault_among
among_none fault k = refl

-- ---- the head

module _ (begin : List ℕ) (front : ℕ) (bytes : List ℕ) where
  -- what bytes with a head keep to
  pub record HasHead : Type 0 where
    pub begins : starts_with nat_eq bytes begin ≡ true
    pub long : front ≤ length bytes
    pub head : is_head (head_at bytes) ≡ true

  pub head_none : HasHead → head_fault begin front bytes ≡ None
  unfolding head_fault
  head_none has =
      let begins = not_from_true _ has.begins in
      let long : ltb (length bytes) front ≡ false = le-ltb _ _ has.long in
      let head = not_from_true _ has.head in
      rw (begins, long, head) refl

  pub none_head : head_fault begin front bytes ≡ None → HasHead
  unfolding head_fault
  none_head e =
      let begins = test_failed (not (starts_with nat_eq bytes begin)) Magic _ e in
      let long = test_failed (ltb (length bytes) front) (Truncated 0) _ begins.1 in
      let head = test_failed (not (is_head (head_at bytes))) (Range 0) _ long.1 in
      record { begins = not_false _ begins.0; long = ltb-false _ _ long.0; head = not_false _ head.0 }

  pub not_magic : starts_with nat_eq bytes begin ≡ false → head_fault begin front bytes ≡ Some Magic
  unfolding head_fault
  not_magic begins = first_of_found _ Magic _ (not_from_false _ begins)

  pub short_head : starts_with nat_eq bytes begin ≡ true → length bytes < front → head_fault begin front bytes ≡ Some (Truncated 0)
  unfolding head_fault
  short_head begins short =
      let passed = not_from_true _ begins in
      let cut : ltb (length bytes) front ≡ true = lt-ltb _ _ short in
      rw (passed, cut) refl

  pub bad_head : starts_with nat_eq bytes begin ≡ true → front ≤ length bytes → is_head (head_at bytes) ≡ false → head_fault begin front bytes ≡ Some (Range 0)
  unfolding head_fault
  bad_head begins long head =
      let passed = not_from_true _ begins in
      let whole : ltb (length bytes) front ≡ false = le-ltb _ _ long in
      let bad = not_from_false _ head in
      rw (passed, whole, bad) refl

-- ---- the whole file

module _ (begin : List ℕ) (front : ℕ) (rows : Option PolicyFault) (end : ℕ) (bytes : List ℕ) where
  -- bytes in which no fault is found
  pub record Clean : Type 0 where
    pub head : HasHead begin front bytes
    pub rows_pass : rows ≡ None
    pub ends : length bytes ≤ end

  pub clean_none : Clean → file_fault begin front rows end bytes ≡ None
  unfolding file_fault
  clean_none clean =
      let ends : ltb end (length bytes) ≡ false = le-ltb _ _ clean.ends in
      rw (head_none begin front bytes clean.head, clean.rows_pass, ends) refl

  pub none_clean : file_fault begin front rows end bytes ≡ None → Clean
  unfolding file_fault
  none_clean e =
      let head = none_first (head_fault begin front bytes) _ e in
      let row = none_first rows _ head.1 in
      let ends = test_failed (ltb end (length bytes)) (Trailing end) _ row.1 in
      record { head = none_head begin front bytes head.0; rows_pass = row.0; ends = ltb-false _ _ ends.0 }

  pub in_head : (fault : PolicyFault) → head_fault begin front bytes ≡ Some fault → file_fault begin front rows end bytes ≡ Some fault
  unfolding file_fault
  in_head fault found = rw found refl

  pub in_rows : (fault : PolicyFault) → head_fault begin front bytes ≡ None → rows ≡ Some fault → file_fault begin front rows end bytes ≡ Some fault
  unfolding file_fault
  in_rows fault none found = rw (none, found) refl

  pub more_bytes : head_fault begin front bytes ≡ None → rows ≡ None → end < length bytes → file_fault begin front rows end bytes ≡ Some (Trailing end)
  unfolding file_fault
  more_bytes none pass past =
      let trailing : ltb end (length bytes) ≡ true = lt-ltb _ _ past in
      rw (none, pass, trailing) refl
