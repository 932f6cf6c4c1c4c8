-- What a reading call answers.
use Rattle.std.proofs.Common.{◌≡◌, ℕ, ◌<◌, Bool, true, false, List, length, Option, Some, None, Result, Ok, Err, refl}
use Rattle.std.specs.Result.{IsErrAnd}
use Rattle.std.proofs.lemmas.Result.{err_from_is_err_and}
use Rattle.sota_units.specs.Memory.{Unless, Answers, IsFault}
use Rattle.sota_polfile.specs.declared.fault.PolicyFault.{PolicyFault}
use Rattle.sota_polfile.specs.declared.fault.PolicyFault.TheVariants.{Trailing}
use Rattle.sota_polfile.specs.Words.{is_shortage}
use Rattle.sota_polfile.specs.Faults.{fault_or, head_fault, file_fault}
use Rattle.sota_polfile.proofs.FileFaults.{in_head, in_rows, more_bytes}

pub faultless : {T : Type 0} (found : Option PolicyFault) (value : T) → found ≡ None → fault_or found value ≡ Ok value
faultless found value e = rw e refl

pub fault_or_ok : {T : Type 0} (found : Option PolicyFault) (value other : T) → fault_or found value ≡ Ok other → (found ≡ None) × (value ≡ other)
fault_or_ok None value other e = (refl, cc)
fault_or_ok (Some fault) value other e = absurd cc

pub fault_or_err : {T : Type 0} (found : Option PolicyFault) (value : T) (fault : PolicyFault) → fault_or found value ≡ Err fault → found ≡ Some fault
fault_or_err None value fault e = absurd cc
fault_or_err (Some other) value fault e = cc

pub refused : {T : Type 0} (found : Option PolicyFault) (value : T) (fault : PolicyFault) → found ≡ Some fault → fault_or found value ≡ Err fault
refused found value fault e = rw e refl

pub unless_from : {P : Type 0} (want : Bool) → P → Unless want P
unless_from true p = tt
unless_from false p = p

-- what was found in a part of the work is what is found in all of it
pub unless_more : {P Q : Type 0} (want : Bool) → (P → Q) → Unless want P → Unless want Q
unless_more true go h = tt
unless_more false go h = go h

-- a fault that is passed on is the answer
pub passed_on : {T : Type 0} (r : Result T PolicyFault) (fault : PolicyFault) (meant : Result T PolicyFault) → IsErrAnd r (λ e. e ≡ fault) → Unless (is_shortage fault) (meant ≡ Err fault) → Answers is_shortage r meant
passed_on r fault meant given refusal = let p = err_from_is_err_and r given in rw (p.1, p.2) refusal

-- ---- what the reader of a file answers, for both versions

module _ {T : Type 0} (begin : List ℕ) (front : ℕ) (rows : Option PolicyFault) (end : ℕ) (bytes : List ℕ) (value : T) where
  pub head_refused : (r : Result T PolicyFault) (fault : PolicyFault) → IsErrAnd r (λ e. e ≡ fault) → head_fault begin front bytes ≡ Some fault → Answers is_shortage r (fault_or (file_fault begin front rows end bytes) value)
  head_refused r fault given found =
      passed_on r fault _ given (unless_from (is_shortage fault) (refused _ value fault (in_head begin front rows end bytes fault found)))

  pub rows_refused : (r : Result T PolicyFault) (fault : PolicyFault) → IsErrAnd r (λ e. e ≡ fault) → head_fault begin front bytes ≡ None → IsFault is_shortage rows fault → Answers is_shortage r (fault_or (file_fault begin front rows end bytes) value)
  rows_refused r fault given none found =
      passed_on r fault _ given (unless_more (is_shortage fault) (λ is. refused _ value fault (in_rows begin front rows end bytes fault none is)) found)

  pub end_refused : head_fault begin front bytes ≡ None → rows ≡ None → end < length bytes → fault_or (file_fault begin front rows end bytes) value ≡ Err (Trailing end)
  end_refused none pass past = refused _ value (Trailing end) (more_bytes begin front rows end bytes none pass past)
