-- What a call answers that may want memory: what its definition says, or that there was no memory,
-- which has no cause in what was handed in.
use Rattle.std.specs.Prelude.{◌≡◌, Bool, true, false, Option, Some, Result, Ok, Err}

-- a fact that is said only where something is not so
abbrev pub Unless : Bool → Type 0 → Type 0
Unless true P = Unit {0}
Unless false P = P

-- the answer is the one that is defined, unless its fault is want of memory
abbrev pub Answers : {A E : Type 0} → (E → Bool) → Result A E → Result A E → Type 0
Answers is_shortage (Ok value) defined = defined ≡ Ok value
Answers is_shortage (Err fault) defined = Unless (is_shortage fault) (defined ≡ Err fault)

-- the same where the answer is seen through a view of what it holds
abbrev pub AnswersBy : {T A E : Type 0} → (E → Bool) → (T → A) → Result T E → Result A E → Type 0
AnswersBy is_shortage view (Ok value) defined = defined ≡ Ok (view value)
AnswersBy is_shortage view (Err fault) defined = Unless (is_shortage fault) (defined ≡ Err fault)

-- the fault is the one that is defined, unless it is want of memory
abbrev pub IsFault : {E : Type 0} → (E → Bool) → Option E → E → Type 0
IsFault is_shortage defined fault = Unless (is_shortage fault) (defined ≡ Some fault)

-- the first fault decides, where results are read one after the other
infixl 10 ◌>>=◌
abbrev pub ◌>>=◌ : {A B E : Type 0} → Result A E → (A → Result B E) → Result B E
(Ok x) >>= f = f x
(Err fault) >>= f = Err fault

-- what is there, or else this fault
abbrev pub or_fault : {A E : Type 0} → E → Option A → Result A E
or_fault fault (Some x) = Ok x
or_fault fault _ = Err fault
