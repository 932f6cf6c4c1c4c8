-- Inputs that are read one after the other.
use Rattle.std.proofs.Common.{◌≡◌, ℕ, List, [], ◌∷◌, ◌++◌, Option, Some, None, Result, Ok, Err, IsOk}
use Rattle.std.proofs.Common.{IfSome, refl, sym, ◌∙◌, subst, inl, inr, arith}
use Rattle.std.specs.Option.{IsSomeAnd}
use Rattle.sota_units.specs.Memory.{◌>>=◌}
use Rattle.sota_edge.specs.Counts.{Rose}
use Rattle.sota_edge.specs.Desk.{Files, DeskState}
use Rattle.sota_dimacs.specs.declared.graph.RawGraph.{RawGraph}
use Rattle.sota_network.specs.Network.{Net}
use Rattle.sota_app.specs.Outcome.{graph_named, with_hists, network_of, periods_after, periods_of}
use Rattle.sota_app.specs.Outcome.{all_periods, one_scale}
use Rattle.sota_app.specs.Requests.{TimedRequest}
use Rattle.sota_app.specs.Causes.{UnreadTimed}
use Rattle.sota_app.specs.Causes.{Known, Accepted, Took, Unread, UnreadHists, UnreadPeriods}
use Rattle.sota_app.specs.Inputs.{OnlyTook, InputAnswers}
use Rattle.sota_app.specs.declared.input.InputFault.{InputFault}
use Rattle.sota_app.specs.declared.input.NoInput.{NoInput}
use Rattle.sota_app.specs.declared.input.NoInput.TheVariants as ends
use Rattle.sota_app.proofs.Known.{known_map}

-- ---- a desk from which was taken before

took_then : (d m n : DeskState) → OnlyTook d m → OnlyTook m n → OnlyTook d n
took_then d m n first second = record {
  holds = second.holds ∙ first.holds;
  fault_name = second.fault_name ∙ first.fault_name;
  loads = second.loads ∙ first.loads;
  stores = second.stores ∙ first.stores;
  taken = omega (arith, first.taken, second.taken);
}

fault_then : (fault : InputFault) (d m n : DeskState) → OnlyTook d m → Took fault m n
    → Took fault d n
fault_then fault d m n first took = elim took [
  | inl text ↦ inl text
  | inr rose ↦ inr (omega (arith, first.taken, rose))
]

known_before : (d m : DeskState) (P : Files → Type 0) → OnlyTook d m → Known m P → Known d P
known_before d m P took h = subst (λ (held : Option Files). IfSome held P) took.holds h

unread_before : (name : List ℕ) (d m n : DeskState) → OnlyTook d m → Unread name m n
    → Unread name d n
unread_before name d m n took h = elim h [
  | inl fault ↦ inl (subst (λ count. Rose count n.load_faults) took.loads fault.0, fault.1)
  | inr gone ↦ inr (subst (λ (held : Option Files). IsSomeAnd held (λ files. files name ≡ None))
      took.holds gone)
]

pub known_both : (o : Option Files) (P Q R : Files → Type 0)
    → ((files : Files) → P files → Q files → R files) → IfSome o P → IfSome o Q → IfSome o R
known_both (Some files) P Q R f p q = f files p q
known_both None P Q R f p q = q

-- ---- an input, and what is read after it

after_ok : {A B : Type 0} (read : Result A NoInput) (value : A) (next : A → Result B NoInput)
    (made : Result B NoInput) → read ≡ Ok value → next value ≡ made → (read >>= next) ≡ made
after_ok read value next made is e = rw is e

after_err : {A B : Type 0} (read : Result A NoInput) (end : NoInput) (next : A → Result B NoInput)
    → read ≡ Err end → (read >>= next) ≡ Err end
after_err read end next is = rw is refl

pub then_read : {T A B : Type 0} (view : T → A) (result : Result T NoInput)
    (first : Files → Result B NoInput) (value : B) (next : Files → B → Result A NoInput)
    (Missed Next : DeskState → DeskState → Type 0) (d m n : DeskState) → OnlyTook d m
    → Known d (λ files. first files ≡ Ok value) → (Next m n → Missed d n)
    → InputAnswers view result (λ files. next files value) Next m n
    → InputAnswers view result (λ files. first files >>= next files) Missed d n
then_read view (Ok x) first value next Missed Next d m n took known more read = (
  took_then d m n took read.0,
  known_both d.holds _ _ _ (λ files is e. after_ok (first files) value (next files) _ is e) known
      (known_before d m _ took read.1),
)
then_read view (Err (ends.Fault fault)) first value next Missed Next d m n took known more read = (
  took_then d m n took read.0,
  fault_then fault d m n took read.1,
  known_both d.holds _ _ _ (λ files is e. after_ok (first files) value (next files) _ is e) known
      (known_before d m _ took read.2),
)
then_read view (Err ends.Unread) first value next Missed Next d m n took known more read =
    (more read.0, read.1 ∙ took.holds)
then_read view (Err ends.NoMemory) first value next Missed Next d m n took known more read =
    read ∙ took.holds

-- nothing is read after what is not accepted or not there
pub first_unread : {T A B C : Type 0} (of : T → B) (view : C → A) (end : NoInput)
    (first : Files → Result B NoInput) (next : Files → B → Result A NoInput)
    (First Missed : DeskState → DeskState → Type 0) (d n : DeskState)
    → (First d n → Missed d n) → InputAnswers of (Err end) first First d n
    → InputAnswers view (Err end) (λ files. first files >>= next files) Missed d n
first_unread of view (ends.Fault fault) first next First Missed d n more read = (
  read.0,
  read.1,
  known_map d.holds _ _ (λ files is. after_err (first files) _ (next files) is) read.2,
)
first_unread of view ends.Unread first next First Missed d n more read = (more read.0, read.1)
first_unread of view ends.NoMemory first next First Missed d n more read = read

-- ---- periods

pub periods_before : (network : List ℕ → Files → Result Net NoInput) (ps : List (ℕ × List ℕ))
    (d m n : DeskState) → OnlyTook d m → UnreadPeriods network ps m n
    → UnreadPeriods network ps d n
periods_before network [] d m n took h = absurd h
periods_before network (p ∷ ps) d m n took h = elim h [
  | inl hists ↦ inl (hists.0, unread_before p.1 d m n took hists.1)
  | inr after ↦
      inr (known_before d m _ took after.0, periods_before network ps d m n took after.1)
]

-- a network that was accepted
pub read_ok : {A : Type 0} (meaning : Files → Result A NoInput) (value : A) (d : DeskState)
    → Known d (λ files. meaning files ≡ Ok value) → Accepted meaning d
read_ok meaning value d known = known_map d.holds _ _ (λ files is. rw is refl) known

ok_over : {A B : Type 0} (read : Result A NoInput) (value : A) (next : A → Result B NoInput)
    → read ≡ Ok value → IsOk (next value) → IsOk (read >>= next)
ok_over read value next is ok = rw is ok

-- the same where the graph is what the files mean
pub periods_over : (name : List ℕ) (graph : RawGraph) (ps : List (ℕ × List ℕ)) (d n : DeskState)
    → Known d (λ files. graph_named name files ≡ Ok graph)
    → UnreadPeriods (λ hists files. with_hists hists files graph) ps d n
    → UnreadPeriods (network_of name) ps d n
periods_over name graph [] d n known h = absurd h
periods_over name graph (p ∷ ps) d n known h = elim h [
  | inl hists ↦ inl hists
  | inr after ↦ inr (
    known_both d.holds _ _ _
        (λ files is ok. ok_over (graph_named name files) graph (with_hists p.1 files) is ok) known
        after.0,
    periods_over name graph ps d n known after.1,
  )
]

abbrev pub nets_over : RawGraph → List ℕ → Files → Result Net NoInput
nets_over graph hists files = with_hists hists files graph

-- the histograms of a period are not there, or are not accepted
pub period_unread : {T C : Type 0} (of : T → Net) (view : C → List (ℕ × Net)) (end : NoInput)
    (graph : RawGraph) (start : ℕ) (hists : List ℕ) (known : List (ℕ × Net))
    (ps : List (ℕ × List ℕ)) (d n : DeskState)
    → InputAnswers of (Err end) (nets_over graph hists) (UnreadHists hists) d n
    → InputAnswers view (Err end) (λ files. periods_after graph files known ((start, hists) ∷ ps))
    (UnreadPeriods (nets_over graph) ((start, hists) ∷ ps)) d n
period_unread of view end graph start hists known ps d n read =
    first_unread of view end (nets_over graph hists)
    (λ files net. periods_after graph files (known ++ (start, net) ∷ []) ps)
    (UnreadHists hists) (UnreadPeriods (nets_over graph) ((start, hists) ∷ ps)) d n
    (λ missed. inl missed) read

-- they were read, and then what is after them
pub period_read : {T : Type 0} (view : T → List (ℕ × Net)) (result : Result T NoInput)
    (graph : RawGraph) (start : ℕ) (hists : List ℕ) (net : Net) (known : List (ℕ × Net))
    (ps : List (ℕ × List ℕ)) (d m n : DeskState) → OnlyTook d m
    → Known d (λ files. with_hists hists files graph ≡ Ok net)
    → InputAnswers view result
    (λ files. periods_after graph files (known ++ (start, net) ∷ []) ps)
    (UnreadPeriods (nets_over graph) ps) m n
    → InputAnswers view result (λ files. periods_after graph files known ((start, hists) ∷ ps))
    (UnreadPeriods (nets_over graph) ((start, hists) ∷ ps)) d n
period_read view result graph start hists net known ps d m n took is read =
    then_read view result (nets_over graph hists) net
    (λ files net. periods_after graph files (known ++ (start, net) ∷ []) ps)
    (UnreadPeriods (nets_over graph) ((start, hists) ∷ ps)) (UnreadPeriods (nets_over graph) ps)
    d m n took is
    (λ missed. inr (
      read_ok (nets_over graph hists) net d is,
      periods_before (nets_over graph) ps d m n took missed,
    )) read

-- the same of what the code has in its hands
pub period_more : {T : Type 0} (view : T → List (ℕ × Net)) (result : Result T NoInput)
    (graph : RawGraph) (start : ℕ) (hists : List ℕ) (net : Net) (known all : List (ℕ × Net))
    (ps rest : List (ℕ × List ℕ)) (d m n : DeskState) → OnlyTook d m
    → Known d (λ files. with_hists hists files graph ≡ Ok net)
    → all ≡ known ++ (start, net) ∷ [] → ps ≡ rest
    → InputAnswers view result (λ files. periods_after graph files all rest)
    (UnreadPeriods (nets_over graph) rest) m n
    → InputAnswers view result (λ files. periods_after graph files known ((start, hists) ∷ ps))
    (UnreadPeriods (nets_over graph) ((start, hists) ∷ ps)) d n
period_more view result graph start hists net known all ps rest d m n took is pushed same read =
    period_read view result graph start hists net known ps d m n took is
    (subst (λ (ps : List (ℕ × List ℕ)). InputAnswers view result
    (λ files. periods_after graph files (known ++ (start, net) ∷ []) ps)
    (UnreadPeriods (nets_over graph) ps) m n) (sym same)
    (subst (λ (all : List (ℕ × Net)). InputAnswers view result
    (λ files. periods_after graph files all rest)
    (UnreadPeriods (nets_over graph) rest) m n) pushed read))

-- ---- the graph and the periods

-- a period was not there, or not accepted
pub timed_unread : {T C : Type 0} (of : T → List (ℕ × Net)) (view : C → List (ℕ × Net))
    (end : NoInput) (read : Result T NoInput) (result : Result C NoInput) (words : TimedRequest)
    (graph : RawGraph) (known : List (ℕ × Net)) (d m n : DeskState) → known ≡ []
    → read ≡ Err end → result ≡ Err end → OnlyTook d m
    → Known d (λ files. graph_named words.graph files ≡ Ok graph)
    → InputAnswers of read (λ files. periods_after graph files known (all_periods words))
    (UnreadPeriods (nets_over graph) (all_periods words)) m n
    → InputAnswers view result (periods_of words) (UnreadTimed words) d n
timed_unread {T} {C} of view end read result words graph known d m n none read_is result_is took is
    h =
    subst (λ (made : Result C NoInput).
    InputAnswers view made (periods_of words) (UnreadTimed words) d n) (sym result_is)
    (then_read view (Err end) (graph_named words.graph) graph
    (λ files graph. periods_after graph files [] (all_periods words) >>= one_scale)
    (UnreadTimed words) (UnreadPeriods (nets_over graph) (all_periods words)) d m n took is
    (λ missed. inr (
      read_ok (graph_named words.graph) graph d is,
      periods_over words.graph graph (all_periods words) d n is
          (periods_before (nets_over graph) (all_periods words) d m n took missed),
    ))
    (first_unread of view end (λ files. periods_after graph files [] (all_periods words))
    (λ files. one_scale) (UnreadPeriods (nets_over graph) (all_periods words))
    (UnreadPeriods (nets_over graph) (all_periods words)) m n (λ missed. missed)
    (subst (λ (made : Result T NoInput).
    InputAnswers of made (λ files. periods_after graph files [] (all_periods words))
    (UnreadPeriods (nets_over graph) (all_periods words)) m n) read_is
    (subst (λ (known : List (ℕ × Net)).
    InputAnswers of read (λ files. periods_after graph files known (all_periods words))
    (UnreadPeriods (nets_over graph) (all_periods words)) m n) none h))))
