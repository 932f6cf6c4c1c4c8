-- The summers of all arcs, node by node.
use Rattle.std.proofs.Common.{ℕ, zero, suc, ◌≡◌, ◌≢◌, ◌+◌, ◌-◌, ◌<◌, ◌≤◌, ◌==◌, nat_le, Bool, true, false, List, [], ◌∷◌, length, get_or, take, replicate, if◌then◌else◌, Option, None, Some, refl, sym, ◌∙◌, ap, subst, arith, ⊎_elim}
use Rattle.std.specs.List.{All, Contains}
use Rattle.std.proofs.Math.ListN.{set}
use Rattle.std.proofs.lemmas.Bool.{cases_eq, cases_lt, le-leb, lt-leb, true≢false}
use Rattle.std.proofs.lemmas.List.{get_or_past, length-replicate, get_or-replicate, length-set, get_or-set_same, get_or-set_other, take_all}
use Rattle.std.proofs.lemmas.List.Elements.{All-nil, All-more, All-weaker, All-contains}
use Rattle.sota_network.specs.Network.{Net, arc_at}
use Rattle.sota_network.specs.Numbers.{numbers}
use Rattle.sota_network.specs.declared.network.Arc.{Arc}
use Rattle.sota_online.specs.Summer.{SummerState}
use Rattle.sota_bounds.specs.Search.{time_at}
use Rattle.sota_bounds.specs.Cells.{pairs_by_lists, listed_need}
use Rattle.sota_bounds.specs.declared.ask.AskRegion.{AskRegion}
use Rattle.sota_kept.specs.Ticks.{END_LIMIT}
use Rattle.sota_tables.specs.Views.{TablesView}
use Rattle.sota_fill.specs.declared.broad.Summers.{Summers}
use Rattle.sota_fill.specs.Fed.{SummersList}
use Rattle.sota_plan.specs.Runs.{FitsIn, is_broad_by, first_position, first_sums_by, made_sums, states_of, states_at}
use Rattle.sota_plan.proofs.Places.{pairs-le}
use Rattle.sota_plan.proofs.FedMore.{get_or-default}
use Rattle.sota_plan.proofs.SumGoing.{number-low}

-- ---- the numbers of arcs rise, from one on
record Rises (n : ℕ) (es : List ℕ) : Type 0 where
  low : (k : ℕ) → k < length es → n ≤ get_or es k 0
  up : (j k : ℕ) → j < k → k < length es → get_or es j 0 < get_or es k 0

rise-low : (n : ℕ) (es : List ℕ) → Rises (suc n) es → (k : ℕ) → k < length (n ∷ es) → n ≤ get_or (n ∷ es) k 0
rise-low n es rises zero less = omega arith
rise-low n es rises (suc k) less = omega (arith, rises.low k (omega arith))

rise-up : (n : ℕ) (es : List ℕ) → Rises (suc n) es → (j k : ℕ) → j < k → k < length (n ∷ es) → get_or (n ∷ es) j 0 < get_or (n ∷ es) k 0
rise-up n es rises j zero early less = absurd (omega arith)
rise-up n es rises zero (suc k) early less = omega (arith, rises.low k (omega arith))
rise-up n es rises (suc j) (suc k) early less = rises.up j k (omega arith) (omega arith)

rise-by : (passes : Bool) (n : ℕ) (es : List ℕ) → Rises (suc n) es → Rises n (if passes then n ∷ es else es)
rise-by true n es rises = record { low = rise-low n es rises; up = rise-up n es rises }
rise-by false n es rises = record { low = λ k less. omega (arith, rises.low k less); up = rises.up }

numbers-rise : {X : Type 0} (test : X → Bool) (n : ℕ) (xs : List X) → Rises n (numbers test n xs)
numbers-rise test n [] = record { low = λ k less. absurd (omega arith); up = λ j k early less. absurd (omega arith) }
numbers-rise test n (x ∷ xs) = rise-by (test x) n (numbers test (suc n) xs) (numbers-rise test (suc n) xs)

module _ {Z : Type 0} (state : Z → SummerState) where
  -- at first none stand for an arc
  pub states-none : (n e : ℕ) → states_at state (replicate n None) e ≡ None
  states-none n e =
      ap (states_of state)
      (⊎_elim
      (λ (inside : e - 1 < n). get_or-replicate n (e - 1) None None inside)
      (λ (past : n ≤ e - 1). get_or_past (replicate n None) (e - 1) None (omega (arith, past, length-replicate {A = Option (Summers Z)} n None)))
      (cases_lt (e - 1) n))

  -- those that were put in the place of one arc, and those of another
  states-set : (broad : SummersList Z) (e : ℕ) (made : Option (Summers Z)) → 1 ≤ e → e ≤ length broad → states_at state (set broad (e - 1) made) e ≡ states_of state made
  states-set broad e made low high = ap (states_of state) (get_or-set_same broad (e - 1) made None (omega (arith, low, high)))

  states-kept : (broad : SummersList Z) (n e : ℕ) (made : Option (Summers Z)) → 1 ≤ n → 1 ≤ e → e ≢ n → states_at state (set broad (n - 1) made) e ≡ states_at state broad e
  states-kept broad n e made low above apart = ap (states_of state) (get_or-set_other broad (n - 1) (e - 1) made None (λ same. apart (omega (arith, low, above, same))))

  module _ (net : Net) (tables : TablesView) (region : AskRegion) where
    -- ---- the arcs that leave a node, one after another
    -- arc e has its summers, and there is room for their kernel
    pub record IsMade (broad : SummersList Z) (places e : ℕ) : Type 0 where
      pub low : 1 ≤ e
      pub sums : (arc : Arc) → arc_at net e ≡ Some arc → states_at state broad e ≡ made_sums tables region arc
      pub fits : (arc : Arc) → arc_at net e ≡ Some arc → FitsIn region places arc

    -- the arcs of the first k numbers have theirs, and all others are as before
    pub record MadeSome (node : ℕ) (es : List ℕ) (k : ℕ) (old now : SummersList Z) (places : ℕ) : Type 0 where
      pub same : length now ≡ length old
      pub done : All (IsMade now places) (take k es)
      pub others : (e : ℕ) (arc : Arc) → arc_at net e ≡ Some arc → arc.tail ≢ node → states_at state now e ≡ states_at state old e
      pub left : (e : ℕ) → 1 ≤ e → ((j : ℕ) → j < k → get_or es j 0 ≡ e → ⊥) → states_at state now e ≡ states_at state old e
      pub within : places ≤ END_LIMIT

    pub made-first : (node : ℕ) (es : List ℕ) (old : SummersList Z) → MadeSome node es 0 old old 0
    made-first node es old = record {
      same = refl;
      done = All-nil (IsMade old 0);
      others = λ e arc at off. refl;
      left = λ e low free. refl;
      within = omega arith;
    }

    -- the arc of the next number has none yet, as the numbers rise
    pub made-free : (node : ℕ) (es : List ℕ) (k : ℕ) (old now : SummersList Z) (places n : ℕ) → MadeSome node es k old now places → es ≡ numbers (λ (arc : Arc). arc.tail == node) 1 net.arcs → k < length es → n ≡ get_or es k n
        → states_at state old n ≡ None → states_at state now n ≡ None
    made-free node es k old now places n some same inside read none =
        let rises : Rises 1 es = subst (Rises 1) (sym same) (numbers-rise (λ (arc : Arc). arc.tail == node) 1 net.arcs) in
        let here : get_or es k 0 ≡ n = get_or-default es k 0 n inside ∙ sym read in
        some.left n (omega (arith, here, rises.low k inside)) (λ j early there. absurd (omega (arith, rises.up j k early inside, there, here))) ∙ none

    pub made-more : (node : ℕ) (es : List ℕ) (k : ℕ) (old now : SummersList Z) (places more n : ℕ) (arc : Arc) (made : Option (Summers Z)) → length old ≡ length net.arcs → MadeSome node es k old now places
        → k < length es → n ≡ get_or es k n → (1 ≤ n) × (n ≤ length net.arcs) → arc_at net n ≡ Some arc → arc.tail ≡ node
        → states_of state made ≡ made_sums tables region arc → FitsIn region more arc → places ≤ more → more ≤ END_LIMIT
        → MadeSome node es (k + 1) old (set now (n - 1) made) more
    made-more node es k old now places more n arc made long some inside read number at tail is fits less within =
        let new : SummersList Z = set now (n - 1) made in
        let one : (a : Arc) → arc_at net n ≡ Some a → arc ≡ a = λ a there. (let both : Some arc ≡ Some a = sym at ∙ there in cc) in
        let here : IsMade new more n = record {
          low = number.0;
          sums = λ a there. states-set now n made number.0 (omega (arith, number.1, long, some.same)) ∙ is ∙ ap (made_sums tables region) (one a there);
          fits = λ a there. subst (FitsIn region more) (one a there) fits;
        } in
        let keep : (e : ℕ) → IsMade now places e → IsMade new more e =
        λ e was.
        ⊎_elim
        (λ (same : e ≡ n). subst (IsMade new more) (sym same) here)
        (λ (apart : e ≡ n → ⊥). record {
          low = was.low;
          sums = λ a there. states-kept now n e made number.0 was.low apart ∙ was.sums a there;
          fits = λ a there wide. omega (arith, was.fits a there wide, less);
        })
        (cases_eq e n) in
        record {
          same = length-set now (n - 1) made ∙ some.same;
          done = All-more (IsMade new more) es k n inside (All-weaker (IsMade now places) (IsMade new more) keep (take k es) some.done) (subst (IsMade new more) read here);
          others = λ e a there off. states-kept now n e made number.0 (number-low net e a there) (λ same. off (ap (λ (x : Arc). x.tail) (sym (one a (subst (λ (i : ℕ). arc_at net i ≡ Some a) same there))) ∙ tail)) ∙ some.others e a there off;
          left = λ e low free.
              let here : get_or es k 0 ≡ n = get_or-default es k 0 n inside ∙ sym read in
              states-kept now n e made number.0 low (λ same. free k (omega arith) (here ∙ sym same)) ∙ some.left e low (λ j early. free j (omega arith));
          within = within;
        }

    -- all of them
    pub made-all : (node : ℕ) (es : List ℕ) (k : ℕ) (old now : SummersList Z) (places : ℕ) → MadeSome node es k old now places → length es ≤ k → es ≡ numbers (λ (arc : Arc). arc.tail == node) 1 net.arcs
        → (e : ℕ) → Contains (numbers (λ (arc : Arc). arc.tail == node) 1 net.arcs) e → IsMade now places e
    made-all node es k old now places some past same e has =
        All-contains (IsMade now places) es e (subst (All (IsMade now places)) (take_all k es past) some.done) (subst (λ (xs : List ℕ). Contains xs e) (sym same) has)

    -- ---- the arcs that leave the nodes up to one
    pub record MadeUpTo (k : ℕ) (broad : SummersList Z) (places : ℕ) : Type 0 where
      pub same : length broad ≡ length net.arcs
      pub sums : (e : ℕ) (arc : Arc) → arc_at net e ≡ Some arc → states_at state broad e ≡ (if nat_le arc.tail k then made_sums tables region arc else None)
      pub fits : (e : ℕ) (arc : Arc) → arc_at net e ≡ Some arc → arc.tail ≤ k → FitsIn region places arc
      pub within : places ≤ END_LIMIT

    pub upto-first : (broad : SummersList Z) → broad ≡ replicate (length net.arcs) None → ((e : ℕ) (arc : Arc) → arc_at net e ≡ Some arc → 1 ≤ arc.tail) → MadeUpTo 0 broad 0
    upto-first broad are low = record {
      same = ap length are ∙ length-replicate (length net.arcs) None;
      sums = λ e arc at. rw (lt-leb arc.tail 0 (low e arc at)) (ap (λ (b : SummersList Z). states_at state b e) are ∙ states-none (length net.arcs) e);
      fits = λ e arc at none. absurd (omega (arith, none, low e arc at));
      within = omega arith;
    }

    -- a node more, of whose arcs what is to stand for them is known, while the others are as before
    pub upto-more : (k : ℕ) (old new : SummersList Z) (places more : ℕ) → MadeUpTo k old places → length new ≡ length old → places ≤ more → more ≤ END_LIMIT
        → ((e : ℕ) (arc : Arc) → arc_at net e ≡ Some arc → arc.tail ≡ k + 1 → (states_at state new e ≡ made_sums tables region arc) × FitsIn region more arc)
        → ((e : ℕ) (arc : Arc) → arc_at net e ≡ Some arc → arc.tail ≢ k + 1 → states_at state new e ≡ states_at state old e) → MadeUpTo (k + 1) new more
    upto-more k old new places more upto long less within here others = record {
      same = long ∙ upto.same;
      sums = λ e arc at.
          ⊎_elim
          (λ (there : arc.tail ≡ k + 1). rw (le-leb arc.tail (k + 1) (omega (arith, there))) (here e arc at there).0)
          (λ (apart : arc.tail ≡ k + 1 → ⊥).
          others e arc at apart ∙ upto.sums e arc at
          ∙ ⊎_elim
          (λ (above : k < arc.tail). rw (lt-leb arc.tail k above, lt-leb arc.tail (k + 1) (omega (arith, above, apart))) refl)
          (λ (low : arc.tail ≤ k). rw (le-leb arc.tail k low, le-leb arc.tail (k + 1) (omega (arith, low))) refl)
          (cases_lt k arc.tail))
          (cases_eq arc.tail (k + 1));
      fits = λ e arc at low.
          ⊎_elim
          (λ (there : arc.tail ≡ k + 1). (here e arc at there).1)
          (λ (apart : arc.tail ≡ k + 1 → ⊥). λ wide. omega (arith, upto.fits e arc at (omega (arith, low, apart)) wide, less))
          (cases_eq arc.tail (k + 1));
      within = within;
    }

    -- none stand for the arcs of the next node
    pub upto-none : (k : ℕ) (broad : SummersList Z) (places : ℕ) → MadeUpTo k broad places → (e : ℕ) (arc : Arc) → arc_at net e ≡ Some arc → arc.tail ≡ k + 1 → states_at state broad e ≡ None
    upto-none k broad places upto e arc at there = upto.sums e arc at ∙ rw (lt-leb arc.tail k (omega (arith, there))) refl

    -- a node without a need has no pair, so none stand for its arcs
    pub upto-skip : (k : ℕ) (broad : SummersList Z) (places : ℕ) → MadeUpTo k broad places → listed_need region.need (k + 1) ≡ 0 → MadeUpTo (k + 1) broad places
    upto-skip k broad places upto none =
        upto-more k broad broad places places upto refl (omega arith) upto.within
        (λ e arc at there.
        let pairs : pairs_by_lists region.least region.need arc.tail ≡ 0 = (let few = pairs-le (time_at region.least (k + 1)) (listed_need region.need (k + 1)) in ap (pairs_by_lists region.least region.need) there ∙ omega (arith, few, none)) in (
          upto-none k broad places upto e arc at there
              ∙ sym (ap (λ (n : ℕ). first_sums_by n (first_position tables region arc) region.budget arc) pairs),
          λ wide. absurd (true≢false (sym wide ∙ ap (λ (n : ℕ). is_broad_by n region.budget arc) pairs)),
        ))
        (λ e arc at off. refl)

    pub upto-all : (k : ℕ) (broad : SummersList Z) (places : ℕ) → MadeUpTo k broad places → (e : ℕ) (arc : Arc) → arc_at net e ≡ Some arc → arc.tail ≤ k → states_at state broad e ≡ made_sums tables region arc
    upto-all k broad places upto e arc at low = upto.sums e arc at ∙ rw (le-leb arc.tail k low) refl
