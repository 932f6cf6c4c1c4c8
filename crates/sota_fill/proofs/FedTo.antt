-- Values that are fed to a summer.
use Rattle.std.proofs.Common.{ℕ, ◌≡◌, ◌+◌, ◌-◌, ◌<◌, ◌≤◌, max, List, [], ◌∷◌, ◌++◌, length, get_or, refl, sym, ◌∙◌, ap, subst, arith, ⊎_elim}
use Rattle.std.proofs.lemmas.Bool.{cases_lt}
use Rattle.std.proofs.lemmas.List.{length-append, get_or_append_left, get_or-append_right}
use Rattle.sota_online.specs.Summer.{SummerState, kernel_of, fed_more}
use Rattle.sota_fill.specs.Fed.{IsFed, IsSameSummer}

pub fed-next : (old new : SummerState) (v : ℕ) (time : List (ℕ × ℕ)) (base : ℕ) (f : ℕ → ℕ) → IsFed old time base f → 1 ≤ old.room → new ≡ fed_more v old → v ≡ f (base + length old.values) → IsFed new time base f
fed-next old new v time base f fed room at is =
    let long : length (old.values ++ v ∷ []) ≡ length old.values + 1 = length-append old.values (v ∷ []) in
    let total : length old.values + old.room ≡ length (old.values ++ v ∷ []) + (old.room - 1) = omega (arith, long, room) in
    subst (λ (s : SummerState). IsFed s time base f) (sym at)
    (record {
      kernel = fed.kernel ∙ ap (λ (n : ℕ). kernel_of n time) total;
      values = λ a less.
          ⊎_elim
          (λ (early : a < length old.values). get_or_append_left old.values (v ∷ []) 0 a early ∙ fed.values a early)
          (λ (last : length old.values ≤ a).
          let here : a ≡ length old.values = omega (arith, long, less, last) in
          let place : a - length old.values ≡ 0 = omega (arith, here) in
          get_or-append_right old.values (v ∷ []) (length old.values) a 0 refl last ∙ ap (λ (k : ℕ). get_or (v ∷ []) k 0) place ∙ is ∙ ap (λ (n : ℕ). f (base + n)) (sym here))
          (cases_lt a (length old.values));
      below = fed.below;
    })

-- a summer was fed on, until so many values are fed: value `a` is the given one
pub record FedTo (old now : SummerState) (count index : ℕ) (value : ℕ → ℕ) (places work : ℕ) : Type 0 where
  pub fed : (time : List (ℕ × ℕ)) (base : ℕ) (f : ℕ → ℕ) → IsFed old time base f → ((a : ℕ) → a < count → value a ≡ f (base + a)) → IsFed now time base f
  pub count_is : length now.values ≡ index
  pub low : length old.values ≤ index
  pub high : index ≤ max (length old.values) count
  pub same : IsSameSummer old now
  pub work_is : work ≡ places

-- and its kernel fits still
pub fed-to-fits : (old now : SummerState) (count index : ℕ) (value : ℕ → ℕ) (places work : ℕ) → FedTo old now count index value places work → length old.kernel ≤ places → length now.kernel ≤ work
fed-to-fits old now count index value places work to fits = omega (arith, ap (λ (xs : List ℕ). length xs) to.same.kernel, to.work_is, fits)

pub fed-to-more : (old now new : SummerState) (count index v : ℕ) (value : ℕ → ℕ) (places work work' : ℕ) → FedTo old now count index value places work → index < count → count ≤ length old.values + old.room → v ≡ value index → new ≡ fed_more v now → work' ≡ work → FedTo old new count (index + 1) value places work'
fed-to-more old now new count index v value places work work' to less room is at lent =
    let more : length new.values ≡ length now.values + 1 = ap (λ (s : SummerState). length s.values) at ∙ length-append now.values (v ∷ []) in
    let left : new.room ≡ now.room - 1 = ap (λ (s : SummerState). s.room) at in
    let some : 1 ≤ now.room = omega (arith, less, room, to.same.total, to.count_is) in
    record {
      fed = λ time base f start agree. fed-next now new v time base f (to.fed time base f start agree) some at (is ∙ agree index less ∙ ap (λ (n : ℕ). f (base + n)) (sym to.count_is));
      count_is = omega (arith, more, to.count_is);
      low = omega (arith, to.low);
      high = omega (arith, less);
      same = record {
        kernel = ap (λ (s : SummerState). s.kernel) at ∙ to.same.kernel;
        start = ap (λ (s : SummerState). s.start) at ∙ to.same.start;
        total = omega (arith, more, left, some, to.same.total);
      };
      work_is = lent ∙ to.work_is;
    }
