-- A request to make a network has numbers of which one is made.
use Rattle.std.proofs.Common.{◌≡◌, ◌≤◌, nat_le, ℕ, List, [], ◌∷◌, Bool, true, false}
use Rattle.std.proofs.Common.{Option, Some, None}
use Rattle.std.proofs.Common.{option_map, option_and_then, if◌then◌else◌, IfSome, codes, refl}
use Rattle.std.proofs.lemmas.Bool.{leb-true}
use Rattle.std.specs.Str.{bytes_eq}
use Rattle.sota_make.specs.Made.{is_size}
use Rattle.sota_app.specs.Words.{request_of, ask_request, file_request, replay_request}
use Rattle.sota_app.specs.Words.{report_request, timed_request, if_in_time, if_later}
use Rattle.sota_app.specs.Later.{are_later, later_of, LATER_LIMIT}
use Rattle.sota_app.specs.Words.{asked_of}
use Rattle.sota_app.specs.Requests.{TimedRequest}
use Rattle.sota_app.specs.declared.words.TimedAsk.{TimedAsk}
use Rattle.sota_app.specs.Words.{five, make_of, if_sized, IsSized}
use Rattle.sota_app.specs.declared.words.MakeWords.{MakeWords}
use Rattle.sota_app.specs.declared.words.Request.{Request}
use Rattle.sota_app.specs.declared.words.Request.TheVariants as requests

either : (b : Bool) (one other : Option Request) → IfSome one IsSized → IfSome other IsSized
    → IfSome (if b then one else other) IsSized
either true one other h k = h
either false one other h k = k

-- a request without such numbers
others : {A : Type 0} (request : A → Request) (words : Option A)
    → ((value : A) → IsSized (request value))
    → IfSome (option_map request words) IsSized
others request None all = tt
others request (Some value) all = all value

by_size : (make : MakeWords) (b : Bool) → is_size make.nodes make.arcs make.span ≡ b
    → IfSome (option_map (λ make. requests.Make make) (if b then Some make else None)) IsSized
by_size make true is = is
by_size make false is = tt

makes : (words : Option MakeWords)
    → IfSome (option_map (λ make. requests.Make make) (option_and_then if_sized words)) IsSized
makes None = tt
makes (Some make) = by_size make (is_size make.nodes make.arcs make.span) refl

-- what the words ask, with periods that follow one another
by_later : (words : TimedRequest) → words.asked.ask.budget ≤ words.asked.deadline → (b : Bool)
    → are_later LATER_LIMIT 0 words.later ≡ b
    → IfSome (option_map (λ words. requests.Timed words) (if b then Some words else None)) IsSized
by_later words begins true is = record { begins = begins; later = is }
by_later words begins false is = tt

abbrev pub timed_words : List ℕ → List ℕ → List (List ℕ) → TimedAsk → TimedRequest
timed_words graph hists later asked =
    record { graph = graph; hists = hists; asked = asked; later = later_of later }

by_clock : (graph hists : List ℕ) (later : List (List ℕ)) (asked : TimedAsk) (b : Bool)
    → nat_le asked.ask.budget asked.deadline ≡ b
    → IfSome (option_map (λ words. requests.Timed words) (option_and_then if_later
    (option_map (timed_words graph hists later) (if b then Some asked else None)))) IsSized
by_clock graph hists later asked true is =
    let words = timed_words graph hists later asked in
    by_later words (leb-true asked.ask.budget asked.deadline is)
    (are_later LATER_LIMIT 0 words.later) refl
by_clock graph hists later asked false is = tt

by_asked : (graph hists : List ℕ) (later : List (List ℕ)) (asked : Option TimedAsk)
    → IfSome (option_map (λ words. requests.Timed words) (option_and_then if_later
    (option_map (timed_words graph hists later) (option_and_then if_in_time asked)))) IsSized
by_asked graph hists later None = tt
by_asked graph hists later (Some asked) =
    by_clock graph hists later asked (nat_le asked.ask.budget asked.deadline) refl

timely : (words : List (List ℕ))
    → IfSome (option_map (λ words. requests.Timed words) (timed_request words)) IsSized
timely (graph ∷ origin ∷ dest ∷ budget ∷ deadline ∷ hists ∷ later) =
    by_asked graph hists later (asked_of origin dest budget deadline)
timely (graph ∷ origin ∷ dest ∷ budget ∷ deadline ∷ []) = tt
timely (graph ∷ origin ∷ dest ∷ budget ∷ []) = tt
timely (graph ∷ origin ∷ dest ∷ []) = tt
timely (graph ∷ origin ∷ []) = tt
timely (graph ∷ []) = tt
timely [] = tt

pub all_sized : (words : List (List ℕ)) → IfSome (request_of words) IsSized
all_sized [] = tt
all_sized (first ∷ words) =
    either (bytes_eq first (codes "ask")) _ _
    (others (λ request. requests.Ask request) (ask_request words) (λ value. tt))
    (either (bytes_eq first (codes "run")) _ _
    (others (λ request. requests.Run request) (file_request words) (λ value. tt))
    (either (bytes_eq first (codes "check")) _ _
    (others (λ request. requests.Check request) (file_request words) (λ value. tt))
    (either (bytes_eq first (codes "replay")) _ _
    (others (λ request. requests.Replay request) (replay_request words) (λ value. tt))
    (either (bytes_eq first (codes "make")) _ _ (makes (option_and_then
    (λ word. make_of word.0 word.1 word.2 word.3 word.4) (five words)))
    (either (bytes_eq first (codes "report")) _ _
    (others (λ request. requests.Report request) (report_request words) (λ value. tt))
    (either (bytes_eq first (codes "timed")) _ _ (timely words) tt))))))
