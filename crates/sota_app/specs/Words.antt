-- The requests and their words.
use Rattle.std.specs.Prelude.{ℕ, List, [], ◌∷◌, Option, Some, None, option_map, option_and_then}
use Rattle.std.specs.Prelude.{◌≡◌, ◌≤◌, true, nat_le, if◌then◌else◌, codes}
use Rattle.std.specs.Str.{bytes_eq}
use Rattle.sota_text.specs.Text.{number_of}
use Rattle.sota_text.specs.Words.{three, four}
use Rattle.sota_make.specs.Made.{is_size}
use Rattle.sota_script.specs.declared.command.Ask3.{Ask3}
use Rattle.sota_app.specs.Later.{LATER_LIMIT, later_of, are_later}
use Rattle.sota_app.specs.Requests.{AskRequest, FileRequest, ReportRequest, TimedRequest}
use Rattle.sota_app.specs.declared.words.ReplayWords.{ReplayWords}
use Rattle.sota_app.specs.declared.words.Trips.{Trips}
use Rattle.sota_app.specs.declared.words.MakeWords.{MakeWords}
use Rattle.sota_app.specs.declared.words.TimedAsk.{TimedAsk}
use Rattle.sota_app.specs.declared.words.Request.{Request}
use Rattle.sota_app.specs.declared.words.Request.TheVariants as requests

-- 'O D T'
abbrev pub ask_of : List ℕ → List ℕ → List ℕ → Option Ask3
ask_of origin dest budget =
    option_and_then (λ o. option_and_then (λ d. option_map (λ t.
    record { origin = o; dest = d; budget = t })
    (number_of budget)) (number_of dest)) (number_of origin)

-- five words and no more
abbrev pub five : List (List ℕ) → Option (List ℕ × List ℕ × List ℕ × List ℕ × List ℕ)
five (a ∷ b ∷ c ∷ d ∷ e ∷ []) = Some (a, b, c, d, e)
five _ = None

-- 'GRAPH HISTS O D T' after 'ask'
abbrev pub ask_request : List (List ℕ) → Option AskRequest
ask_request words =
    option_and_then (λ word. option_map (λ ask.
    record { graph = word.0; hists = word.1; ask = ask })
    (ask_of word.2 word.3 word.4)) (five words)

-- 'GRAPH HISTS SCRIPT' after 'run', and 'GRAPH HISTS POLICY' after 'check'
abbrev pub file_request : List (List ℕ) → Option FileRequest
file_request words =
    option_map (λ word. record { graph = word.0; hists = word.1; file = word.2 }) (three words)

-- 'GRAPH HISTS NAMES SCRIPT' after 'report'
abbrev pub report_request : List (List ℕ) → Option ReportRequest
report_request words =
    option_map (λ word. record {
      graph = word.0;
      hists = word.1;
      names = word.2;
      script = word.3;
    }) (four words)

-- the most trips of a request
abbrev pub TRIP_LIMIT : ℕ
TRIP_LIMIT = 1000000

-- a number of trips that is not too great
abbrev pub few_trips : ℕ → Option ℕ
few_trips count = if nat_le count TRIP_LIMIT then Some count else None

-- 'TRIPS SEED'
abbrev pub trips_of : List ℕ → List ℕ → Option Trips
trips_of count seed =
    option_and_then (λ n. option_map (λ s. record { count = n; seed = s }) (number_of seed))
    (option_and_then few_trips (number_of count))

-- 'GRAPH HISTS POLICY TRIPS SEED' after 'replay'
abbrev pub replay_request : List (List ℕ) → Option ReplayWords
replay_request words =
    option_and_then (λ word. option_map (λ trips. record {
      names = record { graph = word.0; hists = word.1; file = word.2 };
      trips = trips;
    }) (trips_of word.3 word.4)) (five words)

-- 'SEED NODES ARCS SPAN T'
abbrev pub make_of : List ℕ → List ℕ → List ℕ → List ℕ → List ℕ → Option MakeWords
make_of seed nodes arcs span budget =
    option_and_then (λ s. option_and_then (λ n. option_and_then (λ a. option_and_then (λ p.
    option_map (λ t. record { seed = s; nodes = n; arcs = a; span = p; budget = t })
    (number_of budget)) (number_of span)) (number_of arcs)) (number_of nodes)) (number_of seed)

-- numbers of which a network is made
abbrev pub if_sized : MakeWords → Option MakeWords
if_sized make = if is_size make.nodes make.arcs make.span then Some make else None

-- 'SEED NODES ARCS SPAN T' after 'make'
abbrev pub make_request : List (List ℕ) → Option MakeWords
make_request words =
    option_and_then if_sized
    (option_and_then (λ word. make_of word.0 word.1 word.2 word.3 word.4) (five words))

-- 'O D T A'
abbrev pub asked_of : List ℕ → List ℕ → List ℕ → List ℕ → Option TimedAsk
asked_of origin dest budget deadline =
    option_and_then (λ ask. option_map (λ clock. record { ask = ask; deadline = clock })
    (number_of deadline)) (ask_of origin dest budget)

-- a trip begins at tick 0 of the clock or later
abbrev pub if_in_time : TimedAsk → Option TimedAsk
if_in_time asked = if nat_le asked.ask.budget asked.deadline then Some asked else None

abbrev pub timed_ask : List ℕ → List ℕ → List ℕ → List ℕ → Option TimedAsk
timed_ask origin dest budget deadline =
    option_and_then if_in_time (asked_of origin dest budget deadline)

abbrev pub if_later : TimedRequest → Option TimedRequest
if_later words = if are_later LATER_LIMIT 0 words.later then Some words else None

-- 'GRAPH O D T A HISTS (START HISTS)..' after 'timed'
abbrev pub timed_request : List (List ℕ) → Option TimedRequest
timed_request (graph ∷ origin ∷ dest ∷ budget ∷ deadline ∷ hists ∷ later) =
    option_and_then if_later (option_map (λ asked. record {
      graph = graph;
      hists = hists;
      asked = asked;
      later = later_of later;
    }) (timed_ask origin dest budget deadline))
timed_request _ = None

-- the request of the words after the program's name, where they are one: the first word decides
abbrev pub request_of : List (List ℕ) → Option Request
request_of [] = None
request_of (first ∷ words) =
    if bytes_eq first (codes "ask") then
    option_map (λ request. requests.Ask request) (ask_request words)
    else (if bytes_eq first (codes "run") then
    option_map (λ request. requests.Run request) (file_request words)
    else (if bytes_eq first (codes "check") then
    option_map (λ request. requests.Check request) (file_request words)
    else (if bytes_eq first (codes "replay") then
    option_map (λ request. requests.Replay request) (replay_request words)
    else (if bytes_eq first (codes "make") then
    option_map (λ request. requests.Make request) (make_request words)
    else (if bytes_eq first (codes "report") then
    option_map (λ request. requests.Report request) (report_request words)
    else (if bytes_eq first (codes "timed") then
    option_map (λ request. requests.Timed request) (timed_request words)
    else None))))))

-- no trip begins before the clock does, and the periods follow one another
pub record IsTimely (words : TimedRequest) : Type 0 where
  pub begins : words.asked.ask.budget ≤ words.asked.deadline
  pub later : are_later LATER_LIMIT 0 words.later ≡ true

-- a network is made of the numbers of the request, or periods of its words, where it has those
abbrev pub IsSized : Request → Type 0
IsSized (requests.Make make) = is_size make.nodes make.arcs make.span ≡ true
IsSized (requests.Timed words) = IsTimely words
IsSized _ = Unit {0}
