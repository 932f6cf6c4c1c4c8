-- The network that files mean is one.
use Rattle.std.proofs.Common.{◌≡◌, ℕ, List, [], ◌∷◌, ◌++◌, Bool, true, false, Option, Some, None}
use Rattle.std.proofs.Common.{Result, Ok, Err, if◌then◌else◌, refl, sym, ◌∙◌, ap, subst}
use Rattle.sota_units.specs.Memory.{◌>>=◌}
use Rattle.sota_edge.specs.Desk.{Files}
use Rattle.sota_dimacs.specs.Graph.{graph_text, IsGraph}
use Rattle.sota_dimacs.specs.declared.graph.RawGraph.{RawGraph}
use Rattle.sota_network.specs.Network.{Net, IsNet}
use Rattle.sota_histcsv.specs.Certain.{certain_net}
use Rattle.sota_histcsv.specs.Histograms.{hist_net}
use Rattle.sota_app.specs.Outcome.{or_input_fault, input_bytes, read_graph, graph_named, certain_hists}
use Rattle.sota_make.specs.Made.{is_size, made}
use Rattle.sota_app.specs.Requests.{FileRequest}
use Rattle.sota_app.specs.Words.{IsSized}
use Rattle.sota_app.specs.Script.{script_lines}
use Rattle.sota_app.specs.Outcome.{read_hists, is_dash, with_hists, network_of, script_of}
use Rattle.sota_app.specs.Outcome.{names_of, periods_after, periods_of, unless_differs, one_scale}
use Rattle.sota_app.specs.Outcome.{all_periods}
use Rattle.sota_app.specs.Requests.{TimedRequest}
use Rattle.sota_period.specs.Periods.{first_net, scale_differs}
use Rattle.sota_app.specs.Outcome.{table_named, any_table_named, Job, play, judge_any, replay}
use Rattle.sota_app.specs.Outcome.{Work, work_of}
use Rattle.sota_app.specs.declared.voice.Voice.TheVariants.{Plain}
use Rattle.sota_app.specs.declared.input.Input.TheVariants as inputs
use Rattle.sota_app.specs.declared.input.InputFault.{InputFault}
use Rattle.sota_app.specs.declared.input.NoInput.{NoInput}
use Rattle.sota_app.specs.declared.words.Request.{Request}
use Rattle.sota_app.specs.declared.words.Request.TheVariants as requests

-- what the readers of texts say of their definitions
abbrev pub Graphs : Type 0
Graphs = (bytes : List ℕ) (graph : RawGraph) → graph_text bytes ≡ Ok graph → IsGraph graph

abbrev pub Texts : Type 0
Texts = (bytes : List ℕ) (graph : RawGraph) (net : Net) → IsGraph graph
    → hist_net bytes graph ≡ Ok net → IsNet net

abbrev pub Weights : Type 0
Weights = (graph : RawGraph) (net : Net) → IsGraph graph → certain_net graph ≡ Ok net → IsNet net

abbrev pub Makes : Type 0
Makes = (seed nodes arcs span : ℕ) → is_size nodes arcs span ≡ true
    → IsNet (made seed nodes arcs span)

was_ok : {A E : Type 0} (fault_of : E → InputFault) (read : Result A E) (value : A)
    → or_input_fault fault_of read ≡ Ok value → read ≡ Ok value
was_ok fault_of (Ok other) value e = cc
was_ok fault_of (Err fault) value e = absurd (cc)

-- what was read before what followed it
record Followed {A B : Type 0} (read : Result A NoInput) (next : A → Result B NoInput)
    (value : B) : Type 0 where
  first : A
  first_is : read ≡ Ok first
  next_is : next first ≡ Ok value

followed : {A B : Type 0} (read : Result A NoInput) (next : A → Result B NoInput) (value : B)
    → (read >>= next) ≡ Ok value → Followed read next value
followed (Ok first) next value e = record { first = first; first_is = refl; next_is = e }
followed (Err end) next value e = absurd (cc)

graph_valid : Graphs → (name : List ℕ) (files : Files) (graph : RawGraph)
    → graph_named name files ≡ Ok graph → IsGraph graph
graph_valid graphs name files graph e =
    let h = followed (input_bytes inputs.Graph (files name)) read_graph graph e in
    graphs h.first graph (was_ok _ (graph_text h.first) graph h.next_is)

hists_by : Texts → Weights → (word : Bool) (name : List ℕ) (files : Files) (graph : RawGraph)
    (net : Net) → IsGraph graph
    → (if word then certain_hists graph
    else (input_bytes inputs.Hists (files name) >>= read_hists graph)) ≡ Ok net
    → IsNet net
hists_by texts weights true name files graph net valid e =
    weights graph net valid (was_ok _ (certain_net graph) net e)
hists_by texts weights false name files graph net valid e =
    let h = followed (input_bytes inputs.Hists (files name)) (read_hists graph) net e in
    texts h.first graph net valid (was_ok _ (hist_net h.first graph) net h.next_is)

network_valid : Graphs → Texts → Weights → (graph hists : List ℕ) (files : Files) (net : Net)
    → network_of graph hists files ≡ Ok net → IsNet net
network_valid graphs texts weights graph hists files net e =
    let h = followed (graph_named graph files) (with_hists hists files) net e in
    hists_by texts weights (is_dash hists) hists files h.first net
    (graph_valid graphs graph files h.first h.first_is) h.next_is

abbrev pub accepted : Work → Result Work NoInput
accepted work = Ok work

net_is : (made work : Work) → accepted made ≡ accepted work → made.net ≡ work.net
net_is made work e = let same : made ≡ work = cc in ap (λ (w : Work). w.net) same

-- the network of work on a network and one file more
named_valid : {A : Type 0} → Graphs → Texts → Weights → (names : FileRequest) (files : Files)
    (last : Result A NoInput) (job : A → Job) (work : Work)
    → (network_of names.graph names.hists files >>= λ net. last >>= λ value.
    accepted (record { net = net; job = job value })) ≡ accepted work
    → IsNet work.net
named_valid graphs texts weights names files last job work e =
    let h = followed (network_of names.graph names.hists files) _ work e in
    let k = followed last _ work h.next_is in
    subst IsNet (net_is _ work k.next_is)
    (network_valid graphs texts weights names.graph names.hists files h.first h.first_is)

-- the first period stays the first
kept_first : (graph : RawGraph) (files : Files) (p : ℕ × Net) (known : List (ℕ × Net))
    (ps : List (ℕ × List ℕ)) (periods : List (ℕ × Net))
    → periods_after graph files (p ∷ known) ps ≡ Ok periods → first_net periods ≡ p.1
kept_first graph files p known [] periods e =
    let same : p ∷ known ≡ periods = cc in ap first_net (sym same)
kept_first graph files p known (q ∷ ps) periods e =
    let h = followed (with_hists q.1 files graph) _ periods e in
    kept_first graph files p (known ++ (q.0, h.first) ∷ []) ps periods h.next_is

was_joined : (differs : Option ℕ) (given periods : List (ℕ × Net))
    → unless_differs differs given ≡ Ok periods → given ≡ periods
was_joined None given periods e = cc
was_joined (Some place) given periods e = absurd (cc)

network_is : (graph hists : List ℕ) (files : Files) (raw : RawGraph) (net : Net)
    → graph_named graph files ≡ Ok raw → with_hists hists files raw ≡ Ok net
    → network_of graph hists files ≡ Ok net
network_is graph hists files raw net first second = rw first second

-- the network of the first period
first_valid : Graphs → Texts → Weights → (words : TimedRequest) (files : Files)
    (periods : List (ℕ × Net)) → periods_of words files ≡ Ok periods → IsNet (first_net periods)
first_valid graphs texts weights words files periods e =
    let g = followed (graph_named words.graph files) _ periods e in
    let h = followed (periods_after g.first files [] (all_periods words)) one_scale periods
    g.next_is in
    let k = followed (with_hists words.hists files g.first) _ h.first h.first_is in
    let kept : first_net h.first ≡ k.first =
    kept_first g.first files (0, k.first) [] words.later h.first k.next_is in
    let joined : h.first ≡ periods =
    was_joined (scale_differs h.first) h.first periods h.next_is in
    subst IsNet (sym kept ∙ ap first_net joined)
    (network_valid graphs texts weights words.graph words.hists files k.first
    (network_is words.graph words.hists files g.first k.first g.first_is k.first_is))

pub work_valid : Graphs → Texts → Weights → Makes → (request : Request) → IsSized request
    → (files : Files) (work : Work) → work_of request files ≡ Ok work → IsNet work.net
work_valid graphs texts weights makes (requests.Ask ask) sized files work e =
    let h = followed (network_of ask.graph ask.hists files) _ work e in
    subst IsNet (net_is _ work h.next_is)
    (network_valid graphs texts weights ask.graph ask.hists files h.first h.first_is)
work_valid graphs texts weights makes (requests.Run run) sized files work e =
    named_valid graphs texts weights run files (script_of run.file files)
    (λ script. play Plain (script_lines Plain script)) work e
work_valid graphs texts weights makes (requests.Check check) sized files work e =
    named_valid graphs texts weights check files (any_table_named check.file files) judge_any work e
work_valid graphs texts weights makes (requests.Replay words) sized files work e =
    named_valid graphs texts weights words.names files (table_named words.names.file files)
    (λ table. replay table words.trips) work e
work_valid graphs texts weights makes (requests.Report words) sized files work e =
    let h = followed (network_of words.graph words.hists files) _ work e in
    let k = followed (names_of words.names files h.first) _ work h.next_is in
    let m = followed (script_of words.script files) _ work k.next_is in
    subst IsNet (net_is _ work m.next_is)
    (network_valid graphs texts weights words.graph words.hists files h.first h.first_is)
work_valid graphs texts weights makes (requests.Make make) sized files work e =
    subst IsNet (net_is _ work e) (makes make.seed make.nodes make.arcs make.span sized)
work_valid graphs texts weights makes (requests.Timed words) sized files work e =
    let h = followed (periods_of words files) _ work e in
    subst IsNet (net_is _ work h.next_is)
    (first_valid graphs texts weights words files h.first h.first_is)
