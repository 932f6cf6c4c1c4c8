-- The two statements of which histogram texts are accepted are one.
use Rattle.std.proofs.Common.{◌≡◌, ℕ, ◌+◌, ◌<◌, ◌≤◌, ◌==◌, ◌&&◌, ◌||◌, not, Bool, true, false, cond, List, [], ◌∷◌, ◌++◌, length, map, Option, Some, None, Ok, option_and_then, refl, sym, ◌∙◌, ap, subst, arith, append_assoc, ⊎_elim}
use Rattle.std.specs.List.{All, list_any, count_by, cons_option, enumerate_from}
use Rattle.std.proofs.lemmas.Bool.{cases_eq, eq-eqb, ne_eqb, lt-ltb, le-leb}
use Rattle.std.proofs.lemmas.List.Elements.{All-nil, All-cons, All-head, All-tail, filter_map-append}
use Rattle.sota_text.specs.Words.{three}
use Rattle.sota_hist.specs.Time.{IsTime, total}
use Rattle.sota_hist.specs.Laws.{RisingIsTime, RisingSums}
use Rattle.sota_network.specs.Network.{Net, IsArc}
use Rattle.sota_network.specs.declared.network.Arc.{Arc}
use Rattle.sota_dimacs.specs.Graph.{IsGraph}
use Rattle.sota_dimacs.specs.declared.graph.RawArc.{RawArc}
use Rattle.sota_dimacs.specs.declared.graph.RawGraph.{RawGraph}
use Rattle.sota_histcsv.specs.declared.entry.Entry.{Entry}
use Rattle.sota_histcsv.specs.declared.fault.HistFileFault.{HistFileFault}
use Rattle.sota_histcsv.specs.declared.fault.HistFileFault.TheVariants.{Fields, NoArc, ZeroTick}
use Rattle.sota_histcsv.specs.Records.{without_mark, text_records, NumberedRecord, numbered_rows, header_scale, entry_by, row_entry, kept, entries_in, is_arc, record_fault_of, number_fault, own_fault, repeat_fault, record_fault, first_record_fault}
use Rattle.sota_histcsv.specs.Histograms.{Contents, contents, contents_after, arc_pairs, time_by, time_fault, timed_arc, least_fault, numbered_arcs, timed, hist_net}
use Rattle.sota_histcsv.specs.Kept.{is_at}
use Rattle.sota_histcsv.specs.Texts.{Gives, IsHistTextOf}
use Rattle.sota_histcsv.proofs.Keeping.{both_none, first_ok, count-cons, are_contents}
use Rattle.sota_histcsv.proofs.Whole.{whole, text_is, net_read}

-- ---- a record without a fault of its own gives a mass

right : (arc mass tick : Bool) (timeless nowhere : HistFileFault)
    → cond arc (cond (not mass && tick) (Some timeless) None) (Some nowhere) ≡ None
    → (arc ≡ true) × ((not mass && tick) ≡ false)
right true false false timeless nowhere e = (refl, refl)
right true false true timeless nowhere e = cc
right true true tick timeless nowhere e = (refl, refl)
right false mass tick timeless nowhere e = cc

entry_gives : (arcs : ℕ) (row : NumberedRecord) (entry : Entry) → row_entry row ≡ Some entry
    → record_fault_of arcs entry ≡ None → Gives arcs row
entry_gives arcs row entry is none =
    let parts = right (is_arc arcs entry.arc) (entry.mass == 0) (entry.tick == 0) (ZeroTick entry.number) (NoArc entry.number) none in
    let arc : is_arc arcs entry.arc ≡ true = parts.0 in
    let tick : (not (entry.mass == 0) && (entry.tick == 0)) ≡ false = parts.1 in
    record {
      entry = entry;
      numbers = is;
      arc = (grind arith, grind arith);
      tick = λ some. grind arith;
    }

own_gives : (arcs : ℕ) (row : NumberedRecord) → own_fault arcs row ≡ None → Gives arcs row
own_gives arcs row none =
    elim (length row.1 == 3) as (λ b. cond b (number_fault arcs row.0 (row_entry row)) (Some (Fields row.0)) ≡ None → Gives arcs row) [
      | false ↦ λ none. cc
      | true ↦ λ none.
          elim (row_entry row) as (λ o. row_entry row ≡ o → number_fault arcs row.0 o ≡ None → Gives arcs row) [
            | None ↦ λ is none. cc
            | Some entry ↦ λ is none. entry_gives arcs row entry is none
          ] refl none
    ] none

three_long : (number : ℕ) (fields : List (List ℕ)) (entry : Entry)
    → option_and_then (entry_by number) (three fields) ≡ Some entry → length fields ≡ 3
three_long number [] entry is = cc
three_long number (x1 ∷ []) entry is = cc
three_long number (x1 ∷ x2 ∷ []) entry is = cc
three_long number (x1 ∷ x2 ∷ x3 ∷ []) entry is = omega arith
three_long number (x1 ∷ x2 ∷ x3 ∷ x4 ∷ fields) entry is = cc

arc_right : (arcs arc : ℕ) → 1 ≤ arc → arc ≤ arcs → is_arc arcs arc ≡ true
arc_right arcs arc low high = rw (lt-ltb 0 arc low, le-leb arc arcs high) refl

tick_right : (mass tick : ℕ) → (1 ≤ mass → 1 ≤ tick) → (not (mass == 0) && (tick == 0)) ≡ false
tick_right mass tick some =
    ⊎_elim
    (λ (none : mass ≡ 0). rw (eq-eqb mass 0 none) refl)
    (λ (apart : mass ≡ 0 → ⊥).
    let high : 1 ≤ tick = some (omega arith) in
    rw (ne_eqb mass 0 apart, ne_eqb tick 0 (λ e. omega arith)) refl)
    (cases_eq mass 0)

gives_own : (arcs : ℕ) (row : NumberedRecord) → Gives arcs row → own_fault arcs row ≡ None
gives_own arcs row gives =
    rw (
      eq-eqb (length row.1) 3 (three_long row.0 row.1 gives.entry gives.numbers),
      gives.numbers,
      arc_right arcs gives.entry.arc gives.arc.0 gives.arc.1,
      tick_right gives.entry.mass gives.entry.tick gives.tick,
    ) refl

-- ---- records without a fault

all_give : (arcs : ℕ) (before rows : List NumberedRecord) → first_record_fault arcs before rows ≡ None → All (Gives arcs) rows
all_give arcs before [] none = All-nil (Gives arcs)
all_give arcs before (row ∷ rows) none =
    let parts = both_none (record_fault arcs (entries_in before) row) (first_record_fault arcs (before ++ row ∷ []) rows) none in
    let own = both_none (own_fault arcs row) (repeat_fault (entries_in before) (kept (row_entry row))) parts.0 in
    All-cons (Gives arcs) row rows (own_gives arcs row own.0) (all_give arcs (before ++ row ∷ []) rows parts.1)

any_from_count : (arc tick : ℕ) (entries : List Entry) → count_by (is_at arc tick) entries ≡ 0
    → list_any (is_at arc tick) entries ≡ false
any_from_count arc tick [] none = refl
any_from_count arc tick (entry ∷ entries) none =
    elim (is_at arc tick entry) as (λ b. cond b 1 0 + count_by (is_at arc tick) entries ≡ 0 → (b || list_any (is_at arc tick) entries) ≡ false) [
      | true ↦ λ none. absurd (omega arith)
      | false ↦ λ none. any_from_count arc tick entries (omega arith)
    ] (sym (count-cons arc tick entry entries) ∙ none)

count_both : (arc tick : ℕ) (before entries : List Entry)
    → count_by (is_at arc tick) (before ++ entries) ≡ count_by (is_at arc tick) before + count_by (is_at arc tick) entries
count_both arc tick [] entries = omega arith
count_both arc tick (entry ∷ before) entries =
    omega (arith, count-cons arc tick entry before, count-cons arc tick entry (before ++ entries), count_both arc tick before entries)

at_itself : (entry : Entry) → is_at entry.arc entry.tick entry ≡ true
at_itself entry = rw (eq-eqb entry.arc entry.arc refl, eq-eqb entry.tick entry.tick refl) refl

fresh : (before rest : List Entry) (o : Option Entry)
    → ((arc tick : ℕ) → count_by (is_at arc tick) (before ++ cons_option o rest) ≤ 1) → repeat_fault before o ≡ None
fresh before rest None once = refl
fresh before rest (Some entry) once =
    let one : count_by (is_at entry.arc entry.tick) (entry ∷ rest) ≡ 1 + count_by (is_at entry.arc entry.tick) rest =
    count-cons entry.arc entry.tick entry rest ∙ ap (λ b. cond {A = ℕ} b 1 0 + count_by (is_at entry.arc entry.tick) rest) (at_itself entry) in
    let none : count_by (is_at entry.arc entry.tick) before ≡ 0 =
    omega (arith, once entry.arc entry.tick, count_both entry.arc entry.tick before (entry ∷ rest), one) in
    rw (any_from_count entry.arc entry.tick before none) refl

none_first : (arcs : ℕ) (before rows : List NumberedRecord) → All (Gives arcs) rows
    → ((arc tick : ℕ) → count_by (is_at arc tick) (entries_in (before ++ rows)) ≤ 1)
    → first_record_fault arcs before rows ≡ None
none_first arcs before [] each once = refl
none_first arcs before (row ∷ rows) each once =
    let own = gives_own arcs row (All-head (Gives arcs) row rows each) in
    let split : entries_in (before ++ row ∷ rows) ≡ entries_in before ++ cons_option (kept (row_entry row)) (entries_in rows) =
    filter_map-append (λ (row : NumberedRecord). kept (row_entry row)) before (row ∷ rows) in
    let repeat = fresh (entries_in before) (entries_in rows) (kept (row_entry row))
    (λ arc tick. subst (λ entries. count_by (is_at arc tick) entries ≤ 1) split (once arc tick)) in
    let rest = none_first arcs (before ++ row ∷ []) rows (All-tail (Gives arcs) row rows each)
    (λ arc tick. subst (λ rows. count_by (is_at arc tick) (entries_in rows) ≤ 1) (sym (append_assoc before (row ∷ []) rows)) (once arc tick)) in
    rw (own, repeat, rest) refl

-- ---- arcs of a network have no fault

fits : RisingSums → (scale number weight : ℕ) (pairs : List (ℕ × ℕ)) → IsTime (time_by scale weight pairs)
    → total (time_by scale weight pairs) ≤ scale → time_fault scale number weight pairs ≡ None
fits sums scale number weight [] time few =
    let high : 0 < weight = time.0 in
    rw (ne_eqb weight 0 (λ e. omega arith)) refl
fits sums scale number weight (p ∷ ps) time few =
    rw (le-leb (total (p ∷ ps)) scale (omega (arith, sums (λ (q : ℕ × ℕ). q.1) (p ∷ ps), few))) refl

none_least : RisingSums → (net : Net) (known : Contents) (number : ℕ) (raw : List RawArc) → known.scale ≡ net.scale
    → All (IsArc net) (map (timed_arc known) (enumerate_from number raw))
    → least_fault known (enumerate_from number raw) ≡ None
none_least sums net known number [] same arcs = refl
none_least sums net known number (arc ∷ raw) same arcs =
    let more = map (timed_arc known) (enumerate_from (number + 1) raw) in
    let here = All-head (IsArc net) (timed_arc known (number, arc)) more arcs in
    let rest = none_least sums net known (number + 1) raw same (All-tail (IsArc net) (timed_arc known (number, arc)) more arcs) in
    let one = fits sums known.scale number arc.weight (arc_pairs known.entries number) here.time (omega (arith, here.total, same)) in
    rw (one, rest) refl

-- ---- an accepted text

record Split (arcs : ℕ) (all : List (List (List ℕ))) (known : Contents) : Type 0 where
  pub header : List (List ℕ)
  pub rows : List (List (List ℕ))
  pub records : all ≡ header ∷ rows
  pub scale : header_scale header ≡ Some known.scale
  pub entries : entries_in (numbered_rows rows) ≡ known.entries
  pub none : first_record_fault arcs [] (numbered_rows rows) ≡ None

split_at : (arcs : ℕ) (header : List (List ℕ)) (rows : List (List (List ℕ))) (scale : Option ℕ) (known : Contents)
    → header_scale header ≡ scale → contents_after arcs scale (numbered_rows rows) ≡ Ok known
    → Split arcs (header ∷ rows) known
split_at arcs header rows None known is e = cc
split_at arcs header rows (Some scale) known is e =
    let ok = first_ok (first_record_fault arcs [] (numbered_rows rows)) (record { scale = scale; entries = entries_in (numbered_rows rows) }) known e in
    record {
      header = header;
      rows = rows;
      records = refl;
      scale = is ∙ ap (λ (known : Contents). Some known.scale) ok.1;
      entries = ap (λ (known : Contents). known.entries) ok.1;
      none = ok.0;
    }

split : (arcs : ℕ) (all : List (List (List ℕ))) (known : Contents) → contents arcs all ≡ Ok known → Split arcs all known
split arcs [] known e = cc
split arcs (header ∷ rows) known e = split_at arcs header rows (header_scale header) known refl e

pub text_of : RisingIsTime → RisingSums → (bytes : List ℕ) (graph : RawGraph) (net : Net) → IsGraph graph
    → hist_net bytes graph ≡ Ok net → IsHistTextOf bytes graph net
text_of valid sums bytes graph net is e =
    let parts = whole bytes graph net e in
    let known = parts.known in
    let text = split (length graph.arcs) (text_records (without_mark bytes)) known parts.is in
    let are = are_contents (length graph.arcs) (text_records (without_mark bytes)) known parts.is in
    let scale : known.scale ≡ net.scale = ap (λ (net : Net). net.scale) parts.net_is in
    let same : record { scale = known.scale; entries = known.entries } ≡ record { scale = net.scale; entries = entries_in (numbered_rows text.rows) } =
    rw (scale, text.entries) refl in
    let arcs = first_ok (least_fault known (numbered_arcs graph.arcs)) (map (timed_arc known) (numbered_arcs graph.arcs)) parts.arcs parts.times in
    record {
      plain = parts.plain;
      header = text.header;
      rows = text.rows;
      records = text.records;
      scale = text.scale ∙ ap (λ (n : ℕ). Some n) scale;
      each = all_give (length graph.arcs) [] (numbered_rows text.rows) text.none;
      once = λ arc tick. subst (λ entries. count_by (is_at arc tick) entries ≤ 1) (sym text.entries) (are.kept.once arc tick);
      nodes = ap (λ (net : Net). net.nodes) (sym parts.net_is);
      arcs = ap (λ (net : Net). net.arcs) (sym parts.net_is) ∙ sym arcs.1 ∙ ap (λ (known : Contents). map (timed_arc known) (numbered_arcs graph.arcs)) same;
      valid = text_is valid sums bytes graph net is e;
    }

whole_net : (net : Net) (nodes : ℕ) (arcs : List Arc) → net.nodes ≡ nodes → net.arcs ≡ arcs
    → record { nodes = nodes; scale = net.scale; arcs = arcs } ≡ net
whole_net net nodes arcs e f = rw (← e, ← f) refl

pub text_accepted : RisingSums → (bytes : List ℕ) (graph : RawGraph) (net : Net)
    → IsHistTextOf bytes graph net → hist_net bytes graph ≡ Ok net
text_accepted sums bytes graph net text =
    let rows = numbered_rows text.rows in
    let known : Contents = record { scale = net.scale; entries = entries_in rows } in
    let none = none_first (length graph.arcs) [] rows text.each text.once in
    let is : contents (length graph.arcs) (text_records (without_mark bytes)) ≡ Ok known =
    ap (contents (length graph.arcs)) text.records ∙ (rw (text.scale, none) refl) in
    let least = none_least sums net known 1 graph.arcs refl
    (subst (λ arcs. All (IsArc net) arcs) text.arcs text.valid.arcs) in
    let times : timed known graph.arcs ≡ Ok (map (timed_arc known) (numbered_arcs graph.arcs)) = rw least refl in
    net_read bytes (without_mark bytes) graph known (map (timed_arc known) (numbered_arcs graph.arcs)) refl text.plain is times
    ∙ ap (λ (net : Net). Ok net) (whole_net net graph.nodes (map (timed_arc known) (numbered_arcs graph.arcs)) text.nodes text.arcs)
