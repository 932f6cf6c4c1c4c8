-- One line more of a script.
use Rattle.std.proofs.Common.{◌≡◌, ◌++◌, List, [], ◌∷◌, Bool, false, ◌||◌, Option, Result}
use Rattle.std.proofs.Common.{option_to_list, refl, sym, ◌∙◌, ap, subst, arith}
use Rattle.std.proofs.Common.{append_assoc, append-nil}
use Rattle.std.proofs.lemmas.List.{map-append}
use Rattle.std.proofs.lemmas.List.Folds.{list_any-append}
use Rattle.std.proofs.lemmas.List.Sums.{fold-append}
use Rattle.std.proofs.lemmas.List.Concat.{flat_map-append}
use Rattle.sota_edge.specs.Desk.{DeskState}
use Rattle.sota_edge.specs.Sink.{SinkState}
use Rattle.sota_network.specs.Network.{Net}
use Rattle.sota_app.specs.Outputs.{Output, Ends, Stopped}
use Rattle.sota_app.specs.Replies.{spell, reply_output, is_refusal, replies_text, outputs_of}
use Rattle.sota_app.specs.Replies.{some_refused, lines_status, replies_status}
use Rattle.sota_app.specs.Script.{ScriptLine, Step, step, network_after, replies_to}
use Rattle.sota_app.specs.declared.voice.Voice.{Voice}
use Rattle.sota_app.specs.declared.reply.Reply.{Reply}
use Rattle.sota_app.specs.declared.stop.Stop.{Stop}
use Rattle.sota_app.proofs.Made.{done, stopped_by, none_made, ends_then, stopped_more}

-- ---- lines after others

pub network_append : (net : Net) (a b : List ScriptLine)
    → network_after net (a ++ b) ≡ network_after (network_after net a) b
network_append net a b =
    fold-append (λ (net : Net) (line : ScriptLine). (step net line).next) net a b

pub replies_append : (net : Net) (a b : List ScriptLine)
    → replies_to net (a ++ b) ≡ replies_to net a ++ replies_to (network_after net a) b
replies_append net [] b = refl
replies_append net (line ∷ a) b =
    ap (λ rest. option_to_list (step net line).reply ++ rest)
    (replies_append (step net line).next a b)
    ∙ sym (append_assoc (option_to_list (step net line).reply) (replies_to (step net line).next a)
    (replies_to (network_after (step net line).next a) b))

pub text_append : (voice : Voice) (a b : List Reply)
    → replies_text voice (a ++ b) ≡ replies_text voice a ++ replies_text voice b
text_append voice a b = flat_map-append (spell voice) a b

refused_append : (a b : List Reply) → some_refused (a ++ b) ≡ (some_refused a || some_refused b)
refused_append a b = list_any-append is_refusal a b

outputs_append : (voice : Voice) (a b : List Reply)
    → outputs_of voice (a ++ b) ≡ outputs_of voice a ++ outputs_of voice b
outputs_append voice a b = map-append (reply_output voice) a b

-- the text of the replies, around those to one line
pub around : (voice : Voice) (before : List ScriptLine) (line : ScriptLine)
    (after : List ScriptLine) (net now : Net)
    → now ≡ network_after net before
    → replies_text voice (replies_to net (before ++ line ∷ after))
    ≡ replies_text voice (replies_to net before)
    ++ (replies_text voice (option_to_list (step now line).reply)
    ++ replies_text voice (replies_to (step now line).next after))
around voice before line after net now is =
    ap (replies_text voice) (replies_append net before (line ∷ after)
    ∙ ap (λ (net' : Net). replies_to net before ++ replies_to net' (line ∷ after)) (sym is))
    ∙ text_append voice (replies_to net before)
    (option_to_list (step now line).reply ++ replies_to (step now line).next after)
    ∙ ap (λ bytes. replies_text voice (replies_to net before) ++ bytes)
    (text_append voice (option_to_list (step now line).reply) (replies_to (step now line).next after))

-- ---- a script that is played so far

-- the outputs of the replies to lines
abbrev pub outputs_to : Voice → Net → List ScriptLine → List Output
outputs_to voice net lines = outputs_of voice (replies_to net lines)

-- these lines are played
pub record Reached (voice : Voice) (before : List ScriptLine) (net now : Net) (refused : Bool)
    (d e : DeskState) (s t : SinkState) : Type 0 where
  pub network : now ≡ network_after net before
  pub some : refused ≡ some_refused (replies_to net before)
  pub made : Ends (done refused) (outputs_to voice net before) d e s t

pub reach_none : (voice : Voice) (net : Net) (d : DeskState) (s : SinkState)
    → Reached voice [] net net false d d s s
reach_none voice net d s = record {
  network = refl;
  some = refl;
  made = (none_made d.holds d.holds s s refl refl, omega arith, omega arith);
}

-- what a call left as it was, is where it was reached
pub still_reached : (voice : Voice) (before : List ScriptLine) (net now : Net) (refused : Bool)
    (d m n : DeskState) (s u v : SinkState) → n ≡ m → v ≡ u
    → Reached voice before net now refused d m s u → Reached voice before net now refused d n s v
still_reached voice before net now refused d m n s u v desk sink reached = rw desk (rw sink reached)

-- the replies to one line more
one_more : (before : List ScriptLine) (line : ScriptLine) (net now : Net)
    → now ≡ network_after net before
    → replies_to net (before ++ line ∷ [])
    ≡ replies_to net before ++ option_to_list (step now line).reply
one_more before line net now is =
    replies_append net before (line ∷ [])
    ∙ ap (λ (net' : Net). replies_to net before ++ replies_to net' (line ∷ [])) (sym is)
    ∙ ap (λ replies. replies_to net before ++ replies)
    (append-nil (option_to_list (step now line).reply))

-- how the making of the output of a line ended, from where its lines above ended
line_made : {A : Type 0} (voice : Voice) (result : Result A Stop) (before : List ScriptLine)
    (line : ScriptLine)
    (net now next : Net) (refused : Bool) (reply : Option Reply)
    (d m e : DeskState) (s u t : SinkState) → Reached voice before net now refused d m s u
    → record { reply = reply; next = next } ≡ step now line
    → Ends result (outputs_of voice (option_to_list reply)) m e u t
    → Ends result (outputs_to voice net (before ++ line ∷ [])) d e s t
line_made voice result before line net now next refused reply d m e s u t reached stepped ends =
    let both = ends_then refused result (outputs_to voice net before)
    (outputs_of voice (option_to_list reply)) d m e s u t reached.made ends in
    subst (λ (outputs : List Output). Ends result outputs d e s t)
    (sym (outputs_append voice (replies_to net before) (option_to_list reply))
    ∙ ap (λ (step : Step). outputs_of voice (replies_to net before ++ option_to_list step.reply)) stepped
    ∙ ap (outputs_of voice) (sym (one_more before line net now reached.network)))
    both

-- what was replied to a line, and the network after it
pub reach_more : (voice : Voice) (before : List ScriptLine) (line : ScriptLine) (net now next : Net)
    (refused more : Bool) (reply : Option Reply) (d m e : DeskState) (s u t : SinkState)
    → Reached voice before net now refused d m s u
    → record { reply = reply; next = next } ≡ step now line
    → Ends (done more) (outputs_of voice (option_to_list reply)) m e u t
    → more ≡ some_refused (option_to_list reply)
    → Reached voice (before ++ line ∷ []) net next (refused || more) d e s t
reach_more voice before line net now next refused more reply d m e s u t reached stepped ends is =
    let same : option_to_list reply ≡ option_to_list (step now line).reply =
    ap (λ (s : Step). option_to_list s.reply) stepped in
    record {
      network = ap (λ (s : Step). s.next) stepped
          ∙ ap (λ (net : Net). (step net line).next) reached.network
          ∙ sym (network_append net before (line ∷ []));
      some = ap (λ b. b || more) reached.some
          ∙ ap (λ b. some_refused (replies_to net before) || b) (is ∙ ap some_refused same)
          ∙ sym (refused_append (replies_to net before) (option_to_list (step now line).reply))
          ∙ ap some_refused (sym (one_more before line net now reached.network));
      made = line_made voice (done more) before line net now next refused reply
          d m e s u t reached stepped ends;
    }

-- all lines are played
pub reach_all : (voice : Voice) (all before : List ScriptLine) (net now : Net) (refused : Bool)
    (d e : DeskState) (s t : SinkState) → all ≡ before ++ []
    → Reached voice before net now refused d e s t
    → Ends (done (lines_status refused)) (outputs_to voice net all) d e s t
reach_all voice all before net now refused d e s t is reached =
    subst (λ (lines : List ScriptLine).
    Ends (done (lines_status refused)) (outputs_to voice net lines) d e s t)
    (sym (is ∙ append-nil before)) reached.made

pub all_status : (voice : Voice) (all before : List ScriptLine) (net now : Net) (refused : Bool)
    (d e : DeskState) (s t : SinkState) → all ≡ before ++ []
    → Reached voice before net now refused d e s t
    → lines_status refused ≡ replies_status (replies_to net all)
all_status voice all before net now refused d e s t is reached =
    ap lines_status reached.some
    ∙ ap (λ (lines : List ScriptLine). replies_status (replies_to net lines))
    (sym (is ∙ append-nil before))

-- it stopped among the lines up to this one, so among all
stops_among : (voice : Voice) (stop : Stop) (before : List ScriptLine) (line : ScriptLine)
    (after : List ScriptLine) (net : Net) (d e : DeskState) (s t : SinkState)
    → Stopped stop (outputs_to voice net (before ++ line ∷ [])) d e s t
    → Stopped stop (outputs_to voice net (before ++ line ∷ after)) d e s t
stops_among voice stop before line after net d e s t stopped =
    let lines : (before ++ line ∷ []) ++ after ≡ before ++ line ∷ after =
    append_assoc before (line ∷ []) after in
    subst (λ (outputs : List Output). Stopped stop outputs d e s t)
    (sym (outputs_append voice (replies_to net (before ++ line ∷ []))
    (replies_to (network_after net (before ++ line ∷ [])) after))
    ∙ ap (outputs_of voice) (sym (replies_append net (before ++ line ∷ []) after))
    ∙ ap (outputs_to voice net) lines)
    (stopped_more stop (outputs_to voice net (before ++ line ∷ []))
    (outputs_of voice (replies_to (network_after net (before ++ line ∷ [])) after)) d e s t stopped)

-- the making of the output of a line stopped
pub stops_at : (voice : Voice) (stop : Stop) (lines before : List ScriptLine) (line : ScriptLine)
    (after : List ScriptLine) (net now next : Net) (refused : Bool) (reply : Option Reply)
    (d m e : DeskState) (s u t : SinkState) → lines ≡ before ++ line ∷ after
    → Reached voice before net now refused d m s u
    → record { reply = reply; next = next } ≡ step now line
    → Stopped stop (outputs_of voice (option_to_list reply)) m e u t
    → Stopped stop (outputs_to voice net lines) d e s t
stops_at voice stop lines before line after net now next refused reply d m e s u t are reached stepped
    stopped =
    subst (λ (lines : List ScriptLine). Stopped stop (outputs_to voice net lines) d e s t) (sym are)
    (stops_among voice stop before line after net d e s t
    (line_made voice (stopped_by Bool stop) before line net now next refused reply
    d m e s u t reached stepped stopped))

-- it stopped before anything was made of a line
pub stops_before : (voice : Voice) (stop : Stop) (before rest : List ScriptLine)
    (net now : Net) (refused : Bool)
    (d m e : DeskState) (s u t : SinkState) → Reached voice before net now refused d m s u
    → Stopped stop [] m e u t
    → Stopped stop (outputs_to voice net (before ++ rest)) d e s t
stops_before voice stop before rest net now refused d m e s u t reached stopped =
    subst (λ (outputs : List Output). Stopped stop outputs d e s t)
    (sym (outputs_append voice (replies_to net before) (replies_to (network_after net before) rest))
    ∙ ap (outputs_of voice) (sym (replies_append net before rest)))
    (stopped_more stop (outputs_to voice net before)
    (outputs_of voice (replies_to (network_after net before) rest)) d e s t
    (subst (λ (outputs : List Output). Stopped stop outputs d e s t)
    (append-nil (outputs_to voice net before))
    (ends_then refused (stopped_by Bool stop) (outputs_to voice net before) [] d m e s u t
    reached.made stopped)))
