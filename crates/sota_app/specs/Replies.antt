-- Replies and their lines: words and numbers with one space between, ended by LF.
use Rattle.std.specs.Prelude.{ℕ, List, [], ◌++◌, Bool, true, false, map, flat_map}
use Rattle.std.specs.Prelude.{Option, Some, None, if◌then◌else◌, codes, decimal}
use Rattle.std.specs.List.{list_any}
use Rattle.sota_units.specs.GrainText.{grain_spelling}
use Rattle.sota_hist.specs.Build as times
use Rattle.sota_hist.specs.Words as time_words
use Rattle.sota_script.specs.Words as lines
use Rattle.sota_session.specs.declared.ask.Ask.{Ask}
use Rattle.sota_session.specs.declared.ask.Answer.{Answer}
use Rattle.sota_bounds.specs.AskFaults as asks
use Rattle.sota_session.specs.Words.{edit_word}
use Rattle.sota_session.specs.declared.edit.EditFault.TheVariants as edits
use Rattle.sota_route.specs.Faults as routes
use Rattle.sota_report.specs.Objects.{reply_text}
use Rattle.sota_report.specs.Words as names
use Rattle.sota_report.specs.declared.reply.Reply as reports
use Rattle.sota_report.specs.declared.reply.Reply.TheVariants as fields
use Rattle.sota_app.specs.Outputs.{Output}
use Rattle.sota_app.specs.declared.reply.Allowance.{Allowance}
use Rattle.sota_app.specs.declared.reply.NamedFile.{NamedFile}
use Rattle.sota_app.specs.declared.reply.RouteReply.{RouteReply}
use Rattle.sota_app.specs.declared.reply.Reply.{Reply}
use Rattle.sota_app.specs.declared.reply.Reply.TheVariants as replies
use Rattle.sota_app.specs.declared.reply.Refusal.{Refusal}
use Rattle.sota_app.specs.declared.reply.Refusal.TheVariants as refusals
use Rattle.sota_app.specs.declared.voice.Voice.{Voice}
use Rattle.sota_app.specs.declared.voice.Voice.TheVariants as voices
use Rattle.sota_app.specs.declared.status.Status.{Status}
use Rattle.sota_app.specs.declared.status.Status.TheVariants.{Done, SomeRefused}

-- ---- refusals of lines

-- want of memory says nothing of a line, so that no line is refused for it
abbrev pub is_shortage : Refusal → Bool
is_shortage (refusals.Line fault) = lines.is_shortage fault
is_shortage (refusals.Time fault) = times.is_shortage fault
is_shortage (refusals.Edit edits.NoMemory) = true
is_shortage (refusals.Edit fault) = false
is_shortage (refusals.Ask fault) = asks.is_shortage fault
is_shortage (refusals.Route fault) = routes.is_shortage fault
is_shortage (refusals.Name fault) = names.is_unresolved_shortage fault

abbrev pub refusal_word : Refusal → List ℕ
refusal_word (refusals.Line fault) = lines.fault_word fault
refusal_word (refusals.Time fault) = time_words.fault_word fault
refusal_word (refusals.Edit fault) = edit_word fault
refusal_word (refusals.Ask fault) = asks.ask_word fault
refusal_word (refusals.Route fault) = routes.route_word fault
refusal_word (refusals.Name fault) = names.unresolved_word fault

-- the count that exceeds a limit of size, or the place in a route
abbrev pub refusal_count : Refusal → Option ℕ
refusal_count (refusals.Ask fault) = asks.ask_count fault
refusal_count (refusals.Route fault) = routes.route_number fault
refusal_count _ = None

-- ---- one reply

-- a number, or a dash where there is none
abbrev pub number_text : Option ℕ → List ℕ
number_text None = codes "-"
number_text (Some number) = decimal number

-- 'answer O D T LOWER UPPER ARC'
abbrev pub answer_line : Ask → Answer → List ℕ
answer_line ask answer =
    codes "answer " ++ decimal ask.origin ++ codes " " ++ decimal ask.dest ++ codes " "
    ++ decimal ask.budget ++ codes " " ++ grain_spelling answer.lower ++ codes " "
    ++ grain_spelling answer.upper ++ codes " " ++ number_text answer.next ++ codes "\n"

-- 'edited ARC' and 'closed ARC'
abbrev pub edited_line : ℕ → List ℕ
edited_line arc = codes "edited " ++ decimal arc ++ codes "\n"

abbrev pub closed_line : ℕ → List ℕ
closed_line arc = codes "closed " ++ decimal arc ++ codes "\n"

-- 'stored NAME', the name as it stands
abbrev pub stored_line : List ℕ → List ℕ
stored_line name = codes "stored " ++ name ++ codes "\n"

-- 'route D T LOWER UPPER K'
abbrev pub route_line : RouteReply → List ℕ
route_line route =
    codes "route " ++ decimal route.dest ++ codes " " ++ decimal route.budget ++ codes " "
    ++ grain_spelling route.answer.lower ++ codes " " ++ grain_spelling route.answer.upper
    ++ codes " " ++ decimal route.arcs ++ codes "\n"

-- 'need O D CONF TMAX EARLY SURE'
abbrev pub allowance_line : Allowance → List ℕ
allowance_line allowance =
    codes "need " ++ decimal allowance.ask.origin ++ codes " " ++ decimal allowance.ask.dest
    ++ codes " " ++ grain_spelling allowance.confidence ++ codes " "
    ++ decimal allowance.ask.budget ++ codes " " ++ number_text allowance.need.early ++ codes " "
    ++ number_text allowance.need.sure ++ codes "\n"

abbrev pub count_text : Option ℕ → List ℕ
count_text None = []
count_text (Some count) = codes " " ++ decimal count

-- 'refused LINE CAUSE', with the count of a cause that has one
abbrev pub refused_line : ℕ → Refusal → List ℕ
refused_line line refusal =
    codes "refused " ++ decimal line ++ codes " " ++ refusal_word refusal
    ++ count_text (refusal_count refusal) ++ codes "\n"

abbrev pub reply_line : Reply → List ℕ
reply_line (replies.Answered ask answer) = answer_line ask answer
reply_line (replies.Edited arc) = edited_line arc
reply_line (replies.Closed arc) = closed_line arc
reply_line (replies.Stored file) = stored_line file.name
reply_line (replies.Routed route) = route_line route
reply_line (replies.Allowed allowance) = allowance_line allowance
reply_line (replies.Refused line refusal) = refused_line line refusal

-- the file that is stored before it
abbrev pub reply_file : Reply → Option NamedFile
reply_file (replies.Stored file) = Some file
reply_file _ = None

-- a reply as its numbers and texts
abbrev pub report_of : Reply → reports.Reply
report_of (replies.Answered ask answer) = fields.Answer ask.origin ask.dest ask.budget
    answer.lower answer.upper answer.next
report_of (replies.Edited arc) = fields.Edited arc
report_of (replies.Closed arc) = fields.Closed arc
report_of (replies.Stored file) = fields.Stored file.name
report_of (replies.Routed route) = fields.Route route.dest route.budget route.answer.lower
    route.answer.upper route.arcs
report_of (replies.Allowed allowance) = fields.Need allowance.ask.origin allowance.ask.dest
    allowance.confidence allowance.ask.budget allowance.need.early allowance.need.sure
report_of (replies.Refused line refusal) =
    fields.Refused line (refusal_word refusal) (refusal_count refusal)

-- the line of a reply, as it is spelled in a voice: as it stands, or as a JSON object that has the
-- first names of its nodes beside them
abbrev pub spell : Voice → Reply → List ℕ
spell voices.Plain reply = reply_line reply
spell (voices.Json places) reply = reply_text places (report_of reply) ++ codes "\n"

abbrev pub reply_output : Voice → Reply → Output
reply_output voice reply = record { file = reply_file reply; line = spell voice reply }

-- a reply that begins with 'refused'
abbrev pub is_refusal : Reply → Bool
is_refusal (replies.Refused line refusal) = true
is_refusal _ = false

-- ---- several replies

-- their lines one after the other
abbrev pub replies_text : Voice → List Reply → List ℕ
replies_text voice replies = flat_map (spell voice) replies

abbrev pub outputs_of : Voice → List Reply → List Output
outputs_of voice replies = map (reply_output voice) replies

abbrev pub some_refused : List Reply → Bool
some_refused replies = list_any is_refusal replies

-- the status of lines, by whether one is refused
abbrev pub lines_status : Bool → Status
lines_status refused = if refused then SomeRefused else Done

abbrev pub replies_status : List Reply → Status
replies_status replies = lines_status (some_refused replies)
