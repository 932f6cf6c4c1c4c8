-- The words of causes are UTF-8.
use Rattle.std.proofs.Common.{◌≡◌, true, refl}
use Rattle.std.specs.Str.{is_utf8, chars}
use Rattle.sota_hist.specs.declared.fault.HistFault.TheVariants as times
use Rattle.sota_script.specs.declared.fault.LineFault.TheVariants as lines
use Rattle.sota_bounds.specs.declared.fault.AskFault.TheVariants as asks
use Rattle.sota_session.specs.declared.edit.EditFault.TheVariants as edits
use Rattle.sota_route.specs.declared.fault.RouteFault.TheVariants as routes
use Rattle.sota_report.specs.declared.fault.ResolveFault.TheVariants as names
use Rattle.sota_app.specs.Replies.{refusal_word}
use Rattle.sota_app.specs.declared.reply.Refusal.{Refusal}
use Rattle.sota_app.specs.declared.reply.Refusal.TheVariants as refusals

abbrev pub IsText : Refusal → Type 0
IsText refusal = is_utf8 (refusal_word refusal) ≡ true

pub word_text : (refusal : Refusal) → IsText refusal
unfolding is_utf8 chars lib.Utf8.encode
word_text (refusals.Line lines.Word) = refl
word_text (refusals.Line lines.Count) = refl
word_text (refusals.Line lines.Number) = refl
word_text (refusals.Line lines.Name) = refl
word_text (refusals.Line lines.NoMemory) = refl
word_text (refusals.Time (times.ZeroTick place)) = refl
word_text (refusals.Time (times.RepeatedTick tick)) = refl
word_text (refusals.Time (times.Sum total)) = refl
word_text (refusals.Time times.NoMemory) = refl
word_text (refusals.Edit edits.NoArc) = refl
word_text (refusals.Edit edits.NoMemory) = refl
word_text (refusals.Ask asks.NoOrigin) = refl
word_text (refusals.Ask asks.NoDest) = refl
word_text (refusals.Ask asks.Budget) = refl
word_text (refusals.Ask (asks.TableCells count)) = refl
word_text (refusals.Ask (asks.BroadCells count)) = refl
word_text (refusals.Ask asks.NoMemory) = refl
word_text (refusals.Route routes.NoDest) = refl
word_text (refusals.Route routes.Budget) = refl
word_text (refusals.Route (routes.RouteArcs count)) = refl
word_text (refusals.Route (routes.NoLeg place)) = refl
word_text (refusals.Route (routes.Broken place)) = refl
word_text (refusals.Route routes.NotThere) = refl
word_text (refusals.Route routes.NoMemory) = refl
word_text (refusals.Name names.Place) = refl
word_text (refusals.Name names.NoMemory) = refl
