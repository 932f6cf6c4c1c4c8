use Rattle.std.proofs.Common.{◌≡◌, List, Some, None, true, refl}
use Rattle.sota_report.specs.Laws.{keys_rise}
use Rattle.sota_report.specs.Names.{Place}
use Rattle.sota_report.specs.Objects.{reply_members}
use Rattle.sota_report.specs.declared.reply.Reply.{Reply}
use Rattle.sota_report.specs.declared.reply.Reply.TheVariants as replies
use Rattle.sota_report.proofs.laws.keys_of_objects_rise.Goals as goal

rise : (places : List Place) (reply : Reply) → keys_rise (reply_members places reply) ≡ true
rise places (replies.Answer origin dest budget lower upper arc) = refl
rise places (replies.Edited arc) = refl
rise places (replies.Closed arc) = refl
rise places (replies.Stored name) = refl
rise places (replies.Need origin dest confidence most early sure) = refl
rise places (replies.Route dest budget lower upper arcs) = refl
rise places (replies.Refused line cause None) = refl
rise places (replies.Refused line cause (Some count)) = refl

pub returns : goal.returns
returns c = rise
