use Rattle.sota_kept.proofs.Preparing.{need-least, needs-closed, grown-front}
use Rattle.sota_kept.proofs.Answering.{asked-known}
use Rattle.sota_kept.proofs.kept.needs_are_met.Goals as goal

pub returns : goal.returns
returns c = record {
  above = λ net origin dest last i valid within. need-least net (c.network_laws.ensures net valid) origin dest last within i;
  closed = λ net origin dest last i e arc s valid within at tail opened apart ready. needs-closed net (c.network_laws.ensures net valid) origin dest last within i e arc at tail opened apart s ready;
  front = λ net origin dest last i old new valid within ready is met. grown-front net (c.network_laws.ensures net valid) origin dest last within i old new ready is met;
  asked = λ net origin dest last s valid within off ready met. asked-known net (c.network_laws.ensures net valid) origin dest last within off s ready met;
}
