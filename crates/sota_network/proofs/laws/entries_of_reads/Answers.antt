use Rattle.sota_network.proofs.Reading.{lo-reads, hi-reads, choice-reads}
use Rattle.sota_network.proofs.Walking.{reads-open, reads-left}
use Rattle.sota_network.proofs.laws.entries_of_reads.Goals as goal

pub returns : goal.returns
returns c = record {
  lower = λ net dest i t table valid off known. lo-reads net valid dest table i t off known;
  upper = λ net dest i t table valid off known. hi-reads net valid dest table i t off known;
  choice = λ net dest i t table valid off known. choice-reads net valid dest table i t off known;
  left = λ net i t j u reads valid. (reads-open net valid i t j u reads, reads-left net valid i t j u reads);
}
