use Rattle.sota_kept.proofs.Filling.{extent-known, entry-right, ready-push, ready-filled_tables, filled_tables-end, filled_tables-other}
use Rattle.sota_kept.proofs.kept.extents_fill.Goals as goal

pub returns : goal.returns
returns c = record {
  known = λ net dest i to t j u tables valid extent early reads. extent-known net (c.network_laws.ensures net valid) dest i tables to t extent early j u reads;
  entry = λ net dest i t tables valid off ready known. entry-right net (c.network_laws.ensures net valid) dest tables ready i t off known;
  push = λ net dest i tables valid off ready room known. ready-push net (c.network_laws.ensures net valid) dest i off tables ready room known;
  fill = λ net dest i to count tables valid off ready limit extent room. ready-filled_tables net (c.network_laws.ensures net valid) dest i off tables ready to limit extent count room;
  end = λ net dest i count tables. filled_tables-end net dest i tables count;
  others = λ net dest i count j tables apart. filled_tables-other net dest i tables count j apart;
}
