use Rattle.sota_tables.proofs.Keeping.{kept-new, kept-start, kept-cut, ready-rebase}
use Rattle.sota_tables.proofs.laws.tables_stay_kept.Goals as goal

pub returns : goal.returns
returns c = record {
  new = λ v net none long fronts. kept-new v net none long fronts;
  start = λ old new net dest is to long each nodes node. kept-start c.node_tables_stay_right.ensures.empty old new net dest is to long each nodes node;
  cut = λ old new net node front only made is. kept-cut c.node_tables_stay_right.ensures.cut old new net node front only made is;
  rebase = λ old new bases net dest valid is to each least. ready-rebase c.node_tables_stay_right.ensures.prepared old new bases net dest valid is to each least;
}
