use Rattle.std.proofs.Common.{true, false}
use Rattle.sota_kept.proofs.Standing.{kept-emptied_table, kept-cut, cut-same, least-edited}
use Rattle.sota_kept.proofs.Preparing.{ready-prepared}
use Rattle.sota_kept.proofs.kept.node_tables_stay_right.Goals as goal

pub returns : goal.returns
returns c = record {
  empty = λ net dest i s limit. kept-emptied_table net dest i s limit;
  prepared = λ net dest i over s valid is. ready-prepared net (c.network_laws.ensures net valid) dest i false over s is;
  begun = λ net dest i over s valid limit. ready-prepared net (c.network_laws.ensures net valid) dest i true over s limit;
  cut = λ net dest i front s is. cut-same net dest i front s is;
  edited = λ net dest number first i front arc time s edit within is. kept-cut c.network_laws.ensures net dest number arc first time edit i front s within is;
  least = λ net dest number first i arc time edit. least-edited c.network_laws.ensures net dest number arc first time edit i;
}
