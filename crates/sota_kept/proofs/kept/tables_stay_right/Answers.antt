use Rattle.sota_kept.proofs.Holding.{kept-edited, state-edited, ready-tables, state-prepared, cells-held, kept-ready, settled-ready}
use Rattle.sota_kept.proofs.kept.tables_stay_right.Goals as goal

pub returns : goal.returns
returns c = record {
  edited = λ net number first dest arc time old new edit is at at' long cut. kept-edited c.network_laws.ensures net number arc first time edit old new dest is at at' long cut;
  edited_state = λ net first dest arc old new at at' bases long each. state-edited c.lists_by_number.ensures net arc first old new dest at at' bases long each;
  prepared = λ net origin dest last old new valid is held made. ready-tables net (c.network_laws.ensures net valid) origin dest last old new is held made;
  prepared_state = λ net origin dest last old new held made. state-prepared c.lists_by_number.ensures net origin dest last old new held made;
  cells = λ net origin dest last old mid held each. cells-held c.lists_by_number.ensures net origin dest last old mid held each;
  kept = λ net dest held node at is ready. kept-ready net held dest node at is ready;
  settled = λ net dest held node at is ready. settled-ready net held dest node at is ready;
}
