use Rattle.sota_tables.proofs.Viewing.{table_of-held, view-held}
use Rattle.sota_tables.proofs.laws.views_are_lists.Goals as goal

pub returns : goal.returns
returns c = record { table = λ v i. table_of-held v i; tables = λ v is. view-held v is }
