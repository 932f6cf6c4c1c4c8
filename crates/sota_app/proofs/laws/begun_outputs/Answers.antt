use Rattle.sota_app.proofs.Prefixes.{text_begun, stores_begun}
use Rattle.sota_app.proofs.laws.begun_outputs.Goals as goal

pub returns : goal.returns
returns c = record {
  text = λ status outputs old new from to begun. text_begun _ outputs _ _ from to begun;
  stores = λ status outputs old new from to begun. stores_begun _ outputs _ _ from to begun;
}
