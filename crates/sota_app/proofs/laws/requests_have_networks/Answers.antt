use Rattle.sota_app.specs.Words.{request_of}
use Rattle.sota_app.proofs.Sized.{all_sized}
use Rattle.sota_app.proofs.EachLine.{keeps_network}
use Rattle.sota_app.proofs.Answered.{means_network}
use Rattle.sota_app.proofs.laws.requests_have_networks.Goals as goal

pub returns : goal.returns
returns c = record {
  valid = λ words files net job is.
      means_network c.texts_mean_graphs.ensures c.texts_mean_networks.ensures.text
      c.texts_mean_networks.ensures.weights c.made_networks.ensures.valid (request_of words)
      (all_sized words) files (record { net = net; job = job }) is;
  lines = λ net lines valid.
      keeps_network c.built_times.ensures.at_most c.edits_keep_networks.ensures lines net valid;
}
