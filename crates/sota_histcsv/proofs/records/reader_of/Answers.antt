use Rattle.std.proofs.Common.{◌∙◌, inr}
use Rattle.sota_histcsv.proofs.Reading.{not_marked, begun}
use Rattle.sota_histcsv.proofs.records.reader_of.Goals as goal

pub returns : goal.returns
returns c =
    let made = c.from_reader.ensures in
    let named = c.has_headers.ensures in
    let flexible = c.flexible.ensures in
    record {
      trim = (rw (flexible, named) at made.trim) ∙ c.new.ensures.trim;
      ready = inr (inr (rw (flexible, named) at made.has_headers, made.headers));
      config = (rw (flexible, named) at made.config) ∙ c.new.ensures.config;
      text = c.args.text.now;
      source = rw (not_marked c.args.text.now c.requires) at made.source;
      records = rw (made.state) (begun c.args.text.now);
    }
