use Rattle.std.proofs.Common.{◌≡◌, ◌%◌, length, ap, ◌∙◌, ◌≤◌, rules}
use Rattle.std.proofs.lemmas.List.{append-nil}
use Rattle.sota_units.specs.Rounding.{ONE}
use Rattle.sota_units.specs.GrainText.{grain_spelling, fixed}
use Rattle.sota_units.proofs.Digits.{one_first}
use Rattle.sota_units.proofs.spelling.grain_text.Goals as goal

pub slice_bounds-copy_from_slice-count-2 : goal.slice_bounds-copy_from_slice-count-2
slice_bounds-copy_from_slice-count-2 c = (one_first c.grain.inside.value _ (c.as_bytes-digits.ensures.value ∙ c.format.ensures.text)).0

pub slice_bounds-copy_from_slice-start : goal.slice_bounds-copy_from_slice-start
slice_bounds-copy_from_slice-start c =
    let long : 1 ≤ length c.as_bytes-digits.result.now = (one_first c.grain.inside.value _ (c.as_bytes-digits.ensures.value ∙ c.format.ensures.text)).0 in
    search rules

pub copy_from_slice-requires : goal.copy_from_slice-requires
copy_from_slice-requires c = (one_first c.grain.inside.value _ (c.as_bytes-digits.ensures.value ∙ c.format.ensures.text)).1

pub returns : goal.returns
unfolding grain_spelling
returns c =
    let digits : c.copy_from_slice.new.self ≡ fixed 18 (c.grain.inside.value % ONE) =
    c.copy_from_slice.ensures.after ∙ (one_first c.grain.inside.value _ (c.as_bytes-digits.ensures.value ∙ c.format.ensures.text)).2 in
    rw (append-nil, digits) (ap grain_spelling c.grain.view_is)
