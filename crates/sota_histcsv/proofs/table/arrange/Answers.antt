use Rattle.std.proofs.Common.{◌≡◌, [], List, None, Ok, length, sym, ◌∙◌, ap, subst, refl}
use Rattle.std.specs.Option.{option_map}
use Rattle.std.proofs.lemmas.List.Sorted.{length_permutation}
use Rattle.sota_histcsv.specs.declared.entry.Entry.{Entry}
use Rattle.sota_histcsv.specs.declared.fault.HistFileFault.TheVariants.{RepeatedTick}
use Rattle.sota_histcsv.specs.Words.{is_shortage}
use Rattle.sota_histcsv.specs.Histograms.{Contents, fault_first}
use Rattle.sota_histcsv.specs.Kept.{contents_in, Tabulates}
use Rattle.sota_histcsv.specs.Repeats.{first_repeat, IsLeastRepeat}
use Rattle.sota_histcsv.proofs.Repeating.{repeat_is}
use Rattle.sota_histcsv.proofs.Places.{places_rise}
use Rattle.sota_histcsv.proofs.Keeping.{always}
use Rattle.sota_histcsv.proofs.table.arrange.Goals as goal

pub returns-in-Some-clause-holds : goal.returns-in-Some-clause-holds
returns-in-Some-clause-holds c =
    let entries = c.sort_by_place.new.entries.items in
    let least : IsLeastRepeat entries (length entries) c.least_repeat.result =
    subst (λ (all : List Entry). IsLeastRepeat all (length all) c.least_repeat.result) c.deref.ensures.value c.least_repeat.ensures in
    let repeat = repeat_is c.args.table.entries.items entries c.least_repeat.result c.requires c.sort_by_place.ensures least in
    ap (λ fault. fault_first fault (fault_first {T = Contents} c.args.fault (Ok (contents_in c.args.table))))
    (sym repeat ∙ ap (option_map RepeatedTick) c.in-Some.is)

pub returns-in-Some-fault-clause-holds : goal.returns-in-Some-fault-clause-holds
returns-in-Some-fault-clause-holds c =
    let entries = c.sort_by_place.new.entries.items in
    let least : IsLeastRepeat entries (length entries) c.least_repeat.result =
    subst (λ (all : List Entry). IsLeastRepeat all (length all) c.least_repeat.result) c.deref.ensures.value c.least_repeat.ensures in
    let repeat = repeat_is c.args.table.entries.items entries c.least_repeat.result c.requires c.sort_by_place.ensures least in
    always (is_shortage c.in-Some-fault.fault)
    (ap (λ fault. fault_first fault (fault_first {T = Contents} c.args.fault (Ok (contents_in c.args.table))))
    (sym repeat ∙ ap (option_map RepeatedTick) c.in_default.is)
    ∙ ap (λ fault. fault_first {T = Contents} fault (Ok (contents_in c.args.table))) c.in-Some-fault.is)

pub returns-in-None-clause-holds : goal.returns-in-None-clause-holds
returns-in-None-clause-holds c =
    let entries = c.sort_by_place.new.entries.items in
    let least : IsLeastRepeat entries (length entries) c.least_repeat.result =
    subst (λ (all : List Entry). IsLeastRepeat all (length all) c.least_repeat.result) c.deref.ensures.value c.least_repeat.ensures in
    let repeat = repeat_is c.args.table.entries.items entries c.least_repeat.result c.requires c.sort_by_place.ensures least in
    let first : None ≡ first_repeat [] c.args.table.entries.items = sym (ap (option_map RepeatedTick) c.in_default.is) ∙ repeat in
    let answer : Ok (contents_in c.args.table) ≡ fault_first (first_repeat [] c.args.table.entries.items) (fault_first {T = Contents} c.args.fault (Ok (contents_in c.args.table))) =
    ap (λ fault. fault_first {T = Contents} fault (Ok (contents_in c.args.table))) (sym c.in-None.is)
    ∙ ap (λ fault. fault_first fault (fault_first {T = Contents} c.args.fault (Ok (contents_in c.args.table)))) first in
    subst (Tabulates (Ok (record { scale = c.args.table.scale; entries = c.sort_by_place.new.entries }))) answer
    (record {
      scale = refl;
      moved = c.sort_by_place.ensures.moved;
      rise = places_rise c.args.table.entries.items entries c.sort_by_place.ensures
          (subst (IsLeastRepeat entries (length entries)) c.in_default.is least);
    })

pub returns-in-None-clause-few : goal.returns-in-None-clause-few
returns-in-None-clause-few c =
    length_permutation c.args.table.entries.items c.sort_by_place.new.entries.items c.sort_by_place.ensures.moved
