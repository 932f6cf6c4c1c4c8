use Rattle.std.proofs.Common.{ℕ, ◌≡◌, ◌∙◌, ap, sym, refl, subst, List, Ok, Option, Some, None, is_some, ◌++◌, [], ◌∷◌, arith, Bool, true, false}
use Rattle.std.specs.Prelude.{All, String, string_bytes}
use Rattle.std.specs.Str.{bytes_eq, IsUtf8}
use Rattle.std.specs.Map.{lookup}
use Rattle.std.proofs.lemmas.List.{length-map}
use Rattle.std.specs.declared.alloc.Global.{Global}
use Rattle.sota_report.specs.Names.{Place, node_of}
use Rattle.sota_report.specs.Kept.{places_in, ShowsFirsts}
use Rattle.sota_report.proofs.Entries.{found}
use Rattle.sota_report.proofs.Texts.{all_texts}
use Rattle.sota_report.proofs.Firsts.{kept, alike}
use Rattle.sota_report.proofs.names.Names.add.Goals as goal

-- whether a name is there, by the map
there : (entries : List (String Global × ℕ)) (places : List Place) (name : List ℕ) (b : Bool) → places_in entries ≡ places → b ≡ is_some (lookup (λ key. bytes_eq name (string_bytes key)) entries)
    → is_some (node_of places name) ≡ b
there entries places name b view is = ap (λ places. is_some (node_of places name)) (sym view) ∙ ap is_some (sym (found entries name)) ∙ sym is

missing : (node : Option ℕ) → is_some node ≡ false → node ≡ None
missing None h = refl
missing (Some node) h = absurd (grind (arith, h))

pub returns-then-contains_key : goal.returns-then-contains_key
returns-then-contains_key c =
    rw (there c.self.inside.nodes.entries c.args.self.now c.args.name.now true c.self.view_is (sym c.if-contains_key.true ∙ c.contains_key.ensures)) refl

pub insert-requires : goal.insert-requires
insert-requires c =
    ap (node_of (places_in c.self.inside.nodes.entries)) c.in_ok-text.ensures
    ∙ missing (node_of (places_in c.self.inside.nodes.entries) c.args.name.now)
    (there c.self.inside.nodes.entries (places_in c.self.inside.nodes.entries) c.args.name.now false refl (sym c.if-contains_key.false ∙ c.contains_key.ensures))

pub invariant_of-self-2 : goal.invariant_of-self-2
invariant_of-self-2 c =
    let more = c.in_ok-insert.ensures.ok in
    let last = c.len-index.ensures.len ∙ sym (length-map c.self.inside.nodes.entries (λ (entry : String Global × ℕ). (string_bytes entry.0, entry.1))) in
    record {
      texts = all_texts (places_in c.self.inside.nodes.entries) (string_bytes c.in_ok-text.text, c.args.node) c.self.invariant.texts (subst IsUtf8 (sym c.in_ok-text.ensures) c.utf8.name) more;
      firsts_shown = kept (places_in c.self.inside.nodes.entries) (places_in c.insert.new.nodes.entries) (string_bytes c.in_ok-text.text, c.args.node)
          c.self.inside.firsts.items c.make_room.new.firsts.items c.keep_first.new.firsts.items c.len-index.result
          c.self.invariant.firsts_shown c.in_ok-make_room.ensures.same c.in_ok-make_room.ensures.room more last c.keep_first.ensures;
    }

pub invariant_of-self-in_err-insert : goal.invariant_of-self-in_err-insert
invariant_of-self-in_err-insert c =
    let same = sym c.in_err-insert.ensures.err in
    record {
      texts = subst (λ places. All (λ (place : Place). IsUtf8 place.0) places) same c.self.invariant.texts;
      firsts_shown = subst (λ places. ShowsFirsts places c.make_room.new.firsts.items) same
          (alike (places_in c.self.inside.nodes.entries) c.self.inside.firsts.items c.make_room.new.firsts.items c.self.invariant.firsts_shown c.in_ok-make_room.ensures.same);
    }

pub returns : goal.returns
returns c =
    let none = there c.self.inside.nodes.entries c.args.self.now c.args.name.now false c.self.view_is (sym c.if-contains_key.false ∙ c.contains_key.ensures) in
    rw none (ap Ok (ap (λ places. places ++ (c.args.name.now, c.args.node) ∷ []) (sym c.self.view_is)
    ∙ ap (λ name. places_in c.self.inside.nodes.entries ++ (name, c.args.node) ∷ []) (sym c.in_ok-text.ensures) ∙ sym c.in_ok-insert.ensures.ok))
