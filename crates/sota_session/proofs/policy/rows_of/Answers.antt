use Rattle.std.proofs.Common.{◌-◌, List, [], ◌∷◌, ◌++◌, ap, ◌∙◌, sym, subst, arith, All, IfSome, Option, Vec, Global}
use Rattle.std.specs.List.{filter_map, cons_option, range_with_len}
use Rattle.std.proofs.lemmas.List.{append-nil}
use Rattle.std.proofs.lemmas.List.Elements.{All-append, All-cons, All-nil}
use Rattle.sota_polfile.specs.declared.row.PolicyRow.{PolicyRow}
use Rattle.sota_polfile.specs.Entry.{IsEntry}
use Rattle.sota_session.specs.Rows.{row_in}
use Rattle.sota_session.proofs.Ranges.{found_more}
use Rattle.sota_session.proofs.policy.rows_of.Goals as goal
use Rattle.sota_session.proofs.policy.rows_of.Goals.{in-Some+in_ok-push, in_default}

pub loop-node-preserved : goal.loop-node-preserved
loop-node-preserved c =
    let more = found_more (row_in c.args.region.now c.args.tables.now) c.loop-node.node (omega arith) in
    let before = filter_map (row_in c.args.region.now c.args.tables.now) (range_with_len 1 (c.loop-node.node - 1)) in
    let adds = λ (found : Option PolicyRow). before ++ cons_option found [] in
    elim c.match-branch-3.branch [
      | in-Some+in_ok-push w ↦
          let row = ap adds (sym c.in_ok-row.ensures.made ∙ w.in-Some.is) in
          record {
            made = grind (arith, more, row, w.rows-is, c.loop-node.invariant.made);
            valid =
                let here : All IsEntry w.in-Some.row.entries = subst (λ (found : Option PolicyRow). IfSome found (λ (row : PolicyRow). All IsEntry row.entries)) w.in-Some.is c.in_ok-row.ensures.valid in
                subst (λ (rows : List PolicyRow). All (λ (row : PolicyRow). All IsEntry row.entries) rows) (sym (ap (λ (v : Vec PolicyRow Global). v.items) w.rows-is ∙ w.in_ok-push.ensures.items))
                (All-append (λ (row : PolicyRow). All IsEntry row.entries) c.loop-node.rows.items (w.in-Some.row ∷ []) c.loop-node.invariant.valid
                (All-cons (λ (row : PolicyRow). All IsEntry row.entries) w.in-Some.row [] here (All-nil (λ (row : PolicyRow). All IsEntry row.entries))));
          }
      | in_default w ↦
          let row = ap adds (sym c.in_ok-row.ensures.made ∙ w.in_default.is) in
          record {
            made = ap (λ (v : Vec PolicyRow Global). v.items) w.rows-is ∙ c.loop-node.invariant.made ∙ sym (more ∙ row ∙ append-nil before);
            valid = subst (λ (v : Vec PolicyRow Global). All (λ (row : PolicyRow). All IsEntry row.entries) v.items) (sym w.rows-is) c.loop-node.invariant.valid;
          }
    ]
