use Rattle.std.proofs.Common.{ℕ, ◌≡◌, ◌≤◌, List, Option, None, Some, sym, ◌∙◌, ap, subst}
use Rattle.std.specs.Option.{option_map}
use Rattle.std.proofs.lemmas.Option.{none-some}
use Rattle.sota_hist.specs.Time.{IsTime, total}
use Rattle.sota_network.specs.Network.{IsNet, arc_at, replaced}
use Rattle.sota_kept.specs.TableLists.{IsKept, state_of}
use Rattle.sota_tables.specs.Views.{TablesView, HasNode, SameNodes, lists_of, table_at}
use Rattle.sota_kept.specs.Ticks.{END_LIMIT, up_to}
use Rattle.sota_kept.specs.NodeTables.{cut_to}
use Rattle.sota_bounds.specs.Search.{time_at}
use Rattle.sota_session.specs.Cuts.{IsCutFor}
use Rattle.sota_session.specs.State.{SessionState, kept_state, state_edited}
use Rattle.sota_session.proofs.Cutting.{IsEdited, all-kept, all-state, none-kept}
use Rattle.sota_session.proofs.Results.{ok-then}
use Rattle.sota_session.proofs.session.Session.edit.Goals as goal
use Rattle.sota_session.proofs.session.Session.edit.Goals.{After-replace}

-- the edit of the network that the session holds
edit-of : (c : After-replace) → IsEdited c.self.inside.roads c.args.arc c.args.time c.self.inside.tables
edit-of c = record {
  valid = subst (λ (s : SessionState). IsNet s.network) (sym c.self.view_is) c.in_ok-cuts.ensures.valid;
  kept = c.self.invariant;
  rises = subst IsTime c.time.view_is c.time.invariant.0;
  sums = subst (λ (s : SessionState). total c.args.time ≤ s.network.scale) (sym c.self.view_is) c.requires;
  table = c.views_are_lists.ensures.table;
  edited = λ first dest arc new. c.tables_stay_right.ensures.edited c.self.inside.roads c.args.arc first dest arc c.args.time (lists_of c.self.inside.tables) new;
  edited_state = λ first dest arc new. c.tables_stay_right.ensures.edited_state c.self.inside.roads first dest arc (lists_of c.self.inside.tables) new;
}

cuts-of : (c : After-replace) → IsCutFor c.self.inside.roads c.self.inside.tables.dest c.args.arc c.args.time (option_map (λ budgets. budgets.items) c.in_ok-cuts.cuts)
cuts-of c =
    subst (λ (s : SessionState). IsCutFor s.network s.tables.dest c.args.arc c.args.time (option_map (λ budgets. budgets.items) c.in_ok-cuts.cuts)) (sym c.self.view_is) c.in_ok-cuts.ensures.cuts

-- the arc was found, so that it was replaced
next-is : (c : After-replace) → c.replace.new.self ≡ replaced c.self.inside.roads c.args.arc c.args.time
next-is c =
    ok-then c.replace.result (c.replace.new.self ≡ replaced c.self.inside.roads c.args.arc c.args.time) (arc_at c.self.inside.roads c.args.arc ≡ None)
    c.replace.ensures.replaced c.replace.ensures.no_arc (λ none. none-some (cuts-of c).edited (sym none ∙ (cuts-of c).found))

abbrev cuts : After-replace → Option (List (Option ℕ))
cuts c = option_map (λ budgets. budgets.items) c.in_ok-cuts.cuts

-- each node is cut
cut-kept : (c : After-replace) (new : TablesView) (budgets : List (Option ℕ)) → cuts c ≡ Some budgets → SameNodes c.self.inside.tables new
    → ((i : ℕ) → HasNode c.self.inside.tables i → table_at new i ≡ cut_to (up_to END_LIMIT (time_at budgets i)) (table_at c.self.inside.tables i))
    → IsKept (lists_of new) c.replace.new.self
cut-kept c new budgets are same cut =
    subst (IsKept (lists_of new)) (sym (next-is c)) (all-kept c.self.inside.roads c.args.arc c.args.time c.self.inside.tables (edit-of c) new budgets same cut (cuts c) are (cuts-of c))

-- no node is
same-kept : (c : After-replace) → cuts c ≡ None → IsKept (lists_of c.self.inside.tables) c.replace.new.self
same-kept c none =
    subst (IsKept (lists_of c.self.inside.tables)) (sym (next-is c)) (none-kept c.self.inside.roads c.args.arc c.args.time c.self.inside.tables (edit-of c) (cuts c) none (cuts-of c))

pub invariant_of-self : goal.invariant_of-self
invariant_of-self c =
    cut-kept (goal.at.invariant_of-self c).After-replace c.cut_all.new.tables c.in-Some.budgets.items (ap (option_map (λ budgets. budgets.items)) c.in-Some.is) c.cut_all.ensures.nodes (rw c.deref.ensures.value at c.cut_all.ensures.tables)

pub returns-in-Some-clause-right : goal.returns-in-Some-clause-right
returns-in-Some-clause-right c =
    cut-kept (goal.at.returns-in-Some-clause-right c).After-replace c.cut_all.new.tables c.in-Some.budgets.items (ap (option_map (λ budgets. budgets.items)) c.in-Some.is) c.cut_all.ensures.nodes (rw c.deref.ensures.value at c.cut_all.ensures.tables)

pub invariant_of-self-in_default : goal.invariant_of-self-in_default
invariant_of-self-in_default c = same-kept (goal.at.invariant_of-self-in_default c).After-replace (ap (option_map (λ budgets. budgets.items)) c.in_default.is)

pub returns-in_default-clause-right : goal.returns-in_default-clause-right
returns-in_default-clause-right c = same-kept (goal.at.returns-in_default-clause-right c).After-replace (ap (option_map (λ budgets. budgets.items)) c.in_default.is)

pub returns-in-Some-clause-state : goal.returns-in-Some-clause-state
returns-in-Some-clause-state c =
    let d = (goal.at.returns-in-Some-clause-state c).After-replace in
    subst (λ (s : SessionState). state_of (lists_of c.cut_all.new.tables) ≡ state_edited s.network c.args.arc c.args.time (kept_state s)) c.self.view_is
    (all-state c.self.inside.roads c.args.arc c.args.time c.self.inside.tables (edit-of d) c.cut_all.new.tables c.in-Some.budgets.items c.cut_all.ensures.nodes (rw c.deref.ensures.value at c.cut_all.ensures.tables)
    (cuts d) (ap (option_map (λ budgets. budgets.items)) c.in-Some.is) (cuts-of d))

pub replace-requires-clause-rises : goal.replace-requires-clause-rises
replace-requires-clause-rises c = subst IsTime c.time.view_is c.time.invariant.0
