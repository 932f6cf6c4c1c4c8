use Rattle.std.proofs.Common.{◌≡◌, List, ℕ, None, map, string_bytes, sym, subst}
use Rattle.sota_script.specs.declared.command.Command.{Command}
use Rattle.sota_script.specs.declared.command.Command.TheVariants.{Route, Need}
use Rattle.sota_route.specs.Faults.{route_fault}
use Rattle.sota_route.specs.Bounds.{route_answer}
use Rattle.sota_app.specs.Script.{command_refusal, allowance_of}
use Rattle.sota_app.specs.Commands.{command_net}
use Rattle.sota_app.specs.declared.reply.Refusal.TheVariants as refusals
use Rattle.sota_app.proofs.Commanded.{command_replied, none_of}
use Rattle.sota_network.specs.Network.{IsNet, Net}
use Rattle.sota_session.specs.Asks.{answer_of}
use Rattle.sota_session.specs.Plans.{plan_table}
use Rattle.sota_app.specs.Script.{ScriptLine, network_after, session_ask}
use Rattle.sota_words.specs.Drawn.{words_of}
use Rattle.sota_app.specs.Verdicts.{named, accepted_line, bracket_named, enclosed_line}
use Rattle.sota_app.specs.Shown.{PlanHolds}
use Rattle.sota_app.specs.Inputs.{IsWorked}
use Rattle.sota_check.specs.Certified.{rule, IsCertified}
use Rattle.sota_check.specs.Rejected.{rejection}
use Rattle.sota_polfile.specs.Bracket.{IsBracket}
use Rattle.sota_check.specs.Bracketed.{IsBracketed}
use Rattle.sota_check.specs.BracketRejected.{bracket_rejection}
use Rattle.sota_app.specs.Outcome.{Job, play, judge, judge_bracket, show, shown, timed}
use Rattle.sota_app.proofs.TimedDone.{answer_over, timed_done}
use Rattle.sota_period.specs.Periods.{ArePeriods, first_net}
use Rattle.sota_app.specs.Causes.{Delivered}
use Rattle.sota_edge.specs.Desk.{Files}
use Rattle.sota_app.specs.Meaning.{IsJob, line_net}
use Rattle.sota_app.proofs.Exact.{exact, done_stands}
use Rattle.sota_app.proofs.Answered.{line_written}
use Rattle.sota_app.proofs.Judged.{IsPassed, judged_done, bracket_done, tally_line, replayed_done, all_counted}
use Rattle.sota_app.proofs.Judged.{delivered}
use Rattle.sota_app.proofs.ShownPlan.{IsWritten, shown_done, shown_worked}
use Rattle.sota_app.proofs.top.run.Goals as goal

-- the network after the lines above one of a script
above_valid : ((words : List (List ℕ)) (files : Files) (net : Net) (job : Job) → IsJob words files net job → IsNet net)
    → ((net : Net) (lines : List ScriptLine) → IsNet net → IsNet (network_after net lines))
    → (words : List (List ℕ)) (files : Files) (net : Net) (job : Job) (above : List ScriptLine) → IsJob words files net job
    → IsNet (network_after net above)
above_valid valid after words files net job above asked = after net above (valid words files net job asked)

pub returns-in-Ok-clause-exact : goal.returns-in-Ok-clause-exact
returns-in-Ok-clause-exact g c = λ files tells no ran.
    exact _ _ _ _ _ _ _ tells no ran c.in-Ok.ensures.ended.cause

pub returns-in-Ok-clause-meaning : goal.returns-in-Ok-clause-meaning
returns-in-Ok-clause-meaning g c = λ files line tells none ran answered.
    let net = line_net line in
    let valid : IsNet net =
    above_valid c.requests_have_networks.ensures.valid c.requests_have_networks.ensures.lines (map (λ word. string_bytes word) c.args.words.now) files line.net
    (play line.voice answered.lines) line.above answered.request in
    let answer = answer_of net (session_ask line.ask) in
    record {
      lower = answer.lower;
      upper = answer.upper;
      next = answer.next;
      written = line_written line _ _ files _ _ _ _ _ answered
          answered.lines answered.request answered.place
          (exact _ _ _ _ _ _ _ tells none ran c.in-Ok.ensures.ended.cause);
      meant = c.answers_are_meant.ensures net line.ask valid;
    }

pub returns-in-Ok-clause-accepted : goal.returns-in-Ok-clause-accepted
returns-in-Ok-clause-accepted g c = λ files net table tells is judged.
    let passed : IsPassed (rejection net table) (accepted_line (named table)) _ _ =
    judged_done net table _ files _ _ _ _ judged (done_stands _ _ _ _ _ _ _ is tells c.in-Ok.ensures.ended.cause) in
    let valid : IsNet net = c.requests_have_networks.ensures.valid (map (λ word. string_bytes word) c.args.words.now) files net (judge table) judged in
    let holds : IsCertified net table =
    c.passed_policies_hold.ensures.holds net table passed.none in
    let head = table.head in
    record {
      written = passed.written;
      holds = holds;
      fits = c.grid_encloses.ensures.fits net (rule table) head.dest head.origin head.budget
          valid;
      attains = c.certified_attains.ensures.attains net table head.origin head.budget valid
          holds;
      whole = c.certified_attains.ensures.whole net table head.origin head.budget valid holds;
    }

pub returns-in-Ok-clause-enclosed : goal.returns-in-Ok-clause-enclosed
returns-in-Ok-clause-enclosed g c = λ files net table tells is judged.
    let passed : IsPassed (bracket_rejection net table) (enclosed_line (bracket_named table)) _ _ =
    bracket_done net table _ files _ _ _ _ judged (done_stands _ _ _ _ _ _ _ is tells c.in-Ok.ensures.ended.cause) in
    let valid : IsNet net = c.requests_have_networks.ensures.valid (map (λ word. string_bytes word) c.args.words.now) files net (judge_bracket table) judged in
    let table_is : IsBracket table =
    c.in-Ok.ensures.holds files net (judge_bracket table) tells judged
    (subst IsWorked (sym is) tt) in
    let holds : IsBracketed net table =
    c.passed_brackets_hold.ensures.holds net table passed.none in
    let head = table.head in
    let law = c.bracketed_encloses.ensures in
    record {
      written = passed.written;
      holds = holds;
      encloses = law.encloses net table head.origin head.budget valid table_is holds;
      fits = law.fits net table head.origin head.budget valid;
      attains = law.attains net table head.origin head.budget valid holds;
      whole = (law.whole net table head.origin head.budget valid holds).1;
    }

pub returns-in-Ok-clause-replayed : goal.returns-in-Ok-clause-replayed
returns-in-Ok-clause-replayed g c = λ files net table trips tells is asked.
    let passed : IsPassed (rejection net table) (tally_line net table trips) _ _ =
    replayed_done net table trips _ files _ _ _ _ asked (done_stands _ _ _ _ _ _ _ is tells c.in-Ok.ensures.ended.cause) in
    record {
      written = passed.written;
      whole = all_counted net table trips.count (words_of trips.seed);
      holds = c.passed_policies_hold.ensures.holds net table passed.none;
    }

pub returns-in-Ok-clause-shown : goal.returns-in-Ok-clause-shown
returns-in-Ok-clause-shown g c = λ files net ask tells none ran asked.
    let table = plan_table net (session_ask ask) in
    let made : Delivered (shown net (session_ask ask)) c.in-Ok.status _ _ _ _ =
    delivered _ files (record { net = net; job = show ask }) _ _ _ _ _ asked.job
    (exact _ _ _ _ _ _ _ tells none ran c.in-Ok.ensures.ended.cause) in
    let holds : PlanHolds net (session_ask ask) =
    c.in-Ok.ensures.holds files net (show ask) tells asked.job
    (subst IsWorked made.status_is (shown_worked net (session_ask ask) asked.accepted))
    asked.accepted in
    let written : IsWritten net (session_ask ask) c.in-Ok.status _ _ =
    shown_done net (session_ask ask) _ _ _ _ _ asked.accepted
    (c.passed_policies_hold.ensures.passes net table holds.table holds.holds) holds.bound made in
    let valid : IsNet net = c.requests_have_networks.ensures.valid (map (λ word. string_bytes word) c.args.words.now) files net (show ask) asked.job in
    let answer = answer_of net (session_ask ask) in
    record {
      done = written.done;
      lower = answer.lower;
      upper = answer.upper;
      next = answer.next;
      written = written.written;
      meant = c.answers_are_meant.ensures net ask valid;
      holds = holds.holds;
    }

pub returns-in-Err-PutFailed-clause-idle : goal.returns-in-Err-PutFailed-clause-idle
returns-in-Err-PutFailed-clause-idle g c = λ idle. absurd idle

pub returns-in-Err-NoMemory-clause-idle : goal.returns-in-Err-NoMemory-clause-idle
returns-in-Err-NoMemory-clause-idle g c = λ idle. absurd idle

pub returns-in-Ok-clause-timed : goal.returns-in-Ok-clause-timed
returns-in-Ok-clause-timed g c = λ files periods asked tells is made.
    let answer = answer_over periods asked in
    let valid : ArePeriods periods =
    c.in-Ok.ensures.holds files (first_net periods) (timed periods asked) tells made
    (subst IsWorked (sym is) tt) in
    let law = c.timed_grid_encloses.ensures in
    let o = asked.ask.origin in
    let dest = asked.ask.dest in
    let t = asked.ask.budget in
    record {
      lower = answer.lower;
      upper = answer.upper;
      next = answer.next;
      written = timed_done periods asked _ files _ _ _ _ made
          (done_stands _ _ _ _ _ _ _ is tells c.in-Ok.ensures.ended.cause);
      periods_are = valid;
      encloses = law.encloses periods asked.deadline dest o t valid;
      ordered = law.order periods asked.deadline dest o t valid;
      gap = law.gap periods asked.deadline dest o t valid;
      whole = law.whole periods asked.deadline dest o t valid;
    }

pub returns-in-Ok-clause-routed : goal.returns-in-Ok-clause-routed
returns-in-Ok-clause-routed g c = λ files line dest budget arcs tells none ran done is.
    let net = command_net line in
    let valid : IsNet net =
    above_valid c.requests_have_networks.ensures.valid c.requests_have_networks.ensures.lines (map (λ word. string_bytes word) c.args.words.now) files line.net
    (play line.voice done.lines) line.above done.request in
    let all = exact _ _ _ _ _ _ _ tells none ran c.in-Ok.ensures.ended.cause in
    let clear : route_fault net dest budget arcs ≡ None =
    none_of (λ fault. refusals.Route fault) (route_fault net dest budget arcs)
    (subst (λ (command : Command). command_refusal net command ≡ None) is done.accepted) in
    record {
      answer = route_answer net dest arcs budget;
      written = command_replied line _ _ files _ _ _ _ _ (Route dest budget arcs) is done
          done.request all;
      meant = λ o start. c.routes_are_enclosed.ensures net dest budget o arcs valid clear start;
    }

pub returns-in-Ok-clause-allowed : goal.returns-in-Ok-clause-allowed
returns-in-Ok-clause-allowed g c = λ files line ask confidence tells none ran done is.
    let net = command_net line in
    let valid : IsNet net =
    above_valid c.requests_have_networks.ensures.valid c.requests_have_networks.ensures.lines (map (λ word. string_bytes word) c.args.words.now) files line.net
    (play line.voice done.lines) line.above done.request in
    let all = exact _ _ _ _ _ _ _ tells none ran c.in-Ok.ensures.ended.cause in
    let law = c.needs_by_trees.ensures in
    record {
      need = (allowance_of net ask confidence).need;
      written = command_replied line _ _ files _ _ _ _ _ (Need ask confidence) is done
          done.request all;
      none = λ t no within. law.none net ask.dest ask.origin confidence ask.budget t valid no within;
      too_early = λ early t some less.
          law.below net ask.dest ask.origin confidence ask.budget early t valid some less;
      in_time = λ sure some.
          (law.within net ask.dest ask.origin confidence ask.budget sure valid some).1;
    }
