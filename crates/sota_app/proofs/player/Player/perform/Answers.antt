use Rattle.sota_app.proofs.player.Player.perform.Goals as goal

pub returns-in_ok-answer-in-Ask-clause-effort : goal.returns-in_ok-answer-in-Ask-clause-effort
returns-in_ok-answer-in-Ask-clause-effort g c =
    rw (c.in-Ask.is) (record {
      pushes = rw c.session_ask.ensures at c.in_ok-answer-in-Ask.ensures.leaves.count;
      kept_is = rw c.session_ask.ensures at c.in_ok-answer-in-Ask.ensures.leaves.state;
    })

pub returns-in_ok-bytes-in-Policy-clause-effort : goal.returns-in_ok-bytes-in-Policy-clause-effort
returns-in_ok-bytes-in-Policy-clause-effort g c =
    rw (c.in-Policy.is) (record {
      pushes = rw c.session_ask-in-Policy.ensures at c.in_ok-table-in-Policy.ensures.leaves.count;
      kept_is = rw c.session_ask-in-Policy.ensures at c.in_ok-table-in-Policy.ensures.leaves.state;
    })

pub returns-in_ok-bytes-in-Bracket-clause-effort : goal.returns-in_ok-bytes-in-Bracket-clause-effort
returns-in_ok-bytes-in-Bracket-clause-effort g c =
    rw (c.in-Bracket.is) (record {
      pushes = rw c.session_ask-in-Bracket.ensures at c.in_ok-table-in-Bracket.ensures.leaves.count;
      kept_is = rw c.session_ask-in-Bracket.ensures at c.in_ok-table-in-Bracket.ensures.leaves.state;
    })
