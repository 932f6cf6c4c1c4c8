use Rattle.sota_session.proofs.policy.row_of.Goals as goal

pub entries_of-requires : goal.entries_of-requires
entries_of-requires c = record {
  known = λ t less. c.requires.agrees.known c.args.node t c.requires.node (rw (c.as_slice.ensures, c.get.ensures) at less);
}
