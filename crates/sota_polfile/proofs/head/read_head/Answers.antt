use Rattle.std.proofs.Common.{◌≡◌, true, false, arith}
use Rattle.std.specs.Prelude.{nat_eq}
use Rattle.std.specs.List.{starts_with}
use Rattle.sota_polfile.specs.Faults.{is_head}
use Rattle.sota_polfile.proofs.FileFaults.{head_none, not_magic, short_head, bad_head}
use Rattle.sota_polfile.proofs.head.read_head.Goals as goal

pub returns-then-not-starts_with-clause-fault : goal.returns-then-not-starts_with-clause-fault
returns-then-not-starts_with-clause-fault c =
    let begins : starts_with nat_eq c.args.bytes.now c.args.magic.now ≡ false = cc in
    not_magic c.args.magic.now c.args.front c.args.bytes.now begins

pub returns-then-bytes-front-clause-fault : goal.returns-then-bytes-front-clause-fault
returns-then-bytes-front-clause-fault c =
    let begins : starts_with nat_eq c.args.bytes.now c.args.magic.now ≡ true = cc in
    short_head c.args.magic.now c.args.front c.args.bytes.now begins (omega arith)

pub returns-then-not-is_in_range-clause-fault : goal.returns-then-not-is_in_range-clause-fault
returns-then-not-is_in_range-clause-fault c =
    let begins : starts_with nat_eq c.args.bytes.now c.args.magic.now ≡ true = cc in
    let bad : is_head c.head_at-head.result ≡ false = cc in
    bad_head c.args.magic.now c.args.front c.args.bytes.now begins (omega arith) (rw c.head_at-head.ensures at bad)

pub returns-clause-none : goal.returns-clause-none
returns-clause-none c =
    let begins : starts_with nat_eq c.args.bytes.now c.args.magic.now ≡ true = cc in
    let good : is_head c.head_at-head.result ≡ true = cc in
    head_none c.args.magic.now c.args.front c.args.bytes.now (record { begins = begins; long = omega arith; head = rw c.head_at-head.ensures at good })
