use Rattle.std.proofs.Common.{sym, ◌∙◌}
use Rattle.jpa_rows.proofs.keys.Spelling.{pair_exact}
use Rattle.jpa_rows.proofs.keys.read.decode_pair.Goals as goal

pub returns-clause-spelled : goal.returns-clause-spelled
returns-clause-spelled c owner target =
    let read = c.in_ok-read_pair.ensures.ok in
    let exact = pair_exact c.args.owner_kinds.now c.args.target_kinds.now c.args.bytes.now owner target c.type_inv.bytes in
    (λ e. exact.0 (sym read ∙ e), λ s. read ∙ exact.1 s)
