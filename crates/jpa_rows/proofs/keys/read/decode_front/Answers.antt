use Rattle.std.proofs.Common.{sym, ◌∙◌}
use Rattle.jpa_rows.proofs.keys.Spelling.{front_exact}
use Rattle.jpa_rows.proofs.keys.read.decode_front.Goals as goal

pub returns-clause-spelled : goal.returns-clause-spelled
returns-clause-spelled c key count =
    let read = c.in_ok-read_key.ensures.ok in
    let exact = front_exact c.args.kinds.now c.args.bytes.now key count c.type_inv.bytes in
    (λ e. exact.0 (sym read ∙ e), λ s. read ∙ exact.1 s)
