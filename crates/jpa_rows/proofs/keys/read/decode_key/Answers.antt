use Rattle.std.proofs.Common.{sym, ◌∙◌}
use Rattle.jpa_rows.proofs.keys.Spelling.{whole_exact}
use Rattle.jpa_rows.proofs.keys.read.decode_key.Goals as goal

pub returns-clause-spelled : goal.returns-clause-spelled
returns-clause-spelled c key =
    let read = c.in_ok-read_whole.ensures.ok in
    let exact = whole_exact c.args.kinds.now c.args.bytes.now key c.type_inv.bytes in
    (λ e. exact.0 (sym read ∙ e), λ s. read ∙ exact.1 s)
