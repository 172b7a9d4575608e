use Rattle.std.proofs.Common.{◌≡◌, ◌-◌, length, min, ap, ◌∙◌, arith}
use Rattle.jpa_lines.specs.lines.Run.{kept_len}
use Rattle.jpa_lines.proofs.lines.Held.{hold_front}
use Rattle.jpa_lines.proofs.lines.run.hold.Goals as goal

pub returns-in-Ok-clause-ok : goal.returns-in-Ok-clause-ok
returns-in-Ok-clause-ok c fits =
    let room : c.saturating_sub-room.result ≡ kept_len - length c.args.held.now.items = omega (arith, c.saturating_sub-room.ensures, c.len.ensures) in
    c.in-Ok.ensures.items ∙ hold_front kept_len c.min-kept.result c.args.held.now.items c.args.bytes.now (c.min-kept.ensures ∙ ap (λ r. min (length c.args.bytes.now) r) room) fits
