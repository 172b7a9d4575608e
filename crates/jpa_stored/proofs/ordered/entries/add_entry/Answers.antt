use Rattle.std.proofs.Common.{◌≡◌, ◌∙◌, Bool, true, false, cond, refl}
use Rattle.jpa_stored.proofs.ordered.entries.add_entry.Goals as goal

still : (b c : Bool) → c ≡ true → cond b true c ≡ true
still true c h = refl
still false c h = h

pub returns-clause-kept : goal.returns-clause-kept
returns-clause-kept c v h = c.in_ok-insert.ensures.updates.0 v ∙ still _ _ h
