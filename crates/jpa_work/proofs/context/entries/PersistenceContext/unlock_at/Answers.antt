use Rattle.std.proofs.Common.{◌≡◌, ◌∙◌, sym, ap, subst, length, take, map, ◌<◌}
use Rattle.std.proofs.Math.Seq.{take-length}
use Rattle.std.proofs.lemmas.List.{length-map}
use Rattle.jpa_work.specs.context.Indexed.{placed}
use Rattle.jpa_work.specs.context.Marks.{Entries}
use Rattle.jpa_work.proofs.context.First.{same_first}
use Rattle.jpa_work.proofs.context.Placed.{same_places}
use Rattle.jpa_work.proofs.context.Unlocked.{unlocked_stay}
use Rattle.jpa_work.proofs.context.entries.PersistenceContext.unlock_at.Goals as goal

-- each entry has the object and the key that it had
pub invariant_of-self : goal.invariant_of-self
invariant_of-self c =
    let before = c.self.inside.list in
    let after = c.unlock_at.new.entries in
    let within = subst (λ (v : Entries). c.args.place < length v.now) (sym c.self.view_is) c.requires in
    let stay : map placed after.now ≡ map placed before.now = unlocked_stay before.now after.now c.args.place within c.unlock_at.ensures.now in
    record {
      under_each = λ print. c.self.invariant.under_each print ∙ same_places print before.now after.now (sym stay);
      at_each = λ n. c.self.invariant.at_each n ∙ same_first n 0 before.now after.now (sym stay);
      kept_length = c.len-self-inside.ensures ∙ ap length (sym c.unlock_at.ensures.since);
      kept_front = ap (λ n. take n (map placed after.now)) (c.len-self-inside.ensures ∙ sym (length-map after.now placed)) ∙ take-length (map placed after.now) ∙ ap (map placed) (sym c.unlock_at.ensures.since);
    }
