use Rattle.std.proofs.Common.{◌≡◌, ◌∙◌, sym, subst, ap, length, take, map}
use Rattle.jpa_work.specs.context.Marks.{Entries}
use Rattle.jpa_work.specs.declared.context.Entry.{Entry}
use Rattle.jpa_work.specs.context.Indexed.{placed}
use Rattle.jpa_work.specs.context.Places.{StaysAt}
use Rattle.jpa_work.proofs.context.First.{same_first}
use Rattle.jpa_work.proofs.context.Placed.{same_places, set_stays}
use Rattle.jpa_work.proofs.context.entries.PersistenceContext.set.Goals as goal

-- the new entry has the object and the key of the old one
pub invariant_of-self : goal.invariant_of-self
invariant_of-self c =
    let before = c.self.inside.list in
    let same : StaysAt before.now c.args.at c.args.entry = subst (λ (v : Entries). StaysAt v.now c.args.at c.args.entry) (sym c.self.view_is) c.requires.same in
    let stay : map placed c.set.new.self.now ≡ map placed before.now = set_stays c.set.result before.now c.set.new.self.now c.args.at c.args.entry c.set.ensures.changed c.set.ensures.refused same in
    record {
      under_each = λ print. c.self.invariant.under_each print ∙ same_places print before.now c.set.new.self.now (sym stay);
      at_each = λ n. c.self.invariant.at_each n ∙ same_first n 0 before.now c.set.new.self.now (sym stay);
      kept_length = c.self.invariant.kept_length ∙ ap length (sym c.set.ensures.since);
      kept_front = ap (take c.self.inside.kept) stay ∙ c.self.invariant.kept_front ∙ ap (map placed) (sym c.set.ensures.since);
    }
