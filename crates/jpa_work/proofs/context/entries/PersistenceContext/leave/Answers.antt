use Rattle.std.proofs.Common.{◌∙◌, ap, get_or}
use Rattle.std.specs.Prelude.{◌==◌, not, is_some}
use Rattle.std.specs.List.{list_any}
use Rattle.jpa_work.specs.context.Marks.{Entries}
use Rattle.jpa_work.specs.declared.context.Entry.{Entry}
use Rattle.jpa_work.specs.context.Indexed.{place_in, has_place}
use Rattle.jpa_work.specs.context.Places.{without_objects}
use Rattle.jpa_work.proofs.context.Staying.{filter_alike, has_entry, left_has}
use Rattle.jpa_work.proofs.context.entries.PersistenceContext.leave.Goals as goal

-- the objects that leave are those without a place
pub returns-clause-now : goal.returns-clause-now
returns-clause-now c =
    let objects = c.args.objects.now in
    let es = c.self.inside.list.now in
    let at' = c.forget_objects.new.at in
    c.drop_unplaced-self-inside.ensures.now
    ∙ filter_alike (λ (e : Entry). has_place at' e.object) (λ (e : Entry). not (list_any (λ m. m == e.object) objects)) es
    (λ k d l.
    let n = (get_or es k d).object in
    left_has (list_any (λ m. m == n) objects) (place_in c.self.inside.at n) (place_in at' n) (c.forget_objects.ensures n) (ap is_some (c.self.invariant.at_each n) ∙ has_entry es k d l))
    ∙ ap (λ (v : Entries). without_objects objects v.now) c.self.view_is
