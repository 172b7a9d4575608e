use Rattle.std.proofs.Common.{◌≡◌, ◌∙◌, ap, sym, cond, None}
use Rattle.std.specs.Prelude.{◌==◌, ◌&&◌, filter, is_some}
use Rattle.std.specs.Option.{option_or}
use Rattle.jpa_work.specs.declared.context.Entry.{Entry}
use Rattle.jpa_work.specs.context.Indexed.{place_in, has_place, places_with}
use Rattle.jpa_work.specs.context.Places.{entry_place}
use Rattle.jpa_work.proofs.context.First.{is_first_any}
use Rattle.jpa_work.proofs.context.Staying.{stays, any_stays, placed_again}
use Rattle.jpa_work.proofs.context.leaving.drop_unplaced.Goals as goal

pub returns-clause-all : goal.returns-clause-all
returns-clause-all c = λ print.
    c.thin.ensures print ∙ ap (places_with print) (ap (filter (stays (has_place c.args.at.now))) c.as_slice.ensures ∙ sym c.retain_placed.ensures.now)

-- the entries that are left are those of the objects that have a place
pub returns-clause-placed : goal.returns-clause-placed
returns-clause-placed c = λ n.
    let h = has_place c.args.at.now in
    let es = c.args.list.now.now in
    let before = place_in c.args.at.now n in
    let left = filter (stays h) es in
    let same : is_some (entry_place n left) ≡ is_some before && is_some (entry_place n es) =
    is_first_any (λ (e : Entry). e.object == n) 0 left ∙ any_stays h n es ∙ ap (λ b. h n && b) (sym (is_first_any (λ (e : Entry). e.object == n) 0 es)) in
    c.renumber.ensures n
    ∙ ap (λ o. cond (is_some before) (option_or o before) None) (ap (entry_place n) (c.as_slice-2.ensures ∙ c.retain_placed.ensures.now))
    ∙ placed_again before (entry_place n es) (entry_place n left) (c.requires.placed n) same
    ∙ ap (entry_place n) (sym c.retain_placed.ensures.now)
