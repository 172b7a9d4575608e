use Rattle.std.proofs.Common.{◌≡◌, ◌∙◌, ◌<◌, ap, sym, subst, rules, length, get_or, map, List, Some}
use Rattle.std.specs.Prelude.{slice_set}
use Rattle.jpa_work.specs.declared.context.Entry.{Entry}
use Rattle.jpa_work.specs.context.Undo.{now}
use Rattle.jpa_operations.proofs.fetch.Based.{changed_if, none_changed, one_changed, place_within, entry_there}
use Rattle.jpa_operations.proofs.ops.refreshing.set_base.Goals as goal

-- no entry is the object's
pub returns-in_default-clause-ok : goal.returns-in_default-clause-ok
returns-in_default-clause-ok c =
    let w = now c.args.work.now in
    let f : Entry → Entry = λ e. record e { base = Some c.args.base } in
    let same : map (changed_if c.args.object f) w.context ≡ w.context = none_changed c.args.object f w.context (sym c.in_default.ensures) in
    λ j. record w { context = sym same j }

pub offset_bounds-as_slice-place : goal.offset_bounds-as_slice-place
offset_bounds-as_slice-place c =
    let within = place_within c.args.object c.in-Some.place c.args.work.now.context.now (sym c.place_of.ensures ∙ c.in-Some.is) in
    search (rules, within)

pub bounds-as_slice-place : goal.bounds-as_slice-place
bounds-as_slice-place c =
    let within = place_within c.args.object c.in-Some.place c.args.work.now.context.now (sym c.place_of.ensures ∙ c.in-Some.is) in
    subst (λ es. c.in-Some.place < length es) (sym c.as_slice.ensures) within

pub set-requires-clause-at : goal.set-requires-clause-at
set-requires-clause-at c = place_within c.args.object c.in-Some.place c.args.work.now.context.now (sym c.place_of.ensures ∙ c.in-Some.is)

-- the entry at the object's place is the object's, and no other is
pub returns-clause-ok : goal.returns-clause-ok
returns-clause-ok c =
    let w = now c.args.work.now in
    let n = c.args.object in
    let i = c.in-Some.place in
    let f : Entry → Entry = λ e. record e { base = Some c.args.base } in
    let e = c.index-as_slice-place.result in
    let place = sym c.place_of.ensures ∙ c.in-Some.is in
    let read : e ≡ get_or w.context i e = c.index-as_slice-place.is ∙ ap (λ (es : List Entry). get_or es i e) c.as_slice.ensures in
    let changed : c.set.new.self.now ≡ map (changed_if n f) w.context =
    c.in_ok-set.ensures.changed
    ∙ ap (slice_set w.context i) (λ j. record e { key = c.in_ok-try_copy.ensures.equal j; base = Some c.args.base })
    ∙ one_changed f w.context i e c.requires.distinct (place_within n i w.context place) read
    ∙ ap (λ k. map (changed_if k f) w.context) (entry_there n i w.context e place read) in
    λ j. record w { context = changed j }
