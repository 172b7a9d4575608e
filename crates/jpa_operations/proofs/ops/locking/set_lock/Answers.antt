use Rattle.std.proofs.Common.{◌≡◌, ◌∙◌, ◌<◌, ap, sym, subst, rules, length, get_or, map, List}
use Rattle.std.specs.Prelude.{slice_set}
use Rattle.jpa_work.specs.declared.context.Entry.{Entry}
use Rattle.jpa_work.specs.declared.context.Lock.{Lock}
use Rattle.jpa_work.specs.context.Places.{entry_at}
use Rattle.jpa_work.specs.context.Undo.{now}
use Rattle.jpa_work.specs.context.Work.{entry_of}
use Rattle.jpa_operations.proofs.fetch.Based.{changed_if, none_changed, one_changed, place_within, entry_there}
use Rattle.jpa_operations.specs.ops.States.{locked, lock_in}
use Rattle.jpa_operations.proofs.ops.Locked.{lock_at}
use Rattle.jpa_operations.proofs.ops.locking.set_lock.Goals as goal

-- no entry is the object's
pub returns-in_default-clause-ok : goal.returns-in_default-clause-ok
returns-in_default-clause-ok c =
    let w = now c.args.work.now in
    let n = c.args.object in
    let f : Entry → Entry = λ e. record e { lock = locked (lock_in (entry_of w n)) c.args.mode } in
    let same : map (changed_if n f) w.context ≡ w.context = none_changed n f w.context (sym c.in_default.ensures) in
    λ j. record w { context = sym same j }

pub offset_bounds-as_slice-place : goal.offset_bounds-as_slice-place
offset_bounds-as_slice-place c =
    let within = place_within c.args.object c.in-Some.place c.args.work.now.context.now (sym c.place_of.ensures ∙ c.in-Some.is) in
    search (rules, within)

pub bounds-as_slice-place : goal.bounds-as_slice-place
bounds-as_slice-place c =
    let within = place_within c.args.object c.in-Some.place c.args.work.now.context.now (sym c.place_of.ensures ∙ c.in-Some.is) in
    subst (λ es. c.in-Some.place < length es) (sym c.as_slice.ensures) within

pub set-requires-clause-at : goal.set-requires-clause-at
set-requires-clause-at c = place_within c.args.object c.in-Some.place c.args.work.now.context.now (sym c.place_of.ensures ∙ c.in-Some.is)

-- the entry at the object's place is the object's, and no other is
pub returns-clause-ok : goal.returns-clause-ok
returns-clause-ok c =
    let w = now c.args.work.now in
    let n = c.args.object in
    let i = c.in-Some.place in
    let mode = c.args.mode in
    let e = c.index-as_slice-place.result in
    let place = sym c.place_of.ensures ∙ c.in-Some.is in
    let within = place_within n i w.context place in
    let read : e ≡ get_or w.context i e = c.index-as_slice-place.is ∙ ap (λ (es : List Entry). get_or es i e) c.as_slice.ensures in
    let own : e.lock ≡ lock_in (entry_of w n) = lock_at w.context i e within read ∙ ap lock_in (ap (entry_at w.context) (sym place) ∙ sym (c.place_laws.ensures.entry w n)) in
    let f : Entry → Entry = λ x. record x { lock = locked (lock_in (entry_of w n)) mode } in
    let lock : c.locked-lock.result ≡ locked (lock_in (entry_of w n)) mode = c.locked-lock.ensures ∙ ap (λ (l : Lock). locked l mode) own in
    let changed : c.set.new.self.now ≡ map (changed_if n f) w.context =
    c.in_ok-set.ensures.changed
    ∙ ap (slice_set w.context i) (λ j. record (c.in_ok-copy.ensures.equal j) { lock = lock j })
    ∙ one_changed f w.context i e c.requires.distinct within read
    ∙ ap (λ k. map (changed_if k f) w.context) (entry_there n i w.context e place read) in
    λ j. record w { context = changed j }
