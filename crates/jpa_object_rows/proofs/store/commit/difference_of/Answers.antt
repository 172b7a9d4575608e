use Rattle.std.specs.Prelude.{◌≡◌, All, List, [], map, Some, Result, Ok, Err, IfOk, T}
use Rattle.std.proofs.Common.{refl, sym, subst, ◌∙◌}
use Rattle.std.specs.FinMap.{find, is_sorted}
use Rattle.jpa_value.specs.Value.{identity_cmp}
use Rattle.jpa_behaviour.specs.Registered.{world_of}
use Rattle.jpa_rows.specs.declared.rows.row.RowChange.{RowChange}
use Rattle.jpa_rows.specs.rows.Rows.{Rows, AreRising, AreChanges, entry_of, rows_after}
use Rattle.jpa_rows.specs.rows.Tables.{schema_of}
use Rattle.jpa_rows.specs.laws.Changes.{AreDifference}
use Rattle.jpa_object_rows.proofs.meaning.Bytes.Described.{described_mapped}
use Rattle.jpa_object_rows.proofs.meaning.Bytes.Rounds.{held_storable}
use Rattle.jpa_object_rows.specs.meaning.Sets.{rows_of}
use Rattle.jpa_rows.specs.overlay.Overlay.{Changes, Recalls, rows_under}
use Rattle.jpa_rows.specs.rows.Commits.{IsDifference}
use Rattle.jpa_object_rows.specs.store.Written.{entries_in, set_after}
use Rattle.jpa_object_rows.specs.store.Shown.{Show, Recall}
use Rattle.jpa_object_rows.proofs.store.Commits.{begins, begins_noted, are_changes}
use Rattle.jpa_object_rows.proofs.store.commit.difference_of.Goals as goal

pub change_objects-requires-clause-committed : goal.change_objects-requires-clause-committed
change_objects-requires-clause-committed g c =
    let world = world_of g.B.Behaviour.meaning c.args.metamodel.now c.args.registry.now in
    held_storable world c.args.view.now.committed c.args.before.now c.requires.committed

-- the difference from rows that are recalled
recalled : {E : Type 0} (r : Result (List RowChange) E) (base new : Rows) (stood changes : Changes) → AreRising base → Recalls stood changes base → rows_under changes base ≡ new
    → IfOk r (λ made. (rows : Rows) → Recalls stood changes rows → AreDifference identity_cmp rows (map entry_of made))
    → IfOk r (λ made. (rows : Rows) → AreRising rows → Recalls stood changes rows → rows_after made rows ≡ rows_under changes rows) → IfOk r (IsDifference base new)
recalled (Ok made) base new stood changes rise is seen f g = (f base is, g base rise is ∙ seen)
recalled (Err e) base new stood changes rise is seen f g = tt

pub returns-clause-ok : goal.returns-clause-ok
returns-clause-ok g c =
    let m = c.args.metamodel.now in
    let world = world_of g.B.Behaviour.meaning m c.args.registry.now in
    let committed = c.args.view.now.committed in
    let before = c.args.before.now in
    let base = rows_of world committed before in
    let set = set_after (entries_in c.args.objects.now) committed in
    let regular = c.laws.ensures.regular m in
    let held = c.requires.committed in
    let none = subst (λ changes. Show world base changes committed before) (sym c.new-overlay.ensures)
    (begins world (described_mapped m c.unit.ensures.described) regular c.discriminator_law.ensures committed before held) in
    let shown = c.in_ok-change_numbers.ensures.ok world base set refl regular (c.in_ok-change_objects.ensures.ok base before none) in
    let nothing = subst (λ stood. Recall base stood c.new-overlay.result) (sym c.new-stood.ensures) (subst (λ changes. Recall base [] changes) (sym c.new-overlay.ensures) (begins_noted base)) in
    let noted = c.in_ok-change_numbers.ensures.noted world committed refl regular (held_storable world committed before held) (c.in_ok-change_objects.ensures.noted before held nothing) in
    recalled c.into_difference.result base (rows_of world set c.args.next.now) c.change_numbers.new.stood c.change_numbers.new.overlay shown.below noted.changed shown.seen c.into_difference.ensures.difference c.into_difference.ensures.seen

-- and they are changes of the unit's rows
made_whole : {E : Type 0} (r : Result (List RowChange) E) (Whole : List RowChange → Type 0) (changes : Changes)
    → ((made : List RowChange) → T (is_sorted identity_cmp (map entry_of made)) → All (λ change. find identity_cmp change.id changes ≡ Some change.row) made → Whole made)
    → IfOk r (λ made. T (is_sorted identity_cmp (map entry_of made))) → IfOk r (λ made. All (λ change. find identity_cmp change.id changes ≡ Some change.row) made) → IfOk r Whole
made_whole (Ok made) Whole changes are f g = are made f g
made_whole (Err e) Whole changes are f g = tt

pub returns-clause-whole : goal.returns-clause-whole
returns-clause-whole g c =
    let m = c.args.metamodel.now in
    let world = world_of g.B.Behaviour.meaning m c.args.registry.now in
    let committed = c.args.view.now.committed in
    let before = c.args.before.now in
    let base = rows_of world committed before in
    let set = set_after (entries_in c.args.objects.now) committed in
    let regular = c.laws.ensures.regular m in
    let mapped = described_mapped m c.unit.ensures.described in
    let named = c.discriminator_law.ensures in
    let none = subst (λ changes. Show world base changes committed before) (sym c.new-overlay.ensures) (begins world mapped regular named committed before c.requires.committed) in
    let shown = c.in_ok-change_numbers.ensures.ok world base set refl regular (c.in_ok-change_objects.ensures.ok base before none) in
    made_whole c.into_difference.result (AreChanges (schema_of m)) c.change_numbers.new.overlay (are_changes world mapped regular named base c.change_numbers.new.overlay set c.args.next.now shown) c.into_difference.ensures.rising c.into_difference.ensures.among
