use Rattle.std.proofs.Common.{◌∙◌, T, sym, subst, arith}
use Rattle.std.specs.FinMap.Entries.{is_sorted}
use Rattle.jpa_value.specs.Value.{identity_cmp}
use Rattle.jpa_stored.specs.objects.Sets.{StoredSet}
use Rattle.jpa_open.specs.Holding.{HaveEntries}
use Rattle.jpa_open.specs.References.{HaveAll}
use Rattle.jpa_open.proofs.Entered.{have_later}
use Rattle.jpa_open.proofs.Held.{have_more}
use Rattle.jpa_open.proofs.open.OpenSet.prepare.Goals as goal

pub invariant_of-self-in_err-add_values-3 : goal.invariant_of-self-in_err-add_values-3
invariant_of-self-in_err-add_values-3 c =
    let s = c.self.inside in
    let v = c.self.invariant in
    let items = c.try_reserve-3.ensures.items ∙ c.try_reserve-2.ensures.items ∙ c.try_reserve.ensures.items in
    let one = c.add_each.new.index.keys in
    let two = c.add_each-2.new.index.keys in
    let all = c.add_each-3.new.index.keys in
    let more = λ (es : StoredSet) (k : HaveAll es s.index.keys). have_more two all es c.add_each-3.ensures.kept (have_more one two es c.add_each-2.ensures.kept (have_more s.index.keys one es c.add_each.ensures.kept k)) in
    let first = c.add_values.new.values in
    let second = c.add_values-2.new.values in
    let values = c.add_values-3.new.values in
    let later = λ (es : StoredSet) (k : HaveEntries es s.values). have_later second values es c.add_values-3.ensures.kept (have_later first second es c.add_values-2.ensures.kept (have_later s.values first es c.add_values.ensures.kept k)) in
    record {
      committed = subst (λ (es : StoredSet). T (is_sorted identity_cmp es)) (sym items) v.committed;
      back = v.back;
      absent = v.absent;
      written = v.written;
      dropped = v.dropped;
      fresh = v.fresh;
      gone = v.gone;
      room_written = v.room_written;
      room_dropped = v.room_dropped;
      room = λ e. let r = v.room e in omega (arith, r, c.try_reserve.ensures.len, c.try_reserve-2.ensures.len, c.try_reserve-3.ensures.len, c.try_reserve.ensures.capacity, c.try_reserve-2.ensures.capacity, c.try_reserve-3.ensures.capacity);
      have_committed = subst (λ (es : StoredSet). HaveAll es all) (sym items) (more s.committed.items v.have_committed);
      have_back = v.have_back;
      have_written = v.have_written;
      have_fresh = v.have_fresh;
      ready_back = λ e. more s.back.items (v.ready_back e);
      ready_written = λ e. more s.written.items (v.ready_written e);
      ready_fresh = λ e. more s.fresh.items (v.ready_fresh e);
      have_values = subst (λ (es : StoredSet). HaveEntries es values) (sym items) (later s.committed.items v.have_values);
      ready_back_values = λ e. later s.back.items (v.ready_back_values e);
      ready_written_values = λ e. later s.written.items (v.ready_written_values e);
      ready_fresh_values = λ e. later s.fresh.items (v.ready_fresh_values e);
    }

pub invariant_of-self-2 : goal.invariant_of-self-2
invariant_of-self-2 c =
    let s = c.self.inside in
    let v = c.self.invariant in
    let items = c.try_reserve-3.ensures.items ∙ c.try_reserve-2.ensures.items ∙ c.try_reserve.ensures.items in
    let one = c.add_each.new.index.keys in
    let two = c.add_each-2.new.index.keys in
    let all = c.add_each-3.new.index.keys in
    let more_last = λ (es : StoredSet) (k : HaveAll es two). have_more two all es c.add_each-3.ensures.kept k in
    let more = λ (es : StoredSet) (k : HaveAll es one). more_last es (have_more one two es c.add_each-2.ensures.kept k) in
    let first = c.add_values.new.values in
    let second = c.add_values-2.new.values in
    let values = c.add_values-3.new.values in
    let last = λ (es : StoredSet) (k : HaveEntries es second). have_later second values es c.add_values-3.ensures.kept k in
    let later = λ (es : StoredSet) (k : HaveEntries es first). last es (have_later first second es c.add_values-2.ensures.kept k) in
    record {
      committed = subst (λ (es : StoredSet). T (is_sorted identity_cmp es)) (sym items) v.committed;
      back = v.back;
      absent = v.absent;
      written = v.written;
      dropped = v.dropped;
      fresh = v.fresh;
      gone = v.gone;
      room_written = v.room_written;
      room_dropped = v.room_dropped;
      room = λ e. omega (arith, c.in_ok-try_reserve-3.ensures.ok, c.try_reserve-3.ensures.len, c.len-4.ensures, c.len-5.ensures, c.len-6.ensures);
      have_committed = subst (λ (es : StoredSet). HaveAll es all) (sym items) (more s.committed.items (have_more s.index.keys one s.committed.items c.add_each.ensures.kept v.have_committed));
      have_back = v.have_back;
      have_written = v.have_written;
      have_fresh = v.have_fresh;
      ready_back = λ e. more s.back.items (subst (λ (es : StoredSet). HaveAll es one) c.as_slice.ensures.value c.in_ok-add_each.ensures.all);
      ready_written = λ e. more_last s.written.items (subst (λ (es : StoredSet). HaveAll es two) c.as_slice-2.ensures.value c.in_ok-add_each-2.ensures.all);
      ready_fresh = λ e. subst (λ (es : StoredSet). HaveAll es all) c.as_slice-3.ensures.value c.in_ok-add_each-3.ensures.all;
      have_values = subst (λ (es : StoredSet). HaveEntries es values) (sym items) (later s.committed.items (have_later s.values first s.committed.items c.add_values.ensures.kept v.have_values));
      ready_back_values = λ e. later s.back.items (subst (λ (es : StoredSet). HaveEntries es first) c.as_slice-4.ensures.value c.in_ok-add_values.ensures.all);
      ready_written_values = λ e. last s.written.items (subst (λ (es : StoredSet). HaveEntries es second) c.as_slice-5.ensures.value c.in_ok-add_values-2.ensures.all);
      ready_fresh_values = λ e. subst (λ (es : StoredSet). HaveEntries es values) c.as_slice-6.ensures.value c.in_ok-add_values-3.ensures.all;
    }
