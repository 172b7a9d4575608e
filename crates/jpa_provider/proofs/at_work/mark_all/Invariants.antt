use Rattle.std.proofs.Common.{◌≡◌, ◌<◌, ℕ, length}
use Rattle.jpa_work.specs.context.Marks.{all_marked}
use Rattle.jpa_provider.specs.Serving.{machine_of, marks_in, IsSettled}
use Rattle.jpa_provider.proofs.at_work.mark_all.Given as goal

abbrev pub invariant-loop-manager : goal.invariant-loop-manager
invariant-loop-manager l = record {
  machine : machine_of l.session ≡ machine_of l.initial.session;
  settled : IsSettled l.initial.session → IsSettled l.session;
  count : length (l.session).managers.items ≡ length (l.initial.session).managers.items;
  whole : (k : ℕ) → k < l.manager → marks_in l.session k ≡ all_marked;
}
