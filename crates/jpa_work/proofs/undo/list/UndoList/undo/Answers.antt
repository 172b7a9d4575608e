use Rattle.std.proofs.Common.{◌∙◌, ap, sym, take, arith}
use Rattle.std.proofs.lemmas.List.{length-set}
use Rattle.jpa_work.specs.undo.Undo.{put_back}
use Rattle.jpa_work.proofs.undo.Undo.{undone, slice_set_past}
use Rattle.jpa_work.proofs.undo.list.UndoList.undo.Goals as goal

pub loop-at-preserved-then-at-len : goal.loop-at-preserved-then-at-len
loop-at-preserved-then-at-len g c = record {
  since = undone _ _ _ _ _ _ c.in-Some.ensures.items ∙ c.loop-at.invariant.since;
  within = rw length-set c.loop-at.invariant.within;
}

-- what stands behind the list now was cut off with it
pub loop-at-preserved : goal.loop-at-preserved
loop-at-preserved g c = record {
  since =
      let past = slice_set_past c.loop-at.self-inside.items.items c.in-Some.at c.in-Some.old (omega arith) in
      ap (λ xs. take c.loop-at.self-inside.kept (put_back xs c.pop.new.self.items)) (sym past) ∙ undone _ _ _ _ _ _ c.in-Some.ensures.items ∙ c.loop-at.invariant.since;
  within = c.loop-at.invariant.within;
}
