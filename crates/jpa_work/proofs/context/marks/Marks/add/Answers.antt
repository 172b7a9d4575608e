use Rattle.std.proofs.Common.{◌∙◌, ap}
use Rattle.std.specs.Prelude.{◌==◌, ◌&&◌, ◌||◌, not}
use Rattle.jpa_work.specs.context.Marks.{Marks, is_listed}
use Rattle.jpa_work.proofs.context.Listed.{with_one}
use Rattle.jpa_work.proofs.context.marks.Marks.add.Goals as goal

pub returns-clause-added : goal.returns-clause-added
returns-clause-added c = record {
  all = ap (λ (k : Marks). k.all) c.self.view_is;
  linked = ap (λ (k : Marks). k.linked) c.self.view_is;
  objects = λ k. with_one c.args.object c.self.inside.objects c.insert.new.self c.in_ok-insert.ensures.updates k ∙ ap (λ (old : Marks). c.args.object == k || is_listed old.objects k) c.self.view_is;
}
