use Rattle.std.proofs.Common.{◌∙◌, ap}
use Rattle.std.specs.Prelude.{◌==◌, ◌&&◌, ◌||◌, not}
use Rattle.jpa_work.specs.context.Marks.{Marks, is_listed}
use Rattle.jpa_work.proofs.context.Listed.{without_one}
use Rattle.jpa_work.proofs.context.marks.Marks.remove.Goals as goal

pub returns : goal.returns
returns c = record {
  all = ap (λ (k : Marks). k.all) c.self.view_is;
  linked = ap (λ (k : Marks). k.linked) c.self.view_is;
  objects = λ k. without_one c.args.object c.self.inside.objects c.remove.new.self c.remove.ensures.updates k ∙ ap (λ (old : Marks). not (c.args.object == k) && is_listed old.objects k) c.self.view_is;
}
