use Rattle.std.proofs.Common.{◌∙◌, sym}
use Rattle.jpa_work.specs.context.Undo.{now}
use Rattle.jpa_merge.proofs.Found.{found_there}
use Rattle.jpa_merge.proofs.replacing.replaced.Goals as goal

pub returns-in-Some-clause-within : goal.returns-in-Some-clause-within
returns-in-Some-clause-within g c = found_there (now c.args.work.now) c.args.images.now c.args.target c.in-Some.image c.requires.imaged (sym c.get.ensures ∙ c.in-Some.is)
