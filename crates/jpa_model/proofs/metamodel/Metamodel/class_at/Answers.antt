use Rattle.std.proofs.Common.{◌≡◌, length, ap, ◌∙◌, arith}
use Rattle.jpa_model.specs.Kept.{lineage_of, lineages_of}
use Rattle.jpa_model.proofs.Pushed.{length_mapped, mapped_at}
use Rattle.jpa_model.proofs.metamodel.Metamodel.class_at.Goals as goal

pub bounds-as_slice-class : goal.bounds-as_slice-class
bounds-as_slice-class c =
    let all : c.as_slice.result.now ≡ lineages_of c.args.self.now = c.as_slice.ensures ∙ c.self.invariant.indexed ∙ ap lineages_of c.self.view_is in
    omega (arith, length_mapped (lineage_of c.args.self.now) (length c.args.self.now.entities) c.as_slice.result.now all)

pub returns-clause-lineage : goal.returns-clause-lineage
returns-clause-lineage c =
    let all : c.as_slice.result.now ≡ lineages_of c.args.self.now = c.as_slice.ensures ∙ c.self.invariant.indexed ∙ ap lineages_of c.self.view_is in
    c.index-as_slice-class.is ∙ mapped_at (lineage_of c.args.self.now) (length c.args.self.now.entities) c.args.class c.index-as_slice-class.result c.as_slice.result.now all c.requires
