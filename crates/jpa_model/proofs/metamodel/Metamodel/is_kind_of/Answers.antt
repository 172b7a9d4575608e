use Rattle.std.proofs.Common.{◌≡◌, false, length, ap, ◌∙◌, arith}
use Rattle.std.specs.Prelude.{◌==◌}
use Rattle.std.specs.List.{list_any}
use Rattle.jpa_model.specs.Chains.{chain}
use Rattle.jpa_model.specs.Kept.{kinds_of}
use Rattle.jpa_model.specs.declared.lineage.Lineage.{Lineage}
use Rattle.jpa_model.proofs.Pushed.{length_mapped, mapped_at}
use Rattle.jpa_model.proofs.metamodel.Metamodel.is_kind_of.Goals as goal

pub bounds-kinds-above : goal.bounds-kinds-above
bounds-kinds-above c =
    let all : c.kinds.result.now ≡ kinds_of c.args.self.now (chain c.args.self.now c.args.class) = c.kinds.ensures ∙ ap (λ (l : Lineage). l.kinds) c.class_at.ensures.lineage in
    omega (arith, length_mapped (λ above. list_any (λ k. k == above) (chain c.args.self.now c.args.class)) (length c.args.self.now.entities) c.kinds.result.now all)

pub returns : goal.returns
returns c =
    let all : c.kinds.result.now ≡ kinds_of c.args.self.now (chain c.args.self.now c.args.class) = c.kinds.ensures ∙ ap (λ (l : Lineage). l.kinds) c.class_at.ensures.lineage in
    mapped_at (λ above. list_any (λ k. k == above) (chain c.args.self.now c.args.class)) (length c.args.self.now.entities) c.args.above false c.kinds.result.now all c.requires.above
