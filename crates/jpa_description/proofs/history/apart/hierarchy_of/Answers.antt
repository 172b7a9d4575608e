use Rattle.std.proofs.Common.{◌≡◌, ◌<◌, ℕ, length, sym, ap, ◌∙◌, arith, rules, subst}
use Rattle.std.specs.Prelude.{◌==◌, All}
use Rattle.jpa_model.specs.Chains.{root_class}
use Rattle.std.proofs.lemmas.List.Elements.{All-push}
use Rattle.jpa_model.proofs.Chained.{filter_takes, filter_leaves}
use Rattle.jpa_description.proofs.history.apart.hierarchy_of.Goals.{then-root_class-root+in_ok-push, else-root_class-root}
use Rattle.jpa_description.proofs.history.apart.hierarchy_of.Goals as goal

pub loop-class-preserved : goal.loop-class-preserved
loop-class-preserved c =
    let k = c.loop-class.class in
    let m = c.args.metamodel.now in
    let p = λ (class : ℕ). root_class m class == c.args.root in
    let P = λ (class : ℕ). class < length m.entities in
    let own : root_class m k ≡ c.root_class.result = sym c.root_class.ensures in
    elim c.if-root_class-root.branch [
      | then-root_class-root+in_ok-push w ↦
          record {
            found = w.places-is ∙ w.in_ok-push.ensures.ok ∙ filter_takes p k c.loop-class.places (ap (λ n. n == c.args.root) own ∙ search rules) c.loop-class.invariant.found;
            within = subst (All P) (sym (w.places-is ∙ w.in_ok-push.ensures.ok)) (All-push P c.loop-class.places k c.loop-class.invariant.within (omega (arith, ap length c.entities-class-end.ensures)));
          }
      | else-root_class-root w ↦
          record {
            found = w.places-is ∙ filter_leaves p k c.loop-class.places (ap (λ n. n == c.args.root) own ∙ search rules) c.loop-class.invariant.found;
            within = subst (All P) (sym w.places-is) c.loop-class.invariant.within;
          }
    ]
