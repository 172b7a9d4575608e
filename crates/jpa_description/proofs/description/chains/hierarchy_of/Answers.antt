use Rattle.std.proofs.Common.{◌≡◌, ◌<◌, ℕ, length, sym, ap, ◌∙◌, arith, rules, subst}
use Rattle.std.specs.Prelude.{◌==◌, All}
use Rattle.jpa_model.specs.Drafted.{chain, first_of}
use Rattle.std.proofs.lemmas.List.Elements.{All-push}
use Rattle.jpa_model.proofs.Chained.{filter_takes, filter_leaves}
use Rattle.jpa_description.proofs.description.chains.hierarchy_of.Goals.{then-first_of-root+in_ok-push, else-first_of-root}
use Rattle.jpa_description.proofs.description.chains.hierarchy_of.Goals as goal

pub loop-class-preserved : goal.loop-class-preserved
loop-class-preserved c =
    let k = c.loop-class.class in
    let p = λ (class : ℕ). first_of (chain c.args.draft.now class) == c.args.root in
    let own : first_of (chain c.args.draft.now k) ≡ c.first_of.result = ap first_of (sym c.chain_at.ensures) ∙ sym c.first_of.ensures in
    elim c.if-first_of-root.branch [
      | then-first_of-root+in_ok-push w ↦
          record {
            found = w.members-is ∙ w.in_ok-push.ensures.ok ∙ filter_takes p k c.loop-class.members (ap (λ n. n == c.args.root) own ∙ search rules) c.loop-class.invariant.found;
            within = subst (All (λ class. class < length c.args.draft.now.entities)) (sym (w.members-is ∙ w.in_ok-push.ensures.ok)) (All-push (λ class. class < length c.args.draft.now.entities) c.loop-class.members k c.loop-class.invariant.within (omega arith));
          }
      | else-first_of-root w ↦
          record {
            found = w.members-is ∙ filter_leaves p k c.loop-class.members (ap (λ n. n == c.args.root) own ∙ search rules) c.loop-class.invariant.found;
            within = subst (All (λ class. class < length c.args.draft.now.entities)) (sym w.members-is) c.loop-class.invariant.within;
          }
    ]
