use Rattle.std.proofs.Common.{◌≡◌, ◌∙◌, ◌<◌, ap, sym, subst, length, Some, false}
use Rattle.std.specs.Prelude.{nat_lt}
use Rattle.jpa_model.specs.Chains.{root_of}
use Rattle.jpa_questions.specs.by_key.Own.{all_below}
use Rattle.jpa_questions.specs.by_key.ByKey.{is_keyed}
use Rattle.jpa_questions.proofs.by_key.Below.{fails_below, none_unless}
use Rattle.jpa_questions.proofs.by_key.key.keyed_table.Goals as goal

pub returns-then-not-is_keyed : goal.returns-then-not-is_keyed
returns-then-not-is_keyed c =
    let m = c.args.metamodel.now in
    let class = c.args.class in
    let kind = c.loop-kind.kind in
    let table = (root_of m class).table in
    let fails : is_keyed m class table kind ≡ false = ap (λ root. is_keyed m class root.table kind) (sym c.root_of.ensures) ∙ sym c.is_keyed.ensures ∙ c.if-not-is_keyed.true in
    none_unless (nat_lt class (length m.entities)) (all_below (is_keyed m class table) (length m.entities)) (Some table)
    (fails_below (is_keyed m class table) (length m.entities) kind (subst (λ n. kind < n) (ap length c.entities-kinds.ensures) c.loop-kind-test.true) fails)
