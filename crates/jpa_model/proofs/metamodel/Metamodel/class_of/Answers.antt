use Rattle.std.proofs.Common.{◌≡◌, ◌<◌, length, subst, sym, rules, zero-add}
use Rattle.std.specs.Prelude.{IfSome}
use Rattle.jpa_model.specs.Chains.{class_of, same_name}
use Rattle.jpa_model.specs.declared.unit.Entity.{Entity}
use Rattle.jpa_model.proofs.Found.{position_from-within}
use Rattle.jpa_model.proofs.metamodel.Metamodel.class_of.Goals as goal

pub returns-clause-within : goal.returns-clause-within
returns-clause-within c =
    let m = c.args.self.now in
    let found : c.copied.result ≡ class_of m c.args.name.now = search rules in
    let within : IfSome (class_of m c.args.name.now) (λ k. k < length m.entities) =
    subst (λ n. IfSome (class_of m c.args.name.now) (λ k. k < n)) (zero-add (length m.entities)) (position_from-within (λ (e : Entity). same_name e.name c.args.name.now) 0 m.entities) in
    subst (λ o. IfSome o (λ k. k < length m.entities)) (sym found) within
