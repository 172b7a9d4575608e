use Rattle.std.proofs.Common.{◌≡◌, ◌⊎◌, ◌∙◌, inl, inr, ap, sym, true, false, Result, Err}
use Rattle.jpa.proofs.Held.{holds_unit, servable, unservable}
use Rattle.jpa.proofs.serve.Goals as goal

-- one answer, one cause
one_error : {A E : Type 0} (answer : Result A E) (said told : E) → answer ≡ Err said → answer ≡ Err told → said ≡ told
one_error answer said told is also = cc

same_cause : {A B C : Type 0} (answer : Result A (B × C)) (cause function : B) (left handed : C) → answer ≡ Err (cause, left) → answer ≡ Err (function, handed) → cause ≡ function
same_cause answer cause function left handed is told = ap (λ p. p.0) (one_error answer (cause, left) (function, handed) is told)

either_cause : {A B C : Type 0} (answer : Result A (B × C)) (cause function memory : B) (left handed : C) → answer ≡ Err (cause, left) → (answer ≡ Err (function, handed)) ⊎ (answer ≡ Err (memory, handed)) → (cause ≡ function) ⊎ (cause ≡ memory)
either_cause answer cause function memory left handed is (inl told) = inl (same_cause answer cause function left handed is told)
either_cause answer cause function memory left handed is (inr told) = inr (same_cause answer cause memory left handed is told)

true_false : true ≡ false → ⊥
true_false e = cc

pub returns-in-Err-clause-unservable : goal.returns-in-Err-clause-unservable
returns-in-Err-clause-unservable g c fails =
    either_cause c.open.result c.in-Err.cause _ _ c.in-Err.refused c.args.conn c.in-Err.is (unservable c.open.result _ _ c.args.unit c.args.history.now c.open.ensures.unknown c.open.ensures.thrown fails)

pub returns-clause-unservable : goal.returns-clause-unservable
returns-clause-unservable g c fails = true_false (sym (servable c.open.result _ _ c.args.unit c.args.history.now c.open.ensures.unknown c.open.ensures.thrown c.in-Ok.provider c.in-Ok.is) ∙ fails)

pub returns-clause-served : goal.returns-clause-served
returns-clause-served g c = servable c.open.result _ _ c.args.unit c.args.history.now c.open.ensures.unknown c.open.ensures.thrown c.in-Ok.provider c.in-Ok.is

pub returns-clause-cells : goal.returns-clause-cells
returns-clause-cells g c =
    let handed = c.into_connection-2.ensures.same ∙ ap (λ r. (r.store).conn) (c.into_connection.view_is ∙ c.into_rows.ensures) in
    holds_unit g.S.Store c.args.unit _ _ _ _ _ _ (c.run.ensures.unit.model ∙ c.in-Ok.ensures.provider.model) (c.run.ensures.unit.registry ∙ c.in-Ok.ensures.provider.registry) handed c.run.ensures.cells
