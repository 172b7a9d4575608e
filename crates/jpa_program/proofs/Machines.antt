-- A run of a provider is one of its machine, in the world of its unit and what is registered.
use Rattle.std.proofs.Common.{◌≡◌, List, Option, Result, Ok, Err, OnOk, IfErr, ℕ, refl, subst, ◌∙◌}
use Rattle.jpa_model.specs.declared.unit.PersistenceUnit.{PersistenceUnit}
use Rattle.jpa_behaviour.specs.Registered.{Registered, Meaning, world_of}
use Rattle.jpa_rows.specs.declared.rows.source.RowSource.{Ghosts}
use Rattle.jpa_protocol.specs.declared.call.Call.{Call}
use Rattle.jpa_protocol.specs.declared.reply.Reply.{Reply}
use Rattle.jpql_trees.specs.declared.tree.Language.{Language}
use Rattle.jpa_lines.specs.declared.lines.run.RunFault.{RunFault}
use Rattle.jpa_lines.specs.lines.Run.{Served, Broken, AnswersRead}
use Rattle.jpa_provider.specs.Provided.{Provided, Steps, world_in}
use Rattle.jpa_machine.specs.machine.Step.{Step}
use Rattle.jpa_program.specs.Run.{EndsAs, ServesSame}
use Rattle.jpa_program.proofs.Mapped as mapped

module _ {R L C : Type 0} (language : Language) (meaning : Meaning L C) (store : Ghosts R) where
  itself : (p : Provided R L C) → ServesSame p p
  itself p = record { model = refl; registry = refl }

  stepped : (first old : Provided R L C) (call : Call) (reply : Reply) (new : Provided R L C) → Steps meaning store old call reply new → ServesSame first old
      → Step (world_in meaning first) old.machine call reply new.machine × ServesSame first new
  stepped first old call reply new s e = (
    subst (λ (r : Registered L C). Step (world_of meaning first.model r) old.machine call reply new.machine) e.registry
        (subst (λ (m : PersistenceUnit). Step (world_of meaning m old.registry) old.machine call reply new.machine) e.model s.step),
    record { model = s.model ∙ e.model; registry = s.registry ∙ e.registry },
  )

  module _ (old new : Provided R L C) (known before after : Option (List ℕ)) where
    served : Served language (Steps meaning store) old new known before after → Served language (Step (world_in meaning old)) old.machine new.machine known before after
    served h = mapped.served language (λ p. p.machine) (ServesSame old) (Steps meaning store) (Step (world_in meaning old)) (stepped old) old new known before after h (itself old)

    broken : (fault : RunFault) → Broken language (Steps meaning store) old new fault known before after → Broken language (Step (world_in meaning old)) old.machine new.machine fault known before after
    broken fault h = mapped.broken language (λ p. p.machine) (ServesSame old) (Steps meaning store) (Step (world_in meaning old)) (stepped old) old new fault known before after h (itself old)

    answers_read : (fault : RunFault) (left : Option (List ℕ)) → AnswersRead language (Steps meaning store) old new fault known left before after
        → AnswersRead language (Step (world_in meaning old)) old.machine new.machine fault known left before after
    answers_read fault left h =
        mapped.answers_read language (λ p. p.machine) (ServesSame old) (Steps meaning store) (Step (world_in meaning old)) (stepped old) old new fault known left before after h (itself old)

    -- however the run ended
    ended_ok : (r : Result (Unit {0}) RunFault) → OnOk r (Served language (Steps meaning store) old new known before after) → OnOk r (Served language (Step (world_in meaning old)) old.machine new.machine known before after)
    ended_ok (Ok u) h = served h
    ended_ok (Err fault) h = h

    ended_err : (r : Result (Unit {0}) RunFault) → IfErr r (λ fault. Broken language (Steps meaning store) old new fault known before after)
        → IfErr r (λ fault. Broken language (Step (world_in meaning old)) old.machine new.machine fault known before after)
    ended_err (Ok u) h = h
    ended_err (Err fault) h = broken fault h

    ended_read : (left : Option (List ℕ)) (r : Result (Unit {0}) RunFault) → IfErr r (λ fault. AnswersRead language (Steps meaning store) old new fault known left before after)
        → IfErr r (λ fault. AnswersRead language (Step (world_in meaning old)) old.machine new.machine fault known left before after)
    ended_read left (Ok u) h = h
    ended_read left (Err fault) h = answers_read fault left h

    pub ended : (r : Result (Unit {0}) RunFault) (left : Option (List ℕ)) → EndsAs language (Steps meaning store) old new r known left before after
        → EndsAs language (Step (world_in meaning old)) old.machine new.machine r known left before after
    ended r left h = record { ok = ended_ok r h.ok; err = ended_err r h.err; read = ended_read left r h.read }

    pub same_unit : (r : Result (Unit {0}) RunFault) (left : Option (List ℕ)) → EndsAs language (Steps meaning store) old new r known left before after → ServesSame old new
    same_unit r left h = mapped.kept language (λ p. p.machine) (ServesSame old) (Steps meaning store) (Step (world_in meaning old)) (stepped old) old new known before after r h.ok h.err (itself old)
