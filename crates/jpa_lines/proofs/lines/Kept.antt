-- What each step keeps, a run keeps.
use Rattle.std.proofs.Common.{List, [], ◌∷◌, Option, Result, Ok, Err, OnOk, IfErr, ℕ, sym, subst}
use Rattle.jpa_value.specs.declared.refusal.Cause.{Cause}
use Rattle.jpa_protocol.specs.declared.call.Call.{Call}
use Rattle.jpql_trees.specs.declared.tree.Language.{Language}
use Rattle.jpa_protocol.specs.declared.reply.Reply.{Reply}
use Rattle.jpa_lines.specs.declared.lines.run.RunFault.{RunFault}
use Rattle.jpa_lines.specs.lines.CallOf.{meaning}
use Rattle.jpa_lines.specs.lines.Run.{AnswersTo, Runs, Served, Broken}

-- each call that is served keeps P
abbrev pub EachKeeps : {M : Type 0} → (M → Call → Reply → M → Type 0) → (M → Type 0) → Type 0
EachKeeps {M = M} steps P = (old : M) (call : Call) (reply : Reply) (new : M) → steps old call reply new → P old → P new

answer_keeps : {M : Type 0} (steps : M → Call → Reply → M → Type 0) (P : M → Type 0) → EachKeeps steps P → (r : Result Call Cause) (old : M) (reply : Reply) (new : M) → AnswersTo steps old r reply new → P old → P new
answer_keeps steps P each (Ok call) old reply new h p = each old call reply new h p
answer_keeps steps P each (Err cause) old reply new h p = subst P (sym h.1) p

pub runs_keep : {M : Type 0} (language : Language) (steps : M → Call → Reply → M → Type 0) (P : M → Type 0) → EachKeeps steps P → (lines : List (List ℕ)) (replies : List Reply) (old new : M) → Runs language steps old lines replies new → P old → P new
runs_keep language steps P each [] [] old new h p = subst P (sym h) p
runs_keep language steps P each [] (r ∷ replies) old new h p = absurd h
runs_keep language steps P each (line ∷ lines) [] old new h p = absurd h
runs_keep language steps P each (line ∷ lines) (r ∷ replies) old new h p = runs_keep language steps P each lines replies h.0 new h.2 (answer_keeps steps P each (meaning language line) old r h.0 h.1 p)

served_keeps : {M : Type 0} (language : Language) (steps : M → Call → Reply → M → Type 0) (P : M → Type 0) → EachKeeps steps P → (old new : M) (known before after : Option (List ℕ)) → Served language steps old new known before after → P old → P new
served_keeps language steps P each old new known before after h p = runs_keep language steps P each _ _ old new h.2.run p

broken_keeps : {M : Type 0} (language : Language) (steps : M → Call → Reply → M → Type 0) (P : M → Type 0) → EachKeeps steps P → (old new : M) (fault : RunFault) (known before after : Option (List ℕ)) → Broken language steps old new fault known before after → P old → P new
broken_keeps language steps P each old new fault known before after h p = runs_keep language steps P each _ _ old new h.2.run p

-- however the run ended
pub run_keeps : {M : Type 0} (language : Language) (steps : M → Call → Reply → M → Type 0) (P : M → Type 0) → EachKeeps steps P → (old new : M) (known before after : Option (List ℕ)) (r : Result (Unit {0}) RunFault)
    → OnOk r (Served language steps old new known before after) → IfErr r (λ fault. Broken language steps old new fault known before after) → P old → P new
run_keeps language steps P each old new known before after (Ok u) ok err p = served_keeps language steps P each old new known before after ok p
run_keeps language steps P each old new known before after (Err fault) ok err p = broken_keeps language steps P each old new fault known before after err p
