-- A run over states is one over what they stand for.
use Rattle.std.proofs.Common.{List, [], ◌∷◌, Option, Result, Ok, Err, OnOk, IfErr, ℕ, ap, sym, subst}
use Rattle.jpa_value.specs.declared.refusal.Cause.{Cause}
use Rattle.jpa_protocol.specs.declared.call.Call.{Call}
use Rattle.jpa_protocol.specs.declared.reply.Reply.{Reply}
use Rattle.jpa_lines.specs.declared.lines.run.RunFault.{RunFault}
use Rattle.jpql_trees.specs.declared.tree.Language.{Language}
use Rattle.jpa_lines.specs.lines.CallOf.{meaning}
use Rattle.jpa_lines.specs.lines.Run.{AnswersTo, Runs, Served, Broken, AnswersRead}

module _ {M N : Type 0} (language : Language) (f : M → N) (P : M → Type 0) (from : M → Call → Reply → M → Type 0) (to : N → Call → Reply → N → Type 0)
    (each : (old : M) (call : Call) (reply : Reply) (new : M) → from old call reply new → P old → to (f old) call reply (f new) × P new) where
  answered : (r : Result Call Cause) (old : M) (reply : Reply) (new : M) → AnswersTo from old r reply new → P old → AnswersTo to (f old) r reply (f new) × P new
  answered (Ok call) old reply new h p = each old call reply new h p
  answered (Err cause) old reply new h p = ((h.0, ap f h.1), subst P (sym h.1) p)

  runs : (lines : List (List ℕ)) (replies : List Reply) (old new : M) → Runs language from old lines replies new → P old → Runs language to (f old) lines replies (f new) × P new
  runs [] [] old new h p = (ap f h, subst P (sym h) p)
  runs [] (r ∷ replies) old new h p = absurd h
  runs (line ∷ lines) [] old new h p = absurd h
  runs (line ∷ lines) (r ∷ replies) old new h p =
      let a = answered (meaning language line) old r h.0 h.1 p in
      let rest = runs lines replies h.0 new h.2 a.1 in
      ((f h.0, a.0, rest.0), rest.1)

  pub served : (old new : M) (known before after : Option (List ℕ)) → Served language from old new known before after → P old → Served language to (f old) (f new) known before after
  served old new known before after h p =
      (h.0, h.1, record { replies = h.2.replies; run = (runs _ _ old new h.2.run p).0; written = h.2.written })

  pub broken : (old new : M) (fault : RunFault) (known before after : Option (List ℕ)) → Broken language from old new fault known before after → P old → Broken language to (f old) (f new) fault known before after
  broken old new fault known before after h p = (
    h.0,
    h.1,
    record {
      lines = h.2.lines;
      others = h.2.others;
      first = h.2.first;
      replies = h.2.replies;
      last = h.2.last;
      one = h.2.one;
      run = (runs _ _ old new h.2.run p).0;
      part = h.2.part;
      begun = h.2.begun;
      left = h.2.left;
      written = h.2.written;
    },
  )

  pub answers_read : (old new : M) (fault : RunFault) (known left before after : Option (List ℕ)) → AnswersRead language from old new fault known left before after → P old
      → AnswersRead language to (f old) (f new) fault known left before after
  answers_read old new RunFault.Read known left before after h p = (
    h.0,
    h.1,
    record {
      lines = h.2.lines;
      current = h.2.current;
      read = h.2.read;
      unbroken = h.2.unbroken;
      replies = h.2.replies;
      run = (runs _ _ old new h.2.run p).0;
      written = h.2.written;
    },
  )
  answers_read old new RunFault.Write known left before after h p = h
  answers_read old new RunFault.Memory known left before after h p = h

  -- however the run ended
  pub kept : (old new : M) (known before after : Option (List ℕ)) (r : Result (Unit {0}) RunFault)
      → OnOk r (Served language from old new known before after) → IfErr r (λ fault. Broken language from old new fault known before after) → P old → P new
  kept old new known before after (Ok u) ok err p = (runs _ _ old new ok.2.run p).1
  kept old new known before after (Err fault) ok err p = (runs _ _ old new err.2.run p).1
