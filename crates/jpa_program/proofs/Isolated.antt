-- Each run over lines is isolated.
use Rattle.std.proofs.Common.{◌≡◌, ℕ, List, [], ◌∷◌, refl, ap, sym, subst, ◌∙◌}
use Rattle.std.specs.Prelude.{Result, Ok, Err}
use Rattle.jpa_value.specs.declared.refusal.Cause.{Cause}
use Rattle.jpa_behaviour.specs.Registered.{Meaning}
use Rattle.jpa_rows.specs.declared.rows.source.RowSource.{Ghosts}
use Rattle.jpa_open.specs.Moves.{Scene, Move, Rests, IsAllowed, AreAllowed, moved, after}
use Rattle.jpa_open.proofs.IsolatedMoves.{isolated}
use Rattle.jpa_protocol.specs.declared.call.Call.{Call}
use Rattle.jpa_protocol.specs.declared.reply.Reply.{Reply}
use Rattle.jpql_trees.specs.declared.tree.Language.{Language}
use Rattle.jpa_lines.specs.lines.CallOf.{meaning}
use Rattle.jpa_lines.specs.lines.Run.{AnswersTo, Runs}
use Rattle.jpa_machine.specs.machine.Isolated.{scene_of}
use Rattle.jpa_provider.specs.Provided.{Provided, Steps}
use Rattle.jpa_program.specs.Isolation.{MovesBy, RunsBy, IsIsolatedServing, IsolatesRuns}

module _ {R L C : Type 0} (language : Language) (meaning_of : Meaning L C) (store : Ghosts R) where
  -- a line moves, by a move that is allowed
  abbrev Moved : Provided R L C → Result Call Cause → Reply → Provided R L C → Type 0
  Moved old call reply new =
      (move : Move) × MovesBy meaning_of old call reply new move × IsAllowed (scene_of old.machine) move × (scene_of new.machine ≡ moved (scene_of old.machine) move)

  answered : (old : Provided R L C) (call : Result Call Cause) (reply : Reply) (new : Provided R L C) → AnswersTo (Steps meaning_of store) old call reply new → Moved old call reply new
  answered old (Ok call) reply new s = let m = s.moves in (m.0, m.1, (m.1).allowed, (m.1).makes)
  answered old (Err cause) reply new e = (Rests, (e.0, e.1, refl), tt, ap (λ (p : Provided R L C). scene_of p.machine) e.1)

  abbrev Ran : Provided R L C → List (List ℕ) → List Reply → Provided R L C → Type 0
  Ran old lines replies new =
      (moves : List Move) × RunsBy language meaning_of old lines replies moves new × AreAllowed (scene_of old.machine) moves × (scene_of new.machine ≡ after (scene_of old.machine) moves)

  runs_moves : (old : Provided R L C) (lines : List (List ℕ)) (replies : List Reply) (new : Provided R L C) → Runs language (Steps meaning_of store) old lines replies new → Ran old lines replies new
  runs_moves old [] [] new e = ([], e, tt, ap (λ (p : Provided R L C). scene_of p.machine) e)
  runs_moves old [] (reply ∷ replies) new h = absurd h
  runs_moves old (line ∷ lines) [] new h = absurd h
  runs_moves old (line ∷ lines) (reply ∷ replies) new h =
      let mid = h.0 in
      let one = answered old (meaning language line) reply mid h.1 in
      let rest = runs_moves mid lines replies new h.2 in
      let makes = one.3 in (
        one.0 ∷ rest.0,
        (mid, one.1, rest.1),
        (one.2, subst (λ (s : Scene). AreAllowed s rest.0) makes rest.2),
        rest.3 ∙ ap (λ s. after s rest.0) makes,
      )

pub isolates : {R L C : Type 0} (meaning_of : Meaning L C) (store : Ghosts R) (old : Provided R L C) → IsolatesRuns meaning_of store old
isolates meaning_of store old lines replies new run =
    let S = scene_of old.machine in
    let r = runs_moves (old.registry).language meaning_of store old lines replies new run in
    let law = isolated S in
    record { moves = r.0; run = r.1; allowed = r.2; ends = r.3; in_order = ap (λ (s : Scene). s.committed) r.3 ∙ law.in_order r.0; law = law }
