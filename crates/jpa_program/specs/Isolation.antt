-- That a run is isolated: its lines are moves of which the law of isolation holds (Jakarta Persistence
-- 3.1, chapters 3.4.2 and 7.5).
use Rattle.std.specs.Prelude.{◌≡◌, ℕ, List, [], ◌∷◌, Result, Ok, Err}
use Rattle.jpa_value.specs.declared.refusal.Cause.{Cause}
use Rattle.jpa_behaviour.specs.Registered.{Meaning}
use Rattle.jpa_rows.specs.declared.rows.source.RowSource.{Ghosts}
use Rattle.jpa_open.specs.Differences.{set_after}
use Rattle.jpa_open.specs.Moves.{Move, Rests, AreAllowed, after, history, IsIsolated}
use Rattle.jpa_protocol.specs.declared.call.Call.{Call}
use Rattle.jpa_protocol.specs.declared.reply.Reply.{Reply}
use Rattle.jpql_trees.specs.declared.tree.Language.{Language}
use Rattle.jpa_lines.specs.lines.CallOf.{meaning}
use Rattle.jpa_lines.specs.lines.Run.{refused, Runs}
use Rattle.jpa_machine.specs.machine.Isolated.{scene_of, IsMove}
use Rattle.jpa_provider.specs.Provided.{Provided, Steps, world_in}

-- the move of a line: that of its call's step; a line that is no call is refused, and moves nothing
abbrev pub MovesBy : {R L C : Type 0} → Meaning L C → Provided R L C → Result Call Cause → Reply → Provided R L C →
    Move → Type 0
MovesBy meaning_of old (Ok call) reply new move =
    IsMove (world_in meaning_of old) old.machine call reply new.machine move
MovesBy meaning_of old (Err cause) reply new move = (reply ≡ refused cause) × (new ≡ old) × (move ≡ Rests)

-- each line of the run, read in a language, is such a move
abbrev pub RunsBy : {R L C : Type 0} → Language → Meaning L C → Provided R L C → List (List ℕ) → List Reply →
    List Move → Provided R L C → Type 0
RunsBy language meaning_of old [] [] [] new = new ≡ old
RunsBy {R} {L} {C} language meaning_of old (line ∷ lines) (reply ∷ replies) (move ∷ moves) new =
    (mid : Provided R L C) × MovesBy meaning_of old (meaning language line) reply mid move
    × RunsBy language meaning_of mid lines replies moves new
RunsBy language meaning_of old [] [] (move ∷ moves) new = ⊥
RunsBy language meaning_of old [] (reply ∷ replies) moves new = ⊥
RunsBy language meaning_of old (line ∷ lines) [] moves new = ⊥
RunsBy language meaning_of old (line ∷ lines) (reply ∷ replies) [] new = ⊥

-- the lines are moves that were allowed. What is committed then is what was committed at first, with
-- what the accepted commits changed, in their order. Of these moves the law of isolation holds
pub record IsIsolatedServing {R L C : Type 0} (meaning_of : Meaning L C) (old : Provided R L C) (lines : List (List ℕ))
    (replies : List Reply) (new : Provided R L C) : Type 0 where
  pub moves : List Move
  pub run : RunsBy (old.registry).language meaning_of old lines replies moves new
  pub allowed : AreAllowed (scene_of old.machine) moves
  pub ends : scene_of new.machine ≡ after (scene_of old.machine) moves
  pub in_order : (new.machine).committed ≡ set_after (history (scene_of old.machine) moves) (old.machine).committed
  pub law : IsIsolated (scene_of old.machine)

-- each run from here over lines of the provider's language is isolated
abbrev pub IsolatesRuns : {R L C : Type 0} → Meaning L C → Ghosts R → Provided R L C → Type 0
IsolatesRuns {R} {L} {C} meaning_of store old =
    (lines : List (List ℕ)) (replies : List Reply) (new : Provided R L C) →
    Runs (old.registry).language (Steps meaning_of store) old lines replies new →
    IsIsolatedServing meaning_of old lines replies new
