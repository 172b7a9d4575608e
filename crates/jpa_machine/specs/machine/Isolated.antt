-- What the law of isolation sees of a machine, and which move each step is.
use Rattle.std.specs.Prelude.{◌≡◌, ◌≢◌, ℕ, Bool, true, false, ◌&&◌, length, map, Option, Some, None}
use Rattle.std.specs.Prelude.{Result, Ok, Err}
use Rattle.jpa_value.specs.declared.refusal.Refusal.{Refusal}
use Rattle.jpa_behaviour.specs.Behaviour.{World}
use Rattle.jpa_work.specs.heap.Objects.{place_of}
use Rattle.jpa_work.specs.context.Work.{Work}
use Rattle.jpa_work.specs.context.Steps.{Done}
use Rattle.jpa_flush.specs.flush.Flush.{flush}
use Rattle.jpa_protocol.specs.declared.call.Call.{Call}
use Rattle.jpa_protocol.specs.declared.reply.Answer.{Answer}
use Rattle.jpa_protocol.specs.declared.reply.Reply.{Reply}
use Rattle.jpa_open.specs.Moves.{Scene, Snapshot, Move, Creates, Begins, Works, Ends, Commits, Restarts, Rests}
use Rattle.jpa_open.specs.Moves.{IsAllowed, moved, is_apart}
use Rattle.jpa_machine.specs.machine.Machine.{Machine, Manager, Transaction, work_of}
use Rattle.jpa_machine.specs.machine.Transactions.{locked_ids}
use Rattle.jpa_machine.specs.machine.Routes.{Route, OfManager, ToQuery, ToUpdate, InTransaction, OfObject, ToCreate}
use Rattle.jpa_machine.specs.machine.Routes.{ToMake}
use Rattle.jpa_machine.specs.machine.Routes.{ToBegin, ToCommit, ToRollBack, ToMark, ToAsk, ToClear, ToSetMode, ToClose}
use Rattle.jpa_machine.specs.machine.Routes.{ToRead, ToRestart, route, commits}

-- ---- of a machine

-- the sets of a transaction, if one is open
abbrev pub snapshot_of : Option Transaction → Option Snapshot
snapshot_of None = None
snapshot_of (Some t) = Some (record { begun = t.begun; view = t.view })

-- the sets of a manager's transaction, if one is open
abbrev pub snapshot_in : Manager → Option Snapshot
snapshot_in x = snapshot_of x.transaction

-- the committed set, and the sets of each open transaction
abbrev pub scene_of : Machine → Scene
scene_of M = record { committed = M.committed; transactions = map snapshot_in M.managers }

-- ---- of a call

-- the manager that it names, if it names one
abbrev pub named_in : Machine → Route → Option ℕ
named_in M (OfManager em op) = place_of (length M.managers) em
named_in M (ToQuery em op) = place_of (length M.managers) em
named_in M (ToUpdate em op) = place_of (length M.managers) em
named_in M (InTransaction em given op) = place_of (length M.managers) em
named_in M (OfObject number op) = None
named_in M ToCreate = None
named_in M (ToMake name) = None
named_in M (ToBegin em) = place_of (length M.managers) em
named_in M (ToCommit em) = place_of (length M.managers) em
named_in M (ToRollBack em) = place_of (length M.managers) em
named_in M (ToMark em) = place_of (length M.managers) em
named_in M (ToAsk em question) = place_of (length M.managers) em
named_in M (ToClear em) = place_of (length M.managers) em
named_in M (ToSetMode em mode) = place_of (length M.managers) em
named_in M (ToClose em) = place_of (length M.managers) em
named_in M (ToRead question) = None
named_in M ToRestart = None

-- whether a call was accepted
abbrev pub is_ok : Result Answer Refusal → Bool
is_ok (Ok a) = true
is_ok (Err r) = false

-- ---- of a move

-- whether a move is a commit
abbrev pub is_commit_move : Move → Bool
is_commit_move Creates = false
is_commit_move (Begins m) = false
is_commit_move (Works m set) = false
is_commit_move (Ends m) = false
is_commit_move (Commits m set reads) = true
is_commit_move Restarts = false
is_commit_move Rests = false

-- what a commit takes is what its flush made, and what was locked READ then
abbrev pub IsFlushed : World → Machine → Move → Type 0
IsFlushed world M (Commits m set reads) =
    (w : Work) × (flush world (work_of M m) ≡ Done tt w) × (set ≡ w.view) × (reads ≡ locked_ids world.model w)
IsFlushed world M Creates = Unit {0}
IsFlushed world M (Begins m) = Unit {0}
IsFlushed world M (Works m set) = Unit {0}
IsFlushed world M (Ends m) = Unit {0}
IsFlushed world M Restarts = Unit {0}
IsFlushed world M Rests = Unit {0}

-- a step is a move that is allowed: a commit exactly where the call is one that is accepted, and
-- one of the manager that the call names, or of none
pub record IsMoveAlong (world : World) (M : Machine) (r : Route) (reply : Reply) (N : Machine)
    (move : Move) : Type 0 where
  pub allowed : IsAllowed (scene_of M) move
  pub makes : scene_of N ≡ moved (scene_of M) move
  pub acknowledged : is_commit_move move ≡ (commits r && is_ok reply.answer)
  pub flushed : IsFlushed world M move
  pub apart : (m : ℕ) → named_in M r ≢ Some m → is_apart m move

-- the step of a call is this move
abbrev pub IsMove : World → Machine → Call → Reply → Machine → Move → Type 0
IsMove world M call reply N move = IsMoveAlong world M (route call) reply N move

-- a step is some move that is allowed: a commit exactly where the call is a commit that was
-- accepted, so none where it gave up
abbrev pub IsSomeMove : World → Machine → Call → Reply → Machine → Type 0
IsSomeMove world M call reply N = (move : Move) × IsMove world M call reply N move
