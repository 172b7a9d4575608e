-- Lines, and what a run over them writes.
use Rattle.std.specs.Prelude.{◌≡◌, ◌==◌, ◌≤◌, ℕ, List, [], ◌∷◌, ◌++◌, length, take, if◌then◌else◌, Option, Some, None}
use Rattle.std.specs.Prelude.{Result, Ok, Err, IfSome, ◌⊎◌, false, ⊤}
use Rattle.std.specs.Io.{StartsWith}
use Rattle.std.specs.Io.KnownBytes.{Appends, Consumes, Keeps}
use Rattle.std.specs.List.{flat_map}
use Rattle.jpa_protocol.specs.declared.call.Call.{Call}
use Rattle.jpql_trees.specs.declared.tree.Language.{Language}
use Rattle.jpa_value.specs.declared.refusal.Cause.{Cause}
use Rattle.jpa_protocol.specs.declared.reply.Reply.{Reply}
use Rattle.jpa_value.specs.declared.refusal.Refusal.TheVariants.{Because}
use Rattle.jpa_lines.specs.declared.lines.run.RunFault.{RunFault}
use Rattle.jpa_lines.specs.lines.CallOf.{meaning}
use Rattle.jpa_lines.specs.lines.ReplyText.{reply_text}

-- a byte before the first line
abbrev pub onto_first : ℕ → List (List ℕ) → List (List ℕ)
onto_first x [] = (x ∷ []) ∷ []
onto_first x (line ∷ lines) = (x ∷ line) ∷ lines

-- the lines of an input: a line feed ends each, and a last one that isn't empty may go without
abbrev pub lines_of : List ℕ → List (List ℕ)
lines_of [] = []
lines_of (x ∷ xs) = if x == 10 then [] ∷ lines_of xs else onto_first x (lines_of xs)

-- the reply to a line that is no call
abbrev pub refused : Cause → Reply
refused cause = record { events = []; answer = Err (Because cause) }

-- a call is a step of what serves calls, and the refusal of a line is told and changes nothing
abbrev pub AnswersTo : {M : Type 0} → (M → Call → Reply → M → Type 0) → M → Result Call Cause → Reply → M → Type 0
AnswersTo steps old (Ok call) reply new = steps old call reply new
AnswersTo steps old (Err cause) reply new = (reply ≡ refused cause) × (new ≡ old)

-- from old the line of the language may be answered by the reply, and new be the state afterwards
abbrev pub Answers : {M : Type 0} → Language → (M → Call → Reply → M → Type 0) → M → List ℕ → Reply → M → Type 0
Answers language steps old line reply new = AnswersTo steps old (meaning language line) reply new

-- the same over lines, one after another
abbrev pub Runs : {M : Type 0} → Language → (M → Call → Reply → M → Type 0) → M → List (List ℕ) → List Reply → M →
    Type 0
Runs language steps old [] [] new = new ≡ old
Runs {M = M} language steps old (line ∷ lines) (reply ∷ replies) new =
    (mid : M) × Answers language steps old line reply mid × Runs language steps mid lines replies new
Runs language steps old [] (reply ∷ replies) new = ⊥
Runs language steps old (line ∷ lines) [] new = ⊥

-- the bytes of replies, one after the other
abbrev pub texts_of : List Reply → List ℕ
texts_of = flat_map reply_text

-- the input, where it is known
abbrev pub IsInput : Option (List ℕ) → List ℕ → Type 0
IsInput known input = IfSome known (λ xs. xs ≡ input)

-- the input's lines are answered, and the replies written
pub record Serves {M : Type 0} (language : Language) (steps : M → Call → Reply → M → Type 0) (old new : M)
    (input : List ℕ) (before after : Option (List ℕ)) : Type 0 where
  pub replies : List Reply
  pub run : Runs language steps old (lines_of input) replies new
  pub written : Appends before after (texts_of replies)

-- After a failed read the reply to each call that was made is written, and where memory ran out
-- nothing of the last one's.
abbrev pub Leaves : RunFault → List Reply → List ℕ → Type 0
Leaves RunFault.Read last part = last ≡ []
Leaves RunFault.Write last part = ⊤
Leaves RunFault.Memory last part = part ≡ []

-- A run that broke off: the calls of the first lines are done, and their replies written, but for
-- at most the last, of which a part may be.
pub record Breaks {M : Type 0} (language : Language) (steps : M → Call → Reply → M → Type 0) (old new : M)
    (fault : RunFault) (input : List ℕ) (before after : Option (List ℕ)) : Type 0 where
  pub lines : List (List ℕ)
  pub others : List (List ℕ)
  pub first : lines_of input ≡ lines ++ others
  pub replies : List Reply
  pub last : List Reply
  pub one : length last ≤ 1
  pub run : Runs language steps old lines (replies ++ last) new
  pub part : List ℕ
  pub begun : StartsWith (texts_of last) part
  pub left : Leaves fault last part
  pub written : Appends before after (texts_of replies ++ part)

-- no line feed stands in it
abbrev pub IsUnbroken : List ℕ → Type 0
IsUnbroken [] = ⊤
IsUnbroken (x ∷ xs) = ((x == 10) ≡ false) × IsUnbroken xs

-- the lines, each with its line feed
abbrev pub fed_text : List (List ℕ) → List ℕ
fed_text = flat_map (λ line. line ++ 10 ∷ [])

-- What was taken is answered line by line, but for the line that has begun at its end.
pub record AnswersWhole {M : Type 0} (language : Language) (steps : M → Call → Reply → M → Type 0) (old new : M)
    (taken : List ℕ) (before after : Option (List ℕ)) : Type 0 where
  pub lines : List (List ℕ)
  pub current : List ℕ
  pub read : taken ≡ fed_text lines ++ current
  pub unbroken : IsUnbroken current
  pub replies : List Reply
  pub run : Runs language steps old lines replies new
  pub written : Appends before after (texts_of replies)

-- After a failed read, all whole lines that were read are answered.
abbrev pub AnswersRead : {M : Type 0} → Language → (M → Call → Reply → M → Type 0) → M → M → RunFault →
    Option (List ℕ) → Option (List ℕ) → Option (List ℕ) → Option (List ℕ) → Type 0
AnswersRead language steps old new RunFault.Read known left before after =
    (taken : List ℕ) × Consumes known left taken × AnswersWhole language steps old new taken before after
AnswersRead language steps old new RunFault.Write known left before after = ⊤
AnswersRead language steps old new RunFault.Memory known left before after = ⊤

-- ---- for private clauses

-- the fault is not one of reading
abbrev pub IsNoRead : RunFault → Type 0
IsNoRead RunFault.Read = ⊥
IsNoRead RunFault.Write = ⊤
IsNoRead RunFault.Memory = ⊤

-- a line was answered; or nothing was done, or its reply was written in part
abbrev pub ServesLine : {M : Type 0} → Language → (M → Call → Reply → M → Type 0) → M → M → List ℕ → Option (List ℕ) →
    Option (List ℕ) → Type 0
ServesLine language steps old new line before after =
    (reply : Reply) × Answers language steps old line reply new × Appends before after (reply_text reply)

-- a line was not answered: nothing was done, or a part of its reply was written
abbrev pub BreaksLine : {M : Type 0} → Language → (M → Call → Reply → M → Type 0) → M → M → RunFault → List ℕ →
    Option (List ℕ) → Option (List ℕ) → Type 0
BreaksLine language steps old new fault line before after =
    ((new ≡ old) × Keeps before after)
    ⊎ ((reply : Reply) × (part : List ℕ) × Answers language steps old line reply new
    × StartsWith (reply_text reply) part × Leaves fault (reply ∷ []) part × Appends before after part)

-- how much of a line is kept: enough to see that it is too long
abbrev pub kept_len : ℕ
kept_len = 1048577

-- After the bytes taken, the whole lines among them are answered; current is the line that has
-- begun, of which held is kept.
pub record SoFar {M : Type 0} (language : Language) (steps : M → Call → Reply → M → Type 0) (old new : M)
    (taken held : List ℕ) (before after : Option (List ℕ)) : Type 0 where
  pub lines : List (List ℕ)
  pub current : List ℕ
  pub read : taken ≡ fed_text lines ++ current
  pub split : (rest : List ℕ) → lines_of (taken ++ rest) ≡ lines ++ lines_of (current ++ rest)
  pub unbroken : IsUnbroken current
  pub kept : held ≡ take kept_len current
  pub replies : List Reply
  pub run : Runs language steps old lines replies new
  pub written : Appends before after (texts_of replies)

-- The bytes take the run on, from held to kept.
abbrev pub GoesOn : {M : Type 0} → Language → (M → Call → Reply → M → Type 0) → M → M → List ℕ → List ℕ → List ℕ →
    Option (List ℕ) → Option (List ℕ) → Type 0
GoesOn {M = M} language steps old new held kept bytes before after =
    (first : M) (taken : List ℕ) (start : Option (List ℕ)) → SoFar language steps first old taken held start before →
    SoFar language steps first new (taken ++ bytes) kept start after

-- Within the bytes the run broke off, whatever follows them.
abbrev pub BreaksOff : {M : Type 0} → Language → (M → Call → Reply → M → Type 0) → M → M → RunFault → List ℕ → List ℕ →
    Option (List ℕ) → Option (List ℕ) → Type 0
BreaksOff {M = M} language steps old new fault held bytes before after =
    (first : M) (taken rest : List ℕ) (start : Option (List ℕ)) →
    SoFar language steps first old taken held start before →
    Breaks language steps first new fault (taken ++ (bytes ++ rest)) start after

-- At the end of the input the run is whole.
abbrev pub Finishes : {M : Type 0} → Language → (M → Call → Reply → M → Type 0) → M → M → List ℕ → Option (List ℕ) →
    Option (List ℕ) → Type 0
Finishes {M = M} language steps old new held before after =
    (first : M) (taken : List ℕ) (start : Option (List ℕ)) → SoFar language steps first old taken held start before →
    Serves language steps first new taken start after

-- at the end of the input the run broke off
abbrev pub FailsToFinish : {M : Type 0} → Language → (M → Call → Reply → M → Type 0) → M → M → RunFault → List ℕ →
    Option (List ℕ) → Option (List ℕ) → Type 0
FailsToFinish {M = M} language steps old new fault held before after =
    (first : M) (taken : List ℕ) (start : Option (List ℕ)) → SoFar language steps first old taken held start before →
    Breaks language steps first new fault taken start after

-- what is left of the input, where it is known
abbrev pub rest_of : Option (List ℕ) → List ℕ
rest_of None = []
rest_of (Some xs) = xs

-- A run under way: what it has taken of the input, and what it has done with it.
pub record Underway {M : Type 0} (language : Language) (steps : M → Call → Reply → M → Type 0) (old new : M)
    (known left : Option (List ℕ)) (held : List ℕ) (before after : Option (List ℕ)) : Type 0 where
  pub taken : List ℕ
  pub consumed : Consumes known left taken
  pub so_far : SoFar language steps old new taken held before after

-- For some input, which is the reader's where that is known, the run is whole; or it broke off.
abbrev pub Served : {M : Type 0} → Language → (M → Call → Reply → M → Type 0) → M → M → Option (List ℕ) →
    Option (List ℕ) → Option (List ℕ) → Type 0
Served language steps old new known before after =
    (input : List ℕ) × IsInput known input × Serves language steps old new input before after

-- for some input, which is the reader's where that is known, the run broke off
abbrev pub Broken : {M : Type 0} → Language → (M → Call → Reply → M → Type 0) → M → M → RunFault → Option (List ℕ) →
    Option (List ℕ) → Option (List ℕ) → Type 0
Broken language steps old new fault known before after =
    (input : List ℕ) × IsInput known input × Breaks language steps old new fault input before after
