-- What a run has read.
use Rattle.std.proofs.Common.{◌≡◌, List, [], ◌++◌, ℕ, Option, Some, None, refl, sym, ap, ◌∙◌, append-nil, append_assoc, subst, take}
use Rattle.std.specs.Io.KnownBytes.{Consumes, Keeps, IsAtEnd}
use Rattle.jpa_protocol.specs.declared.call.Call.{Call}
use Rattle.jpql_trees.specs.declared.tree.Language.{Language}
use Rattle.jpa_protocol.specs.declared.reply.Reply.{Reply}
use Rattle.jpa_lines.specs.declared.lines.run.RunFault.{RunFault}
use Rattle.jpa_lines.specs.lines.Run.{IsInput, rest_of, GoesOn, BreaksOff, Finishes, FailsToFinish, Underway, Served, Broken, AnswersRead, IsNoRead}
use Rattle.jpa_lines.proofs.lines.SoFar.{starts, stays_broken}
use Rattle.jpa_lines.proofs.lines.Written.{consumes_both, keeps_appends}

pub consumes_nothing : (a : Option (List ℕ)) → Consumes a a []
consumes_nothing None = tt
consumes_nothing (Some xs) = refl

pub is_input : (a b : Option (List ℕ)) (taken : List ℕ) → Consumes a b taken → IsInput a (taken ++ rest_of b)
is_input None b taken h = tt
is_input (Some xs) None taken h = absurd h
is_input (Some xs) (Some ys) taken h = h

pub is_all : (a b : Option (List ℕ)) (taken : List ℕ) → Consumes a b taken → IsAtEnd b → IsInput a taken
is_all None b taken h end = tt
is_all (Some xs) None taken h end = absurd h
is_all (Some xs) (Some ys) taken h end = h ∙ ap (λ v. taken ++ v) end ∙ append-nil taken

pub consumes_kept : (a b c : Option (List ℕ)) (taken : List ℕ) → Consumes a b taken → Keeps b c → Consumes a c taken
consumes_kept None b c taken h k = tt
consumes_kept (Some xs) None c taken h k = absurd h
consumes_kept (Some xs) (Some ys) None taken h k = k
consumes_kept (Some xs) (Some ys) (Some zs) taken h k = h ∙ ap (λ v. taken ++ v) (sym k)

pub begins : {M : Type 0} (language : Language) (steps : M → Call → Reply → M → Type 0) (m : M) (known before : Option (List ℕ)) → Underway language steps m m known known [] before before
begins language steps m known before = record { taken = []; consumed = consumes_nothing known; so_far = starts language steps m before }

-- a fault before anything more is done
pub broken_here : {M : Type 0} (language : Language) (steps : M → Call → Reply → M → Type 0) (old new : M) (fault : RunFault) (known left : Option (List ℕ)) (held : List ℕ) (before between after : Option (List ℕ))
    → Underway language steps old new known left held before between → Keeps between after → Broken language steps old new fault known before after
broken_here language steps old new fault known left held before between after u keeps =
    (u.taken ++ rest_of left, is_input known left u.taken u.consumed, stays_broken language steps new fault held between after old u.taken (rest_of left) before keeps u.so_far)

pub broken_within : {M : Type 0} (language : Language) (steps : M → Call → Reply → M → Type 0) (old mid new : M) (fault : RunFault) (known left last : Option (List ℕ)) (held bytes : List ℕ) (before between after : Option (List ℕ))
    → Underway language steps old mid known left held before between → Consumes left last bytes → BreaksOff language steps mid new fault held bytes between after → Broken language steps old new fault known before after
broken_within language steps old mid new fault known left last held bytes before between after u consumed off = (
  u.taken ++ (bytes ++ rest_of last),
  subst (λ xs. IsInput known xs) (append_assoc u.taken bytes (rest_of last)) (is_input known last (u.taken ++ bytes) (consumes_both known left last u.taken bytes u.consumed consumed)),
  off old u.taken (rest_of last) before u.so_far,
)

pub goes_further : {M : Type 0} (language : Language) (steps : M → Call → Reply → M → Type 0) (old mid new : M) (known left last : Option (List ℕ)) (held kept bytes : List ℕ) (before between after : Option (List ℕ))
    → Underway language steps old mid known left held before between → Consumes left last bytes → GoesOn language steps mid new held kept bytes between after → Underway language steps old new known last kept before after
goes_further language steps old mid new known left last held kept bytes before between after u consumed on = record {
  taken = u.taken ++ bytes;
  consumed = consumes_both known left last u.taken bytes u.consumed consumed;
  so_far = on old u.taken before u.so_far;
}

at_end : (known left last : Option (List ℕ)) (taken : List ℕ) → Consumes known left taken → Consumes left last [] → IsAtEnd last → IsInput known taken
at_end known left last taken c d end = subst (λ xs. IsInput known xs) (append-nil taken) (is_all known last (taken ++ []) (consumes_both known left last taken [] c d) end)

pub served_all : {M : Type 0} (language : Language) (steps : M → Call → Reply → M → Type 0) (old mid new : M) (known left last : Option (List ℕ)) (held : List ℕ) (before between after : Option (List ℕ))
    → Underway language steps old mid known left held before between → Consumes left last [] → IsAtEnd last → Finishes language steps mid new held between after → Served language steps old new known before after
served_all language steps old mid new known left last held before between after u none end f = (u.taken, at_end known left last u.taken u.consumed none end, f old u.taken before u.so_far)

pub broken_at_end : {M : Type 0} (language : Language) (steps : M → Call → Reply → M → Type 0) (old mid new : M) (fault : RunFault) (known left last : Option (List ℕ)) (held : List ℕ) (before between after : Option (List ℕ))
    → Underway language steps old mid known left held before between → Consumes left last [] → IsAtEnd last → FailsToFinish language steps mid new fault held between after → Broken language steps old new fault known before after
broken_at_end language steps old mid new fault known left last held before between after u none end f = (u.taken, at_end known left last u.taken u.consumed none end, f old u.taken before u.so_far)

pub stays_underway : {M : Type 0} (language : Language) (steps : M → Call → Reply → M → Type 0) (old new : M) (known left : Option (List ℕ)) (held : List ℕ) (before between after : Option (List ℕ))
    → Underway language steps old new known left held before between → Keeps between after → Underway language steps old new known left held before after
stays_underway language steps old new known left held before between after u keeps = record {
  taken = u.taken;
  consumed = u.consumed;
  so_far = record {
    lines = u.so_far.lines;
    current = u.so_far.current;
    read = u.so_far.read;
    split = u.so_far.split;
    unbroken = u.so_far.unbroken;
    kept = u.so_far.kept;
    replies = u.so_far.replies;
    run = u.so_far.run;
    written = keeps_appends before between after _ u.so_far.written keeps;
  };
}

pub keeps_here : (a : Option (List ℕ)) → Keeps a a
keeps_here None = tt
keeps_here (Some xs) = refl

pub broken_now : {M : Type 0} (language : Language) (steps : M → Call → Reply → M → Type 0) (old new : M) (fault : RunFault) (known left : Option (List ℕ)) (held : List ℕ) (before after : Option (List ℕ))
    → Underway language steps old new known left held before after → Broken language steps old new fault known before after
broken_now language steps old new fault known left held before after u = broken_here language steps old new fault known left held before after after u (keeps_here after)

-- a read of no bytes
pub none_taken : (a b : Option (List ℕ)) (n : ℕ) (bytes : List ℕ) → n ≡ 0 → Consumes a b (take n bytes) → Consumes a b []
none_taken a b n bytes none h = subst (λ m. Consumes a b (take m bytes)) none h

-- all whole lines that were taken are answered
pub answers_read : {M : Type 0} (language : Language) (steps : M → Call → Reply → M → Type 0) (old new : M) (known left last : Option (List ℕ)) (held : List ℕ) (before after : Option (List ℕ))
    → Underway language steps old new known left held before after → Keeps left last → AnswersRead language steps old new RunFault.Read known last before after
answers_read language steps old new known left last held before after u keeps = (
  u.taken,
  consumes_kept known left last u.taken u.consumed keeps,
  record {
    lines = u.so_far.lines;
    current = u.so_far.current;
    read = u.so_far.read;
    unbroken = u.so_far.unbroken;
    replies = u.so_far.replies;
    run = u.so_far.run;
    written = u.so_far.written;
  },
)

pub no_read : {M : Type 0} (language : Language) (steps : M → Call → Reply → M → Type 0) (old new : M) (known left before after : Option (List ℕ)) (fault : RunFault) → IsNoRead fault → AnswersRead language steps old new fault known left before after
no_read language steps old new known left before after RunFault.Read h = absurd h
no_read language steps old new known left before after RunFault.Write h = tt
no_read language steps old new known left before after RunFault.Memory h = tt
