-- A run, piece by piece.
use Rattle.jpa_value.specs.Limits.{most_line_bytes}
use Rattle.std.proofs.Common.{◌≡◌, ◌==◌, inl, inr, ℕ, suc, ◌+◌, ◌<◌, ◌≤◌, Bool, false, List, [], ◌∷◌, ◌++◌, length, take, Option, Some, None, Result, Ok, Err, refl, sym, ap, ◌∙◌, subst, arith, append_assoc, append-nil, length-take, get_or, drop, IfErr}
use Rattle.std.proofs.lemmas.Bool.Decides.{nat_tests}
use Rattle.std.proofs.lemmas.Bool.{cases_lt}
use Rattle.std.proofs.lemmas.List.{take_all, take-take, take-append-le, drop_more, take-append-drop}
use Rattle.std.specs.Io.KnownBytes.{Keeps}
use Rattle.std.proofs.lemmas.List.Concat.{flat_map-append}
use Rattle.jpa_protocol.specs.declared.call.Call.{Call}
use Rattle.jpql_trees.specs.declared.tree.Language.{Language}
use Rattle.jpa_protocol.specs.declared.reply.Reply.{Reply}
use Rattle.jpa_lines.specs.declared.lines.run.RunFault.{RunFault}
use Rattle.jpa_lines.specs.lines.CallOf.{meaning}
use Rattle.jpa_lines.specs.lines.ReplyText.{reply_text}
use Rattle.jpa_lines.specs.lines.Run.{onto_first, lines_of, AnswersTo, Answers, GoesOn, BreaksOff, Finishes, FailsToFinish, Runs, texts_of, fed_text, Breaks, ServesLine, Leaves, BreaksLine, IsUnbroken, kept_len, SoFar}
use Rattle.jpa_lines.proofs.lines.Lines.{long_line}
use Rattle.jpa_lines.proofs.lines.Written.{appends_none, appends_nothing, appends_both}

-- ---- lines

-- a line feed ends a line
pub line_ends : (line rest : List ℕ) → IsUnbroken line → lines_of (line ++ 10 ∷ rest) ≡ line ∷ lines_of rest
line_ends [] rest h = refl
line_ends (x ∷ line) rest h = rw h.0 (ap (onto_first x) (line_ends line rest h.1))

-- what has no line feed is one line
line_last : (x : ℕ) (line : List ℕ) → IsUnbroken (x ∷ line) → lines_of (x ∷ line) ≡ (x ∷ line) ∷ []
line_last x [] h = rw h.0 refl
line_last x (y ∷ line) h = rw h.0 (ap (onto_first x) (line_last y line h.1))

unbroken_both : (line more : List ℕ) → IsUnbroken line → IsUnbroken more → IsUnbroken (line ++ more)
unbroken_both [] more h k = k
unbroken_both (x ∷ line) more h k = (h.0, unbroken_both line more h.1 k)

-- ---- what is kept of a line means the same

meaning_kept : (language : Language) (line : List ℕ) → meaning language (take kept_len line) ≡ meaning language line
meaning_kept language line = elim (cases_lt most_line_bytes (length line)) [
  | inl long ↦ long_line language (take kept_len line) (omega (arith, length-take kept_len line)) ∙ sym (long_line language line long)
  | inr short ↦ ap (meaning language) (take_all kept_len line (omega arith))
]

take_more_kept : (n : ℕ) (line xs : List ℕ) → take n (take n line ++ xs) ≡ take n (line ++ xs)
take_more_kept n line xs = elim (cases_lt (length line) n) [
  | inl short ↦ ap (λ ys. take n (ys ++ xs)) (take_all n line (omega arith))
  | inr long ↦ take-append-le n (take n line) xs (omega (arith, length-take n line)) ∙ take-take n n line (omega arith) ∙ sym (take-append-le n line xs long)
]

none_kept : (n : ℕ) (line : List ℕ) → [] ≡ take (suc n) line → line ≡ []
none_kept n [] h = refl
none_kept n (x ∷ line) h = absurd (cc)

-- ---- runs

runs_more : {M : Type 0} (language : Language) (steps : M → Call → Reply → M → Type 0) (old mid new : M) (lines : List (List ℕ)) (replies : List Reply) (line : List ℕ) (reply : Reply)
    → Runs language steps old lines replies mid → Answers language steps mid line reply new → Runs language steps old (lines ++ line ∷ []) (replies ++ reply ∷ []) new
runs_more language steps old mid new [] [] line reply h k = (new, subst (λ m. Answers language steps m line reply new) h k, refl)
runs_more language steps old mid new [] (r ∷ replies) line reply h k = absurd h
runs_more language steps old mid new (l ∷ lines) [] line reply h k = absurd h
runs_more language steps old mid new (l ∷ lines) (r ∷ replies) line reply h k = (h.0, h.1, runs_more language steps h.0 mid new lines replies line reply h.2 k)

texts_more : (replies : List Reply) (reply : Reply) → texts_of (replies ++ reply ∷ []) ≡ texts_of replies ++ reply_text reply
texts_more replies reply = flat_map-append reply_text replies (reply ∷ []) ∙ ap (λ xs. texts_of replies ++ xs) (append-nil (reply_text reply))

fed_more : (lines : List (List ℕ)) (line : List ℕ) → fed_text (lines ++ line ∷ []) ++ [] ≡ fed_text lines ++ (line ++ 10 ∷ [])
fed_more lines line =
    append-nil (fed_text (lines ++ line ∷ [])) ∙ flat_map-append (λ l. l ++ 10 ∷ []) lines (line ∷ []) ∙ ap (λ xs. fed_text lines ++ xs) (append-nil (line ++ 10 ∷ []))

kept_answer : {M : Type 0} (language : Language) (steps : M → Call → Reply → M → Type 0) (old new : M) (held line : List ℕ) (reply : Reply) → held ≡ take kept_len line → Answers language steps old held reply new → Answers language steps old line reply new
kept_answer language steps old new held line reply is h = subst (λ m. AnswersTo steps old m reply new) (ap (meaning language) is ∙ meaning_kept language line) h

-- ---- steps

pub starts : {M : Type 0} (language : Language) (steps : M → Call → Reply → M → Type 0) (m : M) (before : Option (List ℕ)) → SoFar language steps m m [] [] before before
starts language steps m before = record {
  lines = [];
  current = [];
  read = refl;
  split = λ rest. refl;
  unbroken = tt;
  kept = sym (take_all kept_len [] (omega arith));
  replies = [];
  run = refl;
  written = appends_nothing before;
}

pub bytes_kept : {M : Type 0} (language : Language) (steps : M → Call → Reply → M → Type 0) (old : M) (held kept bytes : List ℕ) (before : Option (List ℕ))
    → IsUnbroken bytes → (length held ≤ kept_len → kept ≡ take kept_len (held ++ bytes)) → GoesOn language steps old old held kept bytes before before
bytes_kept language steps old held kept bytes before whole grows first taken start s = record {
  lines = s.lines;
  current = s.current ++ bytes;
  read = ap (λ xs. xs ++ bytes) s.read ∙ append_assoc (fed_text s.lines) s.current bytes;
  split = λ rest. ap lines_of (append_assoc taken bytes rest) ∙ s.split (bytes ++ rest) ∙ ap (λ xs. s.lines ++ lines_of xs) (sym (append_assoc s.current bytes rest));
  unbroken = unbroken_both s.current bytes s.unbroken whole;
  kept = grows (omega (arith, ap length s.kept, length-take kept_len s.current)) ∙ ap (λ xs. take kept_len (xs ++ bytes)) s.kept ∙ take_more_kept kept_len s.current bytes;
  replies = s.replies;
  run = s.run;
  written = s.written;
}

pub line_served : {M : Type 0} (language : Language) (steps : M → Call → Reply → M → Type 0) (old new : M) (held : List ℕ) (before after : Option (List ℕ))
    → ServesLine language steps old new held before after → GoesOn language steps old new held [] (10 ∷ []) before after
line_served language steps old new held before after h first taken start s = record {
  lines = s.lines ++ s.current ∷ [];
  current = [];
  read = ap (λ xs. xs ++ 10 ∷ []) s.read ∙ append_assoc (fed_text s.lines) s.current (10 ∷ []) ∙ sym (fed_more s.lines s.current);
  split = λ rest. ap lines_of (append_assoc taken (10 ∷ []) rest) ∙ s.split (10 ∷ rest) ∙ ap (λ ls. s.lines ++ ls) (line_ends s.current rest s.unbroken) ∙ sym (append_assoc s.lines (s.current ∷ []) (lines_of rest));
  unbroken = tt;
  kept = sym (take_all kept_len [] (omega arith));
  replies = s.replies ++ h.0 ∷ [];
  run = runs_more language steps first old new s.lines s.replies s.current h.0 s.run (kept_answer language steps old new held s.current h.0 s.kept h.1);
  written = rw (texts_more s.replies h.0) (appends_both start before after _ _ s.written h.2);
}

-- ---- breaks

leaves_none : (fault : RunFault) → Leaves fault [] []
leaves_none RunFault.Read = refl
leaves_none RunFault.Write = tt
leaves_none RunFault.Memory = refl

-- nothing of the rest is done
pub stays_broken : {M : Type 0} (language : Language) (steps : M → Call → Reply → M → Type 0) (old : M) (fault : RunFault) (held : List ℕ) (before after : Option (List ℕ)) (first : M) (taken rest : List ℕ) (start : Option (List ℕ))
    → Keeps before after → SoFar language steps first old taken held start before → Breaks language steps first old fault (taken ++ rest) start after
stays_broken language steps old fault held before after first taken rest start keeps s = record {
  lines = s.lines;
  others = lines_of (s.current ++ rest);
  first = s.split rest;
  replies = s.replies;
  last = [];
  one = omega arith;
  run = rw (append-nil s.replies) s.run;
  part = [];
  begun = refl;
  left = leaves_none fault;
  written = appends_both start before after _ _ s.written (appends_none before after keeps);
}

-- the line that has begun is whole, and what answers it broke off
line_broken : {M : Type 0} (language : Language) (steps : M → Call → Reply → M → Type 0) (old new : M) (fault : RunFault) (held : List ℕ) (before after : Option (List ℕ)) (first : M) (taken rest : List ℕ) (others : List (List ℕ)) (start : Option (List ℕ))
    → (s : SoFar language steps first old taken held start before) → lines_of (s.current ++ rest) ≡ s.current ∷ others
    → BreaksLine language steps old new fault held before after → Breaks language steps first new fault (taken ++ rest) start after
line_broken language steps old new fault held before after first taken rest others start s whole (inl (same, keeps)) =
    subst (λ m. Breaks language steps first m fault (taken ++ rest) start after) (sym same) (stays_broken language steps old fault held before after first taken rest start keeps s)
line_broken language steps old new fault held before after first taken rest others start s whole (inr (reply, part, answers, begun, left, written)) = record {
  lines = s.lines ++ s.current ∷ [];
  others = others;
  first = s.split rest ∙ ap (λ ls. s.lines ++ ls) whole ∙ sym (append_assoc s.lines (s.current ∷ []) others);
  replies = s.replies;
  last = reply ∷ [];
  one = omega arith;
  run = runs_more language steps first old new s.lines s.replies s.current reply s.run (kept_answer language steps old new held s.current reply s.kept answers);
  part = part;
  begun = rw (append-nil (reply_text reply)) begun;
  left = left;
  written = appends_both start before after _ _ s.written written;
}

pub line_off : {M : Type 0} (language : Language) (steps : M → Call → Reply → M → Type 0) (old new : M) (fault : RunFault) (held : List ℕ) (before after : Option (List ℕ))
    → BreaksLine language steps old new fault held before after → BreaksOff language steps old new fault held (10 ∷ []) before after
line_off language steps old new fault held before after h first taken rest start s =
    line_broken language steps old new fault held before after first taken (10 ∷ rest) (lines_of rest) start s (line_ends s.current rest s.unbroken) h

-- ---- the end

no_more : {M : Type 0} (language : Language) (steps : M → Call → Reply → M → Type 0) (old : M) (held : List ℕ) (before : Option (List ℕ)) (first : M) (taken : List ℕ) (start : Option (List ℕ))
    → (s : SoFar language steps first old taken held start before) → s.current ≡ [] → lines_of taken ≡ s.lines
no_more language steps old held before first taken start s none =
    ap lines_of (sym (append-nil taken)) ∙ s.split [] ∙ ap (λ xs. s.lines ++ lines_of (xs ++ [])) none ∙ append-nil s.lines

pub all_served : {M : Type 0} (language : Language) (steps : M → Call → Reply → M → Type 0) (old : M) (held : List ℕ) (before : Option (List ℕ)) → held ≡ [] → Finishes language steps old old held before before
all_served language steps old held before empty first taken start s = record {
  replies = s.replies;
  run = rw (no_more language steps old held before first taken start s (none_kept most_line_bytes s.current (sym empty ∙ s.kept))) s.run;
  written = s.written;
}

last_line : (line : List ℕ) → 0 < length line → IsUnbroken line → lines_of (line ++ []) ≡ line ∷ []
last_line [] h u = absurd (omega arith)
last_line (x ∷ line) h u = rw (append-nil line) (line_last x line u)

some_current : (n : ℕ) (held line : List ℕ) → held ≡ take n line → 0 < length held → 0 < length line
some_current n held line is some = omega (arith, ap length is, length-take n line)

pub last_served : {M : Type 0} (language : Language) (steps : M → Call → Reply → M → Type 0) (old new : M) (held : List ℕ) (before after : Option (List ℕ)) → 0 < length held
    → ServesLine language steps old new held before after → Finishes language steps old new held before after
last_served language steps old new held before after some h first taken start s = record {
  replies = s.replies ++ h.0 ∷ [];
  run =
      let whole : lines_of taken ≡ s.lines ++ s.current ∷ [] =
      ap lines_of (sym (append-nil taken)) ∙ s.split [] ∙ ap (λ ls. s.lines ++ ls) (last_line s.current (some_current kept_len held s.current s.kept some) s.unbroken) in
      rw whole (runs_more language steps first old new s.lines s.replies s.current h.0 s.run (kept_answer language steps old new held s.current h.0 s.kept h.1));
  written = rw (texts_more s.replies h.0) (appends_both start before after _ _ s.written h.2);
}

pub last_off : {M : Type 0} (language : Language) (steps : M → Call → Reply → M → Type 0) (old new : M) (fault : RunFault) (held : List ℕ) (before after : Option (List ℕ)) → 0 < length held
    → BreaksLine language steps old new fault held before after → FailsToFinish language steps old new fault held before after
last_off language steps old new fault held before after some h first taken start s =
    subst (λ xs. Breaks language steps first new fault xs start after) (append-nil taken)
    (line_broken language steps old new fault held before after first taken [] [] start s (last_line s.current (some_current kept_len held s.current s.kept some) s.unbroken) h)

-- ---- pieces

pub goes_both : {M : Type 0} (language : Language) (steps : M → Call → Reply → M → Type 0) (old mid new : M) (held kept left xs ys : List ℕ) (before between after : Option (List ℕ))
    → GoesOn language steps old mid held kept xs before between → GoesOn language steps mid new kept left ys between after → GoesOn language steps old new held left (xs ++ ys) before after
goes_both language steps old mid new held kept left xs ys before between after h k first taken start s =
    subst (λ zs. SoFar language steps first new zs left start after) (append_assoc taken xs ys) (k first (taken ++ xs) start (h first taken start s))

pub goes_off : {M : Type 0} (language : Language) (steps : M → Call → Reply → M → Type 0) (old mid new : M) (fault : RunFault) (held kept xs ys zs : List ℕ) (before between after : Option (List ℕ))
    → GoesOn language steps old mid held kept xs before between → BreaksOff language steps mid new fault kept ys between after → BreaksOff language steps old new fault held (xs ++ (ys ++ zs)) before after
goes_off language steps old mid new fault held kept xs ys zs before between after h k first taken rest start s =
    let e : (taken ++ xs) ++ (ys ++ (zs ++ rest)) ≡ taken ++ ((xs ++ (ys ++ zs)) ++ rest) = simp append_assoc in
    subst (λ ws. Breaks language steps first new fault ws start after) e (k first (taken ++ xs) (zs ++ rest) start (h first taken start s))

-- ---- in the words of the code

-- the end of a line is held, and then the line served
pub end_served : {M : Type 0} (language : Language) (steps : M → Call → Reply → M → Type 0) (old new : M) (held kept shown left end : List ℕ) (before after : Option (List ℕ))
    → IsUnbroken end → (length held ≤ kept_len → kept ≡ take kept_len (held ++ end)) → shown ≡ kept → left ≡ []
    → ServesLine language steps old new shown before after → GoesOn language steps old new held left (end ++ 10 ∷ []) before after
end_served language steps old new held kept shown left end before after whole grows is none h =
    goes_both language steps old old new held kept left end (10 ∷ []) before before after (bytes_kept language steps old held kept end before whole grows)
    (rw none (line_served language steps old new kept before after (subst (λ l. ServesLine language steps old new l before after) is h)))

pub end_off : {M : Type 0} (language : Language) (steps : M → Call → Reply → M → Type 0) (old new : M) (fault : RunFault) (held kept shown end : List ℕ) (before after : Option (List ℕ))
    → IsUnbroken end → (length held ≤ kept_len → kept ≡ take kept_len (held ++ end)) → shown ≡ kept
    → BreaksLine language steps old new fault shown before after → BreaksOff language steps old new fault held (end ++ 10 ∷ []) before after
end_off language steps old new fault held kept shown end before after whole grows is h =
    goes_off language steps old old new fault held kept end (10 ∷ []) [] before before after (bytes_kept language steps old held kept end before whole grows)
    (line_off language steps old new fault kept before after (subst (λ l. BreaksLine language steps old new fault l before after) is h))

keeps_same : (a : Option (List ℕ)) → Keeps a a
keeps_same None = tt
keeps_same (Some xs) = refl

pub breaks_off : {M : Type 0} (language : Language) (steps : M → Call → Reply → M → Type 0) (old : M) (fault : RunFault) (held bytes : List ℕ) (before : Option (List ℕ)) → BreaksOff language steps old old fault held bytes before before
breaks_off language steps old fault held bytes before first taken rest start s = stays_broken language steps old fault held before before first taken (bytes ++ rest) start (keeps_same before) s

pub if_err : {T E : Type 0} (Q : E → Type 0) (r : Result T E) → ((e : E) → Q e) → IfErr r Q
if_err Q (Ok x) each = tt
if_err Q (Err e) each = each e
