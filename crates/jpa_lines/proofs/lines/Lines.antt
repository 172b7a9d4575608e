-- What a line means, case by case.
use Rattle.jpa_value.specs.Limits.{most_line_bytes}
use Rattle.std.proofs.Common.{◌≡◌, ◌⊎◌, inl, inr, ℕ, ◌<◌, ◌≤◌, length, List, Result, Ok, Err, IfOk, IfErr, refl, ap, ◌∙◌, arith}
use Rattle.std.proofs.lemmas.Bool.Decides.{nat_tests}
use Rattle.std.specs.Option.{ok_or}
use Rattle.jpa_protocol.specs.declared.call.Call.{Call}
use Rattle.jpql_trees.specs.declared.tree.Language.{Language}
use Rattle.jpa_value.specs.declared.refusal.Cause.{Cause}
use Rattle.jpa_value.specs.declared.refusal.Cause.TheVariants.{BadLine, OutOfMemory}
use Rattle.jpa_json.specs.readers.Outcome.{Gives, same, or_refuse}
use Rattle.jpa_json.specs.declared.readers.unread.Unread.{Unread}
use Rattle.jpa_lines.specs.lines.CallOf.{text_call, meaning}

pub long_line : (language : Language) (line : List ℕ) → most_line_bytes < length line → meaning language line ≡ Err Cause.Limit
unfolding meaning
long_line language line long = grind (arith, nat_tests)

pub short_line : (language : Language) (line : List ℕ) → length line ≤ most_line_bytes → meaning language line ≡ ok_or (text_call language line) BadLine
unfolding meaning
short_line language line short = grind (arith, nat_tests)

pub call_found : (language : Language) (line : List ℕ) (r : Result Call Unread) → length line ≤ most_line_bytes → Gives same r (text_call language line) → IfOk (or_refuse BadLine r) (λ call. meaning language line ≡ Ok call)
call_found language line (Ok call) short h = short_line language line short ∙ ap (λ o. ok_or o BadLine) h
call_found language line (Err Unread.Form) short h = tt
call_found language line (Err Unread.OutOfMemory) short h = tt

pub call_refused : (language : Language) (line : List ℕ) (r : Result Call Unread) → length line ≤ most_line_bytes → Gives same r (text_call language line) → IfErr (or_refuse BadLine r) (λ e. (e ≡ OutOfMemory) ⊎ (meaning language line ≡ Err e))
call_refused language line (Ok call) short h = tt
call_refused language line (Err Unread.Form) short h = inr (short_line language line short ∙ ap (λ o. ok_or o BadLine) h)
call_refused language line (Err Unread.OutOfMemory) short h = inl refl
