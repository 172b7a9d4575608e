use Rattle.std.proofs.Common.{◌≡◌, false, drop, length, map, option_map}
use Rattle.std.specs.Prelude.{IfSome}
use Rattle.jpql_meaning.specs.declared.eval.datum.Datum.{Datum}
use Rattle.jpql_meaning.specs.eval.Data.{is_nothing}
use Rattle.jpql_meaning.specs.eval.Seen.{seen}
use Rattle.jpql_run.proofs.Decided.{SayAll}
use Rattle.jpql_run.proofs.hardest.hardest.Given as goal

-- what the rows before say, by few of them, and those that are left
abbrev pub invariant-loop-row : goal.invariant-loop-row
invariant-loop-row l =
    record {
      says : (x : Datum) → SayAll l.comparison x (map seen l.fn.rows.items) (option_map seen l.hard) l.has_null (map seen (drop (length l.yielded) l.fn.rows.items));
      there : IfSome (option_map seen l.hard) (λ a. is_nothing a ≡ false);
    }
