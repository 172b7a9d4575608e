-- Arithmetic (chapter 4.7.1): an integer outside 64 bits is Overflow, and null with anything is
-- null.
use Rattle.std.specs.Prelude.{ℤ, pos, ◌+ℤ◌, ◌-ℤ◌, ◌*ℤ◌, neg_ℤ, nat_abs, nat_eq, int_rem, if◌then◌else◌}
use Rattle.jpa_value.specs.declared.value.Value.{Value}
use Rattle.jpa_value.specs.Value.{is_i64}
use Rattle.jpql_trees.specs.declared.tree.Arithmetic.{Arithmetic}
use Rattle.jpql_trees.specs.declared.tree.Sign.{Sign}
use Rattle.jpql_meaning.specs.declared.eval.datum.Datum.{Datum}
use Rattle.jpql_meaning.specs.eval.Answers.{Answer, gives, overflows}
use Rattle.jpql_meaning.specs.eval.Data.{null}

-- an integer as a datum
abbrev pub number : ℤ → Datum
number n = Datum.Plain (Value.Int n)

-- an integer of 64 bits, else Overflow
abbrev pub integer : ℤ → Answer Datum
integer n = if is_i64 n then gives (number n) else overflows

-- the sum, the difference or the product of integers
abbrev pub calculate : Arithmetic → ℤ → ℤ → ℤ
calculate Arithmetic.Plus a b = a +ℤ b
calculate Arithmetic.Minus a b = a -ℤ b
calculate Arithmetic.Times a b = a *ℤ b

-- arithmetic of two data; where one is no integer it gives null (chapter 4.7.1)
abbrev pub arithmetic : Arithmetic → Datum → Datum → Answer Datum
arithmetic op (Datum.Plain (Value.Int a)) (Datum.Plain (Value.Int b)) = integer (calculate op a b)
arithmetic op a b = gives null

-- an integer with a sign before it; of no integer it gives null (chapter 4.7.1)
abbrev pub signed : Sign → Datum → Answer Datum
signed Sign.Plus (Datum.Plain (Value.Int a)) = integer a
signed Sign.Minus (Datum.Plain (Value.Int a)) = integer (neg_ℤ a)
signed s a = gives null

-- ABS of an integer; of no integer it gives null (chapter 4.7.2)
abbrev pub absolute : Datum → Answer Datum
absolute (Datum.Plain (Value.Int a)) = integer (pos (nat_abs a))
absolute a = gives null

-- the remainder has the dividend's sign, and by 0 it is null; that of the least integer by -1 is 0
abbrev pub modulo : Datum → Datum → Answer Datum
modulo (Datum.Plain (Value.Int a)) (Datum.Plain (Value.Int b)) =
    if nat_eq (nat_abs b) 0 then gives null else integer (int_rem a b)
modulo a b = gives null
