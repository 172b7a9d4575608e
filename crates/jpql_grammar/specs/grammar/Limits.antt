-- How deep the parentheses of a text nest.
use Rattle.std.specs.Prelude.{ℕ, zero, suc, ◌==◌, ◌+◌, ◌-◌, Bool, false, not, nat_le, ◌||◌, [], ◌∷◌, Option, Some, None}
use Rattle.std.specs.Prelude.{if◌then◌else◌}
use Rattle.jpql_trees.specs.tree.Names.{Text}

-- one parenthesis fewer; one that closes where none is open counts nothing
abbrev pub one_closed : ℕ → ℕ
one_closed zero = zero
one_closed (suc n) = n

-- Whether more than `most` parentheses are open at some place outside quotes, where n are open
-- before the text, which begins inside quotes or not.
unfoldable pub nests_over : ℕ → Bool → ℕ → Text → Bool
nests_over most inside n [] = false
nests_over most inside n (b ∷ bs) =
    if b == 39 then nests_over most (not inside) n bs
    else if inside then nests_over most inside n bs
    else if b == 40 then (nat_le most n || nests_over most inside (suc n) bs)
    else if b == 41 then nests_over most inside (one_closed n) bs
    else nests_over most inside n bs

-- what one byte does: whether those after it begin inside quotes, and how many are open before
-- them; none where too many are
abbrev pub nest_step : ℕ → Bool → ℕ → ℕ → Option (Bool × ℕ)
nest_step most inside n b =
    if b == 39 then Some (not inside, n)
    else if inside then Some (inside, n)
    else if b == 40 then (if nat_le most n then None else Some (inside, n + 1))
    else if b == 41 then Some (inside, n - 1)
    else Some (inside, n)
