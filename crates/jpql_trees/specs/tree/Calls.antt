-- How many values the functions of the language take (chapters 4.7.2, 4.7.3 and 4.7.4).
use Rattle.std.specs.Prelude.{ℕ, ◌%◌, Bool, nat_eq, nat_le, ◌&&◌, ◌||◌}
use Rattle.jpql_trees.specs.declared.tree.Function.{Function}
use Rattle.jpql_trees.specs.declared.tree.Function.TheVariants as f

-- how many arguments a function takes
abbrev pub takes : Function → ℕ → Bool
takes f.Length n = nat_eq n 1
takes f.Concat n = nat_le 2 n
takes f.Substring n = nat_eq n 2 || nat_eq n 3
takes f.Locate n = nat_eq n 2 || nat_eq n 3
takes f.Abs n = nat_eq n 1
takes f.Mod n = nat_eq n 2
takes f.Coalesce n = nat_le 2 n
takes f.NullIf n = nat_eq n 2
takes f.Upper n = nat_eq n 1
takes f.Lower n = nat_eq n 1
takes (f.Trim x) n = nat_eq n 1 || nat_eq n 2
takes f.Case n = nat_le 3 n && nat_eq (n % 2) 1
takes f.Match n = nat_le 4 n && nat_eq (n % 2) 0
takes (f.Test op) n = nat_eq n 2
takes f.IsBetween n = nat_eq n 3
takes f.IsAmong n = nat_le 1 n
takes f.IsLike n = nat_eq n 2 || nat_eq n 3
takes f.IsNull n = nat_eq n 1
takes f.And n = nat_eq n 2
takes f.Or n = nat_eq n 2
takes f.Not n = nat_eq n 1
