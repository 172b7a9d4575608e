-- What the grammar writes as names, paths, lists and what stands before a value is read; and what begins
-- and ends a value.
use Rattle.std.proofs.lemmas.Bool.{le-leb}
use Rattle.std.proofs.Common.{◌≡◌, ℕ, zero, suc, ◌≤◌, Bool, true, false, ◌&&◌, nat_le, List, [], ◌∷◌, ◌++◌, map, length, arith, Some, None, is_some, refl, ap, ◌∙◌, append-nil, append_assoc}
use Rattle.jpql_grammar.specs.declared.grammar.token.Keyword.{Keyword}
use Rattle.jpql_grammar.specs.declared.grammar.token.Keyword.TheVariants as k
use Rattle.jpql_grammar.specs.declared.grammar.token.Mark.TheVariants as m
use Rattle.jpql_grammar.specs.declared.grammar.token.Token.{Token}
use Rattle.jpql_grammar.specs.declared.grammar.token.Token.TheVariants as t
use Rattle.jpql_trees.specs.declared.tree.Value.{Value}
use Rattle.jpql_trees.specs.declared.tree.Trimmed.TheVariants as side
use Rattle.jpql_trees.specs.tree.Names.{Text}
use Rattle.jpql_grammar.specs.grammar.Parts.{Name, plain, word, Steps, name_text, write_names, write_path, Trimming°, unwritten_trimming, sided, unsided, taken_text, taken_parameter, write_trimming, trimming_tree, path_tree}
use Rattle.jpql_grammar.specs.grammar.ValueGrammar.{Value°, sum, Sums°, no_sums, plus, minus, product, Times°, no_times, times, unsigned, positive, negative, Atom°, integer, text, parameter, path, call, group, More°, no_more, more, write_value, write_sums, write_times, write_atom, write_more, value_tree, more_trees}
use Rattle.jpql_grammar.specs.grammar.Grammar.{write_others}
use Rattle.jpql_grammar.specs.grammar.Values.{Read, sees, is_word, name_at, variable_at, names_at, path_at, others_at, list_at, taken_at, sided_at, unsided_at, trimming_at, goes_on_at}
use Rattle.jpql_grammar.proofs.grammar.Calls.{is_call, of_call, call_begins, call_no_word}
use Rattle.jpql_grammar.proofs.grammar.Skips.{Skips, close, comma, value_skip}

-- ---- what ends a value

pub record Ends (ts : List Token) : Type 0 where
  pub dot : sees m.Dot ts ≡ false
  pub star : sees m.Star ts ≡ false
  pub plus : sees m.Plus ts ≡ false
  pub minus : sees m.Minus ts ≡ false

pub sums_no_dot : (d : Sums°) (rest : List Token) → sees m.Dot rest ≡ false → sees m.Dot (write_sums d rest) ≡ false
sums_no_dot no_sums rest e = e
sums_no_dot (plus p ps) rest e = refl
sums_no_dot (minus p ps) rest e = refl

pub sums_no_star : (d : Sums°) (rest : List Token) → sees m.Star rest ≡ false → sees m.Star (write_sums d rest) ≡ false
sums_no_star no_sums rest e = e
sums_no_star (plus p ps) rest e = refl
sums_no_star (minus p ps) rest e = refl

pub times_no_dot : (d : Times°) (rest : List Token) → sees m.Dot rest ≡ false → sees m.Dot (write_times d rest) ≡ false
times_no_dot no_times rest e = e
times_no_dot (times u us) rest e = refl

-- ---- names, paths and lists

pub names_complete : (ns : List Name) (n : ℕ) (found : List Text) (rest : List Token) → length (write_names ns rest) ≤ n → sees m.Dot rest ≡ false
    → names_at n found (write_names ns rest) ≡ Some (found ++ map name_text ns, rest)
unfolding names_at name_at
names_complete [] zero found rest h e = rw append-nil
names_complete [] (suc n) found rest h e = rw e (rw append-nil)
names_complete (plain w ∷ ns) zero found rest h e = absurd (omega arith)
names_complete (word k w ∷ ns) zero found rest h e = absurd (omega arith)
names_complete (plain w ∷ ns) (suc n) found rest h e =
    names_complete ns n (found ++ w ∷ []) rest (omega arith) e ∙ rw append_assoc
names_complete (word k w ∷ ns) (suc n) found rest h e =
    names_complete ns n (found ++ w ∷ []) rest (omega arith) e ∙ rw append_assoc

pub path_complete : (p : Steps) (rest : List Token) → sees m.Dot rest ≡ false → path_at (write_path p rest) ≡ Some (path_tree p, rest)
unfolding path_at variable_at
path_complete p rest e = rw (names_complete p.names (length (write_names p.names rest)) [] rest (omega arith) e)

-- `one` reads what `write` writes, where `Follow` is what may follow it
module _ {A D : Type 0} (one : Read A) (write : D → List Token → List Token) (tree : D → A) (Follow : List Token → Type 0) (n : ℕ)
    (before_comma : (ts : List Token) → Follow (comma ts))
    (skip : (d : D) (rest : List Token) → Skips (write d rest) rest)
    (complete : (d : D) (rest : List Token) → length (write d rest) ≤ n → Follow rest → one (write d rest) ≡ Some (tree d, rest)) where
  follow_others : (ds : List D) (rest : List Token) → Follow rest → Follow (write_others write ds rest)
  follow_others [] rest f = f
  follow_others (d ∷ ds) rest f = before_comma (write d (write_others write ds rest))

  pub others_complete : (ds : List D) (j : ℕ) (found : List A) (rest : List Token) → length (write_others write ds rest) ≤ j
      → length (write_others write ds rest) ≤ n → Follow rest → sees m.Comma rest ≡ false
      → others_at one j found (write_others write ds rest) ≡ Some (found ++ map tree ds, rest)
  unfolding others_at
  others_complete [] zero found rest l h f e = rw append-nil
  others_complete [] (suc j) found rest l h f e = rw e (rw append-nil)
  others_complete (d ∷ ds) zero found rest l h f e = absurd (omega arith)
  others_complete (d ∷ ds) (suc j) found rest l h f e =
      rw (complete d (write_others write ds rest) (omega arith) (follow_others ds rest f))
      (others_complete ds j (found ++ tree d ∷ []) rest (omega (arith, (skip d (write_others write ds rest)).long)) (omega (arith, (skip d (write_others write ds rest)).long)) f e ∙ rw append_assoc)

  pub list_complete : (d : D) (ds : List D) (rest : List Token) → length (write d (write_others write ds rest)) ≤ n → Follow rest → sees m.Comma rest ≡ false
      → list_at one (write d (write_others write ds rest)) ≡ Some (tree d ∷ map tree ds, rest)
  unfolding list_at
  list_complete d ds rest h f e =
      rw (complete d (write_others write ds rest) (omega arith) (follow_others ds rest f))
      (others_complete ds (length (write_others write ds rest)) (tree d ∷ []) rest (omega arith) (omega (arith, (skip d (write_others write ds rest)).long)) f e)

-- ---- values

pub atom_no_plus : (d : Atom°) (rest : List Token) → sees m.Plus (write_atom d rest) ≡ false
atom_no_plus (integer n) rest = refl
atom_no_plus (text w) rest = refl
atom_no_plus (parameter w) rest = refl
atom_no_plus (path p) rest = refl
atom_no_plus (call x) rest = of_call (sees m.Plus) false (λ j w ts b. refl) x rest
atom_no_plus (group a) rest = refl

pub atom_no_minus : (d : Atom°) (rest : List Token) → sees m.Minus (write_atom d rest) ≡ false
atom_no_minus (integer n) rest = refl
atom_no_minus (text w) rest = refl
atom_no_minus (parameter w) rest = refl
atom_no_minus (path p) rest = refl
atom_no_minus (call x) rest = of_call (sees m.Minus) false (λ j w ts b. refl) x rest
atom_no_minus (group a) rest = refl

-- no other word begins a value
pub value_no_word : (j : Keyword) → is_call j ≡ false → (d : Value°) (rest : List Token) → is_word j (write_value d rest) ≡ false
value_no_word j e (sum (product (unsigned (integer i)) us) ps) rest = refl
value_no_word j e (sum (product (unsigned (text w)) us) ps) rest = refl
value_no_word j e (sum (product (unsigned (parameter w)) us) ps) rest = refl
value_no_word j e (sum (product (unsigned (path p)) us) ps) rest = refl
value_no_word j e (sum (product (unsigned (call c)) us) ps) rest = call_no_word j e c (write_times us (write_sums ps rest))
value_no_word j e (sum (product (unsigned (group a)) us) ps) rest = refl
value_no_word j e (sum (product (positive a) us) ps) rest = refl
value_no_word j e (sum (product (negative a) us) ps) rest = refl

pub value_no_distinct : (d : Value°) (rest : List Token) → is_word k.Distinct (write_value d rest) ≡ false
value_no_distinct = value_no_word k.Distinct refl

pub value_no_null : (d : Value°) (rest : List Token) → is_word k.Null (write_value d rest) ≡ false
value_no_null = value_no_word k.Null refl

pub value_no_not : (d : Value°) (rest : List Token) → is_word k.Not (write_value d rest) ≡ false
value_no_not = value_no_word k.Not refl

pub value_no_exists : (d : Value°) (rest : List Token) → is_word k.Exists (write_value d rest) ≡ false
value_no_exists = value_no_word k.Exists refl

pub value_no_type : (d : Value°) (rest : List Token) → is_word k.Type (write_value d rest) ≡ false
value_no_type = value_no_word k.Type refl

-- FROM stands behind no part of a value
from_behind : (us : Times°) (ps : Sums°) (rest : List Token) → is_word k.From (write_times us (write_sums ps (close rest))) ≡ false
from_behind no_times no_sums rest = refl
from_behind no_times (plus p ps) rest = refl
from_behind no_times (minus p ps) rest = refl
from_behind (times u us) ps rest = refl

takes_off : List Token → Bool
takes_off ts = is_some (taken_at ts).0 && is_word k.From (taken_at ts).1

value_takes_off : (d : Value°) (rest : List Token) → takes_off (write_value d (close rest)) ≡ false
unfolding takes_off
value_takes_off (sum (product (unsigned (integer i)) us) ps) rest = refl
value_takes_off (sum (product (unsigned (text w)) us) ps) rest = from_behind us ps rest
value_takes_off (sum (product (unsigned (parameter w)) us) ps) rest = from_behind us ps rest
value_takes_off (sum (product (unsigned (path p)) us) ps) rest = refl
value_takes_off (sum (product (unsigned (call x)) us) ps) rest = of_call takes_off false (λ j w ts b. refl) x (write_times us (write_sums ps (close rest)))
value_takes_off (sum (product (unsigned (group a)) us) ps) rest = refl
value_takes_off (sum (product (positive a) us) ps) rest = refl
value_takes_off (sum (product (negative a) us) ps) rest = refl

pub trimming_complete : (x : Trimming°) (a : Value°) (rest : List Token)
    → trimming_at (write_trimming x (write_value a (close rest))) ≡ Some (trimming_tree x, write_value a (close rest))
unfolding trimming_at sided_at unsided_at takes_off
trimming_complete unwritten_trimming a rest =
    rw (value_no_word k.Leading refl a (close rest), value_no_word k.Trailing refl a (close rest), value_no_word k.Both refl a (close rest), value_takes_off a rest)
trimming_complete (sided side.Leading w None u) a rest = refl
trimming_complete (sided side.Leading w (Some (taken_text x)) u) a rest = refl
trimming_complete (sided side.Leading w (Some (taken_parameter x)) u) a rest = refl
trimming_complete (sided side.Trailing w None u) a rest = refl
trimming_complete (sided side.Trailing w (Some (taken_text x)) u) a rest = refl
trimming_complete (sided side.Trailing w (Some (taken_parameter x)) u) a rest = refl
trimming_complete (sided side.Both w None u) a rest = refl
trimming_complete (sided side.Both w (Some (taken_text x)) u) a rest = refl
trimming_complete (sided side.Both w (Some (taken_parameter x)) u) a rest = refl
trimming_complete (unsided (taken_text x) u) a rest = refl
trimming_complete (unsided (taken_parameter x) u) a rest = refl

pub ends_close : (rest : List Token) → Ends (close rest)
ends_close rest = record { dot = refl; star = refl; plus = refl; minus = refl }

pub ends_comma : (rest : List Token) → Ends (comma rest)
ends_comma rest = record { dot = refl; star = refl; plus = refl; minus = refl }

more_values : More° → List Value°
more_values no_more = []
more_values (more a all) = a ∷ more_values all

more_written : (all : More°) (rest : List Token) → write_more all rest ≡ write_others write_value (more_values all) rest
unfolding more_values
more_written no_more rest = refl
more_written (more a all) rest = ap (λ ts. comma (write_value a ts)) (more_written all rest)

more_treed : (all : More°) → more_trees all ≡ map value_tree (more_values all)
unfolding more_values
more_treed no_more = refl
more_treed (more a all) = ap (λ vs. value_tree a ∷ vs) (more_treed all)

pub two_more : {A : Type 0} (xs : List A) → nat_le 2 (suc (suc (length xs))) ≡ true
two_more xs = le-leb 2 _ (omega arith)

-- each value has a token at least
pub value_some : (d : Value°) (rest : List Token) → 1 ≤ length (write_value d rest)
value_some (sum (product (unsigned (integer i)) us) ps) rest = omega arith
value_some (sum (product (unsigned (text w)) us) ps) rest = omega arith
value_some (sum (product (unsigned (parameter w)) us) ps) rest = omega arith
value_some (sum (product (unsigned (path p)) us) ps) rest = omega arith
value_some (sum (product (unsigned (call x)) us) ps) rest =
    let (j, w, ts, e, b) = call_begins x (write_times us (write_sums ps rest)) in omega (arith, ap length e)
value_some (sum (product (unsigned (group a)) us) ps) rest = omega arith
value_some (sum (product (positive a) us) ps) rest = omega arith
value_some (sum (product (negative a) us) ps) rest = omega arith

-- what may follow a test
pub record After (ts : List Token) : Type 0 where
  pub ends : Ends ts
  pub escape : is_word k.Escape ts ≡ false
  pub goes : goes_on_at ts ≡ false

pub ends_key : {j : Keyword} {w : Text} {rest : List Token} → Ends (t.Key j w ∷ rest)
ends_key = record { dot = refl; star = refl; plus = refl; minus = refl }

-- `inner` reads what stands inside parentheses, of at most n tokens
module _ (inner : Read Value) (n : ℕ)
    (nested : (d : Value°) (rest : List Token) → length (write_value d rest) ≤ n → Ends rest → inner (write_value d rest) ≡ Some (value_tree d, rest)) where
  pub values_complete : (a : Value°) (all : More°) (rest : List Token) → length (write_value a (write_more all (close rest))) ≤ n
      → list_at inner (write_value a (write_more all (close rest))) ≡ Some (value_tree a ∷ more_trees all, close rest)
  values_complete a all rest h =
      rw (more_treed all, more_written all (close rest))
      (list_complete inner write_value value_tree Ends n ends_comma value_skip nested a (more_values all) (close rest) (rw (← more_written all (close rest)) h) (ends_close rest) refl)
