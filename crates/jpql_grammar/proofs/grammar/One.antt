-- What is read is a statement of the grammar, each statement is read, and tokens have at most one tree.
use Rattle.std.proofs.Common.{◌≡◌, suc, List, length, Some, ap, sym, ◌∙◌, subst, arith}
use Rattle.jpql_grammar.specs.declared.grammar.token.Token.{Token}
use Rattle.jpql_trees.specs.declared.tree.Query.{Query}
use Rattle.jpql_grammar.specs.grammar.Grammar.{Statement°, write_statement, statement_tree, IsStatement}
use Rattle.jpql_grammar.specs.grammar.Statements.{whole_at, statement_of}
use Rattle.jpql_grammar.proofs.grammar.Tools.{same}
use Rattle.jpql_grammar.proofs.grammar.StatementsSound.{whole_sound}
use Rattle.jpql_grammar.proofs.grammar.StatementsComplete.{whole_complete}

-- Tokens are read where they are a statement, and only there.
pub read_is : (ts : List Token) (x : Query) → statement_of ts ≡ Some x → IsStatement ts x
read_is ts x h = whole_sound (suc (length ts)) ts x h

written_read : (d : Statement°) → statement_of (write_statement d) ≡ Some (statement_tree d)
written_read d = whole_complete (length (write_statement d)) (suc (length (write_statement d))) (omega arith) d (omega arith)

pub is_read : (ts : List Token) (x : Query) → IsStatement ts x → statement_of ts ≡ Some x
is_read ts x (d, e, t) = subst (λ us. statement_of us ≡ Some (statement_tree d)) e (written_read d) ∙ ap Some t

-- The same tokens have at most one tree.
pub one_tree : (ts : List Token) (x y : Query) → IsStatement ts x → IsStatement ts y → x ≡ y
one_tree ts x y a b = same _ _ (sym (is_read ts x a) ∙ is_read ts y b)
