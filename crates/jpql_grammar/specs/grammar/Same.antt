-- Whether two marks, or two words of the grammar, are one.
use Rattle.std.specs.Prelude.{Bool}
use denote.Enum.Bare.{sameb}
use Rattle.jpql_grammar.specs.contracts.grammar.token.Mark as mark
use Rattle.jpql_grammar.specs.contracts.grammar.token.Keyword as keyword
use Rattle.jpql_grammar.specs.declared.grammar.token.Mark.{Mark}
use Rattle.jpql_grammar.specs.declared.grammar.token.Keyword.{Keyword}

-- whether two marks are one
abbrev pub same_mark : Mark → Mark → Bool
same_mark = sameb mark.the_type

-- whether two words of the grammar are one
abbrev pub same_keyword : Keyword → Keyword → Bool
same_keyword = sameb keyword.the_type
