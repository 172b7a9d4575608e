use Rattle.std.proofs.Common.{rules, arith}
use Rattle.std.proofs.lemmas.Grind.{common_steps}
use Rattle.jpql_types.proofs.Joined.{block_names, source_names}
use Rattle.jpql_types.proofs.names.+add_in_condition.Goals as goal

pub add_in_block-returns : goal.add_in_block-returns
add_in_block-returns t c = rw (block_names _ _) (first_of (search rules, grind (arith, common_steps)))

pub add_in_source-returns : goal.add_in_source-returns
add_in_source-returns t c = rw (source_names _ _) (first_of (search rules, grind (arith, common_steps)))
