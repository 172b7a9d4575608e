use Rattle.std.proofs.Common.{◌≡◌, [], length, ◌-◌, ◌+◌, ◌*◌}
use Rattle.jpql_grammar.specs.grammar.Values.{list_at, others_at}
use Rattle.jpql_grammar.specs.grammar.Conditions.{joins_at, source_at, ands_at, ors_at, cond_at}
use Rattle.jpql_grammar.proofs.conditions.conditions.+cond.Given as goal

abbrev pub decreases-cond : goal.decreases-cond
decreases-cond l = l.depth * 20

abbrev pub decreases-clause : goal.decreases-clause
decreases-clause l = l.depth * 20 + 1

abbrev pub decreases-nested : goal.decreases-nested
decreases-nested l = l.depth * 20 + 1

abbrev pub decreases-join : goal.decreases-join
decreases-join l = l.depth * 20 + 2

abbrev pub decreases-joins : goal.decreases-joins
decreases-joins l = l.depth * 20 + 3

abbrev pub decreases-source : goal.decreases-source
decreases-source l = l.depth * 20 + 4

abbrev pub decreases-sources : goal.decreases-sources
decreases-sources l = l.depth * 20 + 5

abbrev pub decreases-ranges : goal.decreases-ranges
decreases-ranges l = l.depth * 20 + 6

abbrev pub decreases-block : goal.decreases-block
decreases-block l = l.depth * 20 + 7

abbrev pub decreases-scalar : goal.decreases-scalar
decreases-scalar l = l.depth * 20 + 7

abbrev pub decreases-subquery : goal.decreases-subquery
decreases-subquery l = l.depth * 20 + 8

abbrev pub decreases-enclosed : goal.decreases-enclosed
decreases-enclosed l = l.depth * 20 + 8

abbrev pub decreases-exists : goal.decreases-exists
decreases-exists l = l.depth * 20 + 9

abbrev pub decreases-against : goal.decreases-against
decreases-against l = l.depth * 20 + 9

abbrev pub decreases-scalar_first : goal.decreases-scalar_first
decreases-scalar_first l = l.depth * 20 + 9

abbrev pub decreases-among_rows : goal.decreases-among_rows
decreases-among_rows l = l.depth * 20 + 9

abbrev pub decreases-beside : goal.decreases-beside
decreases-beside l = l.depth * 20 + 10

abbrev pub decreases-follows : goal.decreases-follows
decreases-follows l = l.depth * 20 + 11

abbrev pub decreases-valued : goal.decreases-valued
decreases-valued l = l.depth * 20 + 12

abbrev pub decreases-simple : goal.decreases-simple
decreases-simple l = l.depth * 20 + 13

abbrev pub decreases-test : goal.decreases-test
decreases-test l = l.depth * 20 + 14

abbrev pub decreases-negation : goal.decreases-negation
decreases-negation l = l.depth * 20 + 15

abbrev pub decreases-ands : goal.decreases-ands
decreases-ands l = l.depth * 20 + 16

abbrev pub decreases-conjunction : goal.decreases-conjunction
decreases-conjunction l = l.depth * 20 + 17

abbrev pub decreases-ors : goal.decreases-ors
decreases-ors l = l.depth * 20 + 18

abbrev pub decreases-disjunction : goal.decreases-disjunction
decreases-disjunction l = l.depth * 20 + 19

abbrev pub invariant-joins-loop-turn : goal.invariant-joins-loop-turn
invariant-joins-loop-turn l = joins_at (cond_at l.fn.depth) (length l.fn.tokens) [] l.fn.tokens ≡ joins_at (cond_at l.depth) (l._turn-end - l._turn) l.found l.rest

abbrev pub invariant-sources-loop-turn : goal.invariant-sources-loop-turn
invariant-sources-loop-turn l = list_at (source_at (cond_at l.fn.depth) l.fn.is_nested) l.fn.tokens ≡ others_at (source_at (cond_at l.depth) l.is_nested) (l._turn-end - l._turn) l.found l.rest

abbrev pub invariant-ands-loop-turn : goal.invariant-ands-loop-turn
invariant-ands-loop-turn l = ands_at l.fn.depth (cond_at l.fn.depth) (length l.fn.tokens) l.fn.first l.fn.tokens ≡ ands_at l.depth (cond_at l.depth) (l._turn-end - l._turn) l.found l.rest

abbrev pub invariant-ors-loop-turn : goal.invariant-ors-loop-turn
invariant-ors-loop-turn l = ors_at l.fn.depth (cond_at l.fn.depth) (length l.fn.tokens) l.fn.first l.fn.tokens ≡ ors_at l.depth (cond_at l.depth) (l._turn-end - l._turn) l.found l.rest
