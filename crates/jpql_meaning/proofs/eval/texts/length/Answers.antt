use Rattle.std.proofs.Common.{rules, arith, ◌≡◌, length, chars}
use Rattle.std.proofs.lemmas.Int.{ints}
use Rattle.std.proofs.lemmas.Str.{chars_from_encodes}
use Rattle.jpql_meaning.proofs.eval.texts.length.Goals as goal

pub returns : goal.returns
returns c = let e : c.count.result ≡ length (chars c.args.text.now) = search (rules, chars_from_encodes) in grind (arith, ints)
