use Rattle.std.proofs.Common.{◌≡◌, ◌+◌, ◌++◌, drop, string_bytes, encode_utf8_all}
use Rattle.jpql_meaning.specs.eval.Texts as texts
use Rattle.jpql_meaning.proofs.eval.texts.written.Given as goal

abbrev pub invariant-loop-i : goal.invariant-loop-i
invariant-loop-i l =
    let of = texts.those_from in
    let end = texts.end_of l.places.from l.places.count in
    encode_utf8_all (of 1 l.places.from end l.all) ≡ string_bytes l.part ++ encode_utf8_all (of (l.i + 1) l.places.from end (drop l.i l.all))
