use Rattle.std.proofs.Common.{arith}
use Rattle.std.proofs.lemmas.Bool.Decides.{nat_tests}
use Rattle.jpa_json.proofs.functions.Twos.{not_two}
use Rattle.jpa_json.proofs.functions.pairs.pair_in.Goals.{in_default-via-then-items-lt2, in_default-via-else-items-lt2+else-items-lt3}
use Rattle.jpa_json.proofs.functions.pairs.pair_in.Goals as goal

pub returns-in_default : goal.returns-in_default
returns-in_default c =
    not_two c.args.items.now (elim c.in_default.branch [
      | in_default-via-then-items-lt2 w ↦ λ e. grind (arith, nat_tests)
      | in_default-via-else-items-lt2+else-items-lt3 w ↦ λ e. grind (arith, nat_tests)
    ])
