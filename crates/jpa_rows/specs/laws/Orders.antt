-- Orders of the keys of finite maps.
use Rattle.std.specs.FinMap.{IsAntisymmetric}
use Rattle.std.specs.Cmp.{IsTotalOrder}
use Rattle.std.specs.declared.cmp.Ordering.{Ordering}

-- total, and only equal ones tie
pub record IsLinearOrder {K : Type 0} (by : K → K → Ordering) : Type 0 where
  pub total : IsTotalOrder by
  pub exact : IsAntisymmetric by
