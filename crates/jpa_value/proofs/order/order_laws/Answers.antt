use Rattle.jpa_value.proofs.Orders.{value_total, key_total, identity_total, value_exact, key_exact, identity_exact}
use Rattle.jpa_value.proofs.order.order_laws.Goals as goal

pub returns-clause-values : goal.returns-clause-values
returns-clause-values c = value_total

pub returns-clause-keys : goal.returns-clause-keys
returns-clause-keys c = key_total

pub returns-clause-identities : goal.returns-clause-identities
returns-clause-identities c = identity_total

pub returns-clause-value_ties : goal.returns-clause-value_ties
returns-clause-value_ties c = value_exact

pub returns-clause-key_ties : goal.returns-clause-key_ties
returns-clause-key_ties c = key_exact

pub returns-clause-identity_ties : goal.returns-clause-identity_ties
returns-clause-identity_ties c = identity_exact
