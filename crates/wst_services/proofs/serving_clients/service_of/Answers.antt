-- A plan's service has what the plan has.
use Rattle.std.proofs.Common.{refl}
use Rattle.wst_services.proofs.serving_clients.service_of.Goals as goal

pub returns-clause-is : goal.returns-clause-is
returns-clause-is c = record {
  known = c.as_slice.ensures.names;
  limits = refl;
  budget = refl;
  limit = c.milliseconds.ensures;
  deadline = c.milliseconds-2.ensures;
  at_once = refl;
  count = c.wide.ensures;
}
