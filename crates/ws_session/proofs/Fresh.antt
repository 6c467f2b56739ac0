-- A session that has sent and taken nothing.
use Rattle.std.proofs.Common.{false, [], Option, None, refl, arith}
use Rattle.ws_wire.specs.declared.role.Role.{Role}
use Rattle.ws_session.specs.declared.message.Message.{Message}
use Rattle.ws_session.specs.Limits.{LimitsValue}
use Rattle.ws_session.specs.Faults.{HasNoFault}
use Rattle.ws_session.specs.Events.{HasEvents}
use Rattle.ws_session.specs.InnerNextFrame.{IsPartOfFrame}
use Rattle.ws_session.specs.declared.status.Status.TheVariants as status
use Rattle.ws_session.specs.Exchange.{HasExchanged}
use Rattle.ws_session.proofs.Next.{place_is, two_bytes}
use Rattle.ws_session.proofs.OneMoreFrame.{none_in_nothing}

pub no_fault_in_nothing : (role : Role) (limits : LimitsValue) → HasNoFault role limits []
no_fault_in_nothing role limits n r f = omega (arith, f.long, place_is role limits [] n r f, two_bytes f.header)

pub no_events : (role : Role) (limits : LimitsValue) → HasEvents role limits [] []
no_events role limits = record {
  frames = [];
  rest = [];
  split = record { each = tt; whole = refl; left = none_in_nothing };
  fault = None;
  is_fault = no_fault_in_nothing role limits;
  are = refl;
}

pub fresh : (role : Role) (limits : LimitsValue) → HasExchanged (record { role = role; limits = limits; opened = None; partial_frame = []; kept = 0; sending = None; status = status.Open }) [] [] false
unfolding no_events
fresh role limits = record { bytes = λ i. omega arith; events = []; has_events = no_events role limits; status = refl; taking = λ going. (refl, refl); sending = tt }

-- no part of a frame is no frame and no fault
pub part_of_nothing : (role : Role) (limits : LimitsValue) (opened : Option Message) → IsPartOfFrame role limits opened []
part_of_nothing role limits opened = record { clean = λ n r f. let e = f.parts in absurd cc; none = none_in_nothing }
