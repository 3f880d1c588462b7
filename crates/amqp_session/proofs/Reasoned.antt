-- Why a call with a reason is refused, and what is said for one that isn't.
use Rattle.std.proofs.Common.{◌≡◌, true, false, [], ◌∷◌, refl, Option, Some, None}
use Rattle.std.specs.Prelude.{unwrap_or}
use Rattle.amqp_perform.specs.Said.{Said}
use Rattle.amqp_reason.specs.Reasons.{Reason, is_valid}
use Rattle.amqp_session.specs.declared.fault.CallFault.{CallFault}
use Rattle.amqp_session.specs.declared.fault.CallFault.TheVariants as refused
use Rattle.amqp_session.specs.Calls.{reason_fault, if_valid}
use Rattle.amqp_session.specs.Faults.{or_else}

-- with words that are valid the fault is that of the call without them
pub good_fault : (o : Option CallFault) (r : Reason) → is_valid r ≡ true → or_else o (reason_fault r) ≡ o
good_fault None r valid = rw valid refl
good_fault (Some fault) r valid = refl

-- with others there is one
pub bad_fault : (o : Option CallFault) (r : Reason) → is_valid r ≡ false → or_else o (reason_fault r) ≡ Some (unwrap_or o refused.BadError)
bad_fault None r bad = rw bad refl
bad_fault (Some fault) r bad = refl

pub said_valid : (r : Reason) (x : Said) → is_valid r ≡ true → if_valid r x ≡ x ∷ []
said_valid r x valid = rw valid refl
