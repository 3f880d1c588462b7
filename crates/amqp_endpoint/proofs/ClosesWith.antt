-- A close with an error is refused where a close is, or for its words.
use Rattle.std.proofs.Common.{arith, ◌≡◌, ◌+◌, ◌≤◌, ℕ, Bool, true, false, not, List, length, refl, Option, Some, None}
use Rattle.amqp_reason.specs.Reasons.{Reason, is_valid}
use Rattle.amqp_session.specs.Faults.{or_else, where_so}
use Rattle.amqp_endpoint.specs.declared.fault.CallFault.{CallFault}
use Rattle.amqp_endpoint.specs.declared.fault.CallFault.TheVariants as refused
use Rattle.amqp_endpoint.specs.Calls.{dead_fault, unopened_fault, full_fault, reason_fault, open_call_fault, close_with_fault}
use Rattle.amqp_endpoint.specs.Connections.{ConnectionState}
use Rattle.amqp_session.proofs.Firsts.{neither, not_so}
use Rattle.std.proofs.lemmas.Bool.{ltb-false}
use Rattle.std.specs.Prelude.{nat_lt}

-- without the third of four
without : (a b c d : Option CallFault) → or_else a (or_else b (or_else c d)) ≡ None → (or_else a (or_else b d) ≡ None) × (c ≡ None)
without None None None d e = (e, refl)
without None None (Some f) d e = absurd (grind (arith, e))
without None (Some f) c d e = absurd (grind (arith, e))
without (Some f) b c d e = absurd (grind (arith, e))

valid_when : (b : Bool) → where_so (not b) refused.BadError ≡ None → b ≡ true
valid_when true e = refl
valid_when false e = absurd (grind (arith, e))

pub open_then : (s : ConnectionState) (unsent : List ℕ) (r : Reason) → close_with_fault s unsent r ≡ None → open_call_fault s unsent ≡ None
open_then s unsent r none = (without (dead_fault s) (unopened_fault s) (reason_fault r) (full_fault unsent) none).0

pub valid_then : (s : ConnectionState) (unsent : List ℕ) (r : Reason) → close_with_fault s unsent r ≡ None → is_valid r ≡ true
valid_then s unsent r none = valid_when (is_valid r) (without (dead_fault s) (unopened_fault s) (reason_fault r) (full_fault unsent) none).1

not_full : (unsent : List ℕ) → full_fault unsent ≡ None → length unsent + 2560 ≤ 8192
not_full unsent e =
    ltb-false 8192 (length unsent + 2560) (not_so (nat_lt 8192 (length unsent + 2560)) refused.Full (again (nat_lt 8192 (length unsent + 2560)) e))
  where
    again : (b : Bool) → where_so (not (not b)) refused.Full ≡ None → where_so b refused.Full ≡ None
    again true e = absurd (grind (arith, e))
    again false e = refl

-- there is room for it
pub room_then : (s : ConnectionState) (unsent : List ℕ) (r : Reason) → close_with_fault s unsent r ≡ None → length unsent + 2560 ≤ 8192
room_then s unsent r none =
    not_full unsent (neither (unopened_fault s) (full_fault unsent) (neither (dead_fault s) (or_else (unopened_fault s) (full_fault unsent)) (open_then s unsent r none)).1).1
