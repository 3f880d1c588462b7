-- What a policy's rule lacks.
use Rattle.std.proofs.Common.{arith, ◌≡◌, ◌-◌, Bool, true, false, refl}
use Rattle.std.specs.Prelude.{if◌then◌else◌, min, nat_le}
use Rattle.std.proofs.lemmas.Bool.{leb-false}
use Rattle.amqp_link.specs.Links.{open_count}
use Rattle.amqp_session.specs.declared.slot.Slot.{Slot}
use Rattle.amqp_session.specs.declared.slot.Slot.TheVariants.{Free, Live, Waits as Awaits}
use Rattle.amqp_session.specs.Sessions.{LiveLink}
use Rattle.amqp_serve.specs.declared.rules.Rule.{Rule}
use Rattle.amqp_serve.specs.declared.serving.Policy.{Policy}
use Rattle.amqp_serve.specs.Policies.{rule_of}
use Rattle.amqp_serve.specs.Serving.{credit_lack}

-- all that a link is short of the policy's credit: where it has more than the mark, that is nothing
pub policy_lacks : (p : Policy) (l : LiveLink) → credit_lack (rule_of p) (Live l) ≡ min (p.credit - l.link.credit) (l.link.terms.bounds.allowed - l.link.credit - open_count l.link)
policy_lacks p l = by (nat_le l.link.credit (p.credit - 1)) refl
  where
    by : (low : Bool) → nat_le l.link.credit (p.credit - 1) ≡ low →
        (if low then min (p.credit - l.link.credit) (l.link.terms.bounds.allowed - l.link.credit - open_count l.link) else 0) ≡ min (p.credit - l.link.credit) (l.link.terms.bounds.allowed - l.link.credit - open_count l.link)
    by true is = refl
    by false is = omega (arith, leb-false l.link.credit (p.credit - 1) is)

-- nothing is short of no credit
pub none_lacked : (r : Rule) (x : Slot LiveLink) → r.credit ≡ 0 → credit_lack r x ≡ 0
none_lacked r Free none = refl
none_lacked r (Live l) none = by (nat_le l.link.credit r.mark)
  where
    by : (low : Bool) → (if low then min (r.credit - l.link.credit) (l.link.terms.bounds.allowed - l.link.credit - open_count l.link) else 0) ≡ 0
    by true = omega (arith, none)
    by false = refl
none_lacked r Awaits none = refl
