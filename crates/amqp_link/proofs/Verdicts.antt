-- What a transfer comes to, before anything is done.
use Rattle.std.proofs.Common.{◌≡◌, Some, refl, ap}
use Rattle.std.specs.Prelude.{Bool, false, not, ◌&&◌, cond, is_none}
use Rattle.std.proofs.lemmas.Bool.{and_right}
use Rattle.amqp_link.specs.declared.transfer.LinkFault.TheVariants.{InvalidField}
use Rattle.amqp_link.specs.Links.{LinkState, Sent, fault_of, known_fault}

-- where no id is known, its first fault is the link's
pub not_known : (s : LinkState) (t : Sent) → known_fault false s t ≡ fault_of s t
not_known s t = ap (λ (b : Bool). cond b (Some InvalidField) (fault_of s t)) (and_right (not t.resume) (is_none s.unfinished && false) (and_right (is_none s.unfinished) false refl))
