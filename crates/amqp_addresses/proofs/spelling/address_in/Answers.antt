-- amqp_addresses/proofs/spelling/address_in/Answers.antt
use Rattle.std.proofs.Common.{subst, List, ℕ}
use Rattle.std.specs.Str.{IsUtf8}
use Rattle.amqp_addresses.specs.Spelling.{spelled}
use Rattle.amqp_addresses.proofs.Spellings.{is_text, is_no_text}
use Rattle.amqp_addresses.proofs.spelling.address_in.Goals as goal

pub returns-in-Ok : goal.returns-in-Ok
returns-in-Ok c = is_text (spelled c.args.text.now) c.in_ok-address.address.items c.in_ok-address.ensures
    (subst (λ (x : List ℕ). IsUtf8 x) c.deref.ensures.value c.in-Ok.ensures.cases.1)

pub returns-in-Err : goal.returns-in-Err
returns-in-Err c = is_no_text (spelled c.args.text.now) c.in_ok-address.address.items c.in_ok-address.ensures
    (subst (λ (x : List ℕ). IsUtf8 x → ⊥) c.deref.ensures.value c.in-Err.ensures.cases.0)
