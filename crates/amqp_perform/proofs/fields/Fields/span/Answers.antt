use Rattle.std.proofs.Common.{◌≡◌, ℕ, [], ◌∷◌, Ok, Result, sym, rules}
use Rattle.std.proofs.lemmas.Slice.Eq.{bytes_eq-Decides}
use Rattle.amqp_types.specs.declared.fault.ReadFault.{ReadFault}
use Rattle.amqp_perform.proofs.Spans.{lent, not_equal}
use Rattle.amqp_perform.proofs.fields.Fields.span.Goals as goal

pub returns-then-eq : goal.returns-then-eq
returns-then-eq c =
    let is : ◌≡◌ {A = Result ℕ ReadFault} c.skip.result (Ok c.in_ok-len.len) = search rules in
    let null = (bytes_eq-Decides c.in_ok-span.span.now (64 ∷ [])).0 (sym (rw c.as_slice.ensures at c.if-eq.ensures)) in
    (lent c.args.self.now.left c.in_ok-len.len c.args.self.now.items.bytes.now c.in_ok-span.span.now c.octets.new.self.bytes.now c.skip.result c.if-self-eq0.false is
    c.skip.ensures.within c.skip.ensures.found c.skip.ensures.exact c.in_ok-span.ensures).0 null

pub returns-else-eq : goal.returns-else-eq
returns-else-eq c =
    let is : ◌≡◌ {A = Result ℕ ReadFault} c.skip.result (Ok c.in_ok-len.len) = search rules in
    let other = not_equal c.in_ok-span.span.now (64 ∷ []) (sym (rw c.as_slice.ensures at c.if-eq.ensures)) in
    (lent c.args.self.now.left c.in_ok-len.len c.args.self.now.items.bytes.now c.in_ok-span.span.now c.octets.new.self.bytes.now c.skip.result c.if-self-eq0.false is
    c.skip.ensures.within c.skip.ensures.found c.skip.ensures.exact c.in_ok-span.ensures).1 other
