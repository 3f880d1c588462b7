use Rattle.std.proofs.Common.{ℕ, ◌-◌, List, length, take, drop, sym, subst, ◌∙◌}
use Rattle.std.proofs.lemmas.List.{take-append-drop}
use Rattle.amqp_sasl.specs.Composites.{AreItems, first_of, others_of}
use Rattle.amqp_sasl.proofs.Peeking.{shows, has_first, taken_rest}
use Rattle.amqp_sasl.proofs.fields.Items.take.Goals as goal

pub returns-in_default : goal.returns-in_default
returns-in_default c = λ ts h.
    let f = has_first ts c.args.self.now.left c.args.self.now.bytes.now h c.if-self-eq0.false in
    c.in_default.not-Ok (length f.text) (c.skip.ensures.only (first_of ts) f.text f.rest f.spelled f.flat f.joined)

pub peek-case-requires : goal.peek-case-requires
peek-case-requires c =
    let found = c.in-Ok.ensures.found in
    (found.0, take c.in-Ok.len c.args.self.now.bytes.now, drop c.in-Ok.len c.args.self.now.bytes.now, found.1, sym (take-append-drop c.in-Ok.len c.args.self.now.bytes.now))

pub returns : goal.returns
returns c = λ ts h.
    let f = has_first ts c.args.self.now.left c.args.self.now.bytes.now h c.if-self-eq0.false in
    let len = c.skip.ensures.only (first_of ts) f.text f.rest f.spelled f.flat f.joined in
    let rest = taken_rest c.args.self.now.bytes.now f.text f.rest c.in-Ok.len f.joined (sym c.in-Ok.is ∙ len) in (
      shows (first_of ts) f.text c.peek-case.result (c.peek-case.ensures (first_of ts) f.text f.rest f.spelled f.joined),
      subst (λ (x : List ℕ). AreItems (others_of ts) (c.args.self.now.left - 1) x) (sym rest) f.others,
    )
