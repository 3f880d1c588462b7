use Rattle.std.proofs.Common.{◌++◌, arith, ap, length, length-append, ◌∙◌, List, ℕ}
use Rattle.amqp_spool.specs.Entries.{Recorded, record_entry}
use Rattle.amqp_spool.specs.Waitings.{WaitingState, batch_len}
use Rattle.amqp_spool.proofs.Puttings.{appended_len, record_len, is_appended}
use Rattle.amqp_spool.proofs.waiting.Waiting.append.Goals as goal

pub returns-then-saturating_add-self-clause-reason : goal.returns-then-saturating_add-self-clause-reason
returns-then-saturating_add-self-clause-reason c =
    let r : Recorded = record { link = c.args.link; tag = c.args.tag.now; «record» = c.args.bytes.now } in
    let long = appended_len c.args.here.now c.args.again.now r c.args.self.now in
    let most = ap (λ (w : WaitingState). w.most) c.self.view_is in
    omega (arith, long, most, c.if-saturating_add-self.true, c.saturating_add.ensures, c.saturating_add-told.ensures, c.len.ensures.is)

pub invariant_of-self-2 : goal.invariant_of-self-2
invariant_of-self-2 c =
    let r : Recorded = record { link = c.args.link; tag = c.args.tag.now; «record» = c.args.bytes.now } in
    let s = c.self.inside in
    let here = c.args.here.now in
    let out = ap (λ (l : List ℕ). length l) c.in_ok-append_record.ensures.appended in
    let past = ap (λ (w : WaitingState). batch_len w) c.self.view_is in
    omega (
      arith,
      c.append_record.new.out.ok.0,
      s.here.ok.0,
      s.again.ok.0,
      out,
      past,
      length-append (s.here.items ++ here) (record_entry r),
      length-append s.here.items here,
      record_len r,
      c.fill.ensures.len,
      c.reserve.ensures.len,
      c.if-saturating_add-self.false,
      c.saturating_add.ensures,
      c.saturating_add-told.ensures,
      c.len.ensures.is,
      c.self.invariant,
    )

pub returns-clause-appended : goal.returns-clause-appended
returns-clause-appended c =
    let r : Recorded = record { link = c.args.link; tag = c.args.tag.now; «record» = c.args.bytes.now } in
    let w = c.args.self.now in
    let s = c.self.inside in
    let here = c.args.here.now in
    let again = c.args.again.now in
    let v = c.self.view_is in
    let past = ap (λ (x : WaitingState). batch_len x) v in
    let most = ap (λ (x : WaitingState). x.most) v in
    let count = ap (λ (x : WaitingState). x.count) v in
    is_appended w c.append_record.new.out.items c.fill.new.out.items here again r c.in-Some.count s.most
    (c.in_ok-append_record.ensures.appended ∙ ap (λ (x : WaitingState). x.here ++ here ++ record_entry r) v)
    (c.fill.ensures.items ∙ ap (λ (l : List ℕ). l ++ again) c.reserve.ensures.items ∙ ap (λ (x : WaitingState). x.again ++ again) v)
    (omega (arith, c.in-Some.ensures.1, count))
    most
    (omega (arith, c.in-Some.ensures))
    (omega (arith, past, most, c.if-saturating_add-self.false, c.saturating_add.ensures, c.saturating_add-told.ensures, c.len.ensures.is))
