use Rattle.std.proofs.Common.{ℕ, ◌+◌, refl, sym, ap, subst, ◌∙◌}
use Rattle.amqp_frame.specs.Splits.{IsOver}
use Rattle.amqp_dump.specs.declared.scan.Scanner.{Scanner}
use Rattle.amqp_dump.specs.Entries.{entry_of}
use Rattle.amqp_dump.specs.Steps.{TellsWaiting, IsReady}
use Rattle.amqp_dump.proofs.Tellings.{goes_unit, goes_none, none_waits}
use Rattle.amqp_dump.proofs.scan.Scanner.next.Goals as goal

pub returns-clause-told : goal.returns-clause-told
returns-clause-told c =
    let waits : TellsWaiting c.args.self.now.place c.push-count.new.self c.in-Some.item = rw c.in-Some.is at c.in_ok-item.ensures in
    let s : Scanner = record { splitter = c.drop_frame.new.self; place = c.args.self.now.place + c.len.result } in (
      entry_of c.in-Some.item,
      sym c.is_fault-is_fault.ensures,
      c.in_ok-put_line.ensures,
      goes_unit c.args.self.now c.push-count.new.self s c.args.piece.now c.args.at.now c.push-count.result c.in-Some.item
          (record { limit = c.push-count.ensures.limit; stage = c.push-count.ensures.stage; filled = c.push-count.ensures.filled; history = c.push-count.ensures.history })
          waits
          (record { goes = c.drop_frame.ensures.goes; held = c.drop_frame.ensures.held; history = c.drop_frame.ensures.history })
          (ap (λ (n : ℕ). c.args.self.now.place + n) c.len.ensures),
    )

pub returns-in_default-clause-told : goal.returns-in_default-clause-told
returns-in_default-clause-told c =
    let s : Scanner = record { splitter = c.push-count.new.self; place = c.args.self.now.place } in
    let ready : IsReady s = record {
      limit = c.push-count.ensures.limit ∙ c.requires.ready.limit;
      held = c.push-count.ensures.held;
      due = λ over. c.requires.ready.due (subst IsOver c.push-count.ensures.stage over);
      none = none_waits c.args.self.now.place c.push-count.new.self c.in_ok-item.field-0 c.in_ok-item.ensures (λ x same. c.in_default.not-Some x same);
    } in (
      goes_none c.args.self.now s c.args.piece.now c.args.at.now c.push-count.result refl ready c.requires.within c.push-count.ensures.bound c.push-count.ensures.all
          (record { limit = c.push-count.ensures.limit; stage = c.push-count.ensures.stage; filled = c.push-count.ensures.filled; history = c.push-count.ensures.history }),
      refl,
    )
