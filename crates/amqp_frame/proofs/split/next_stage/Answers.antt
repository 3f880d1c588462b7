use Rattle.std.proofs.Common.{◌≡◌, true, false, cond, sym, ap, refl, ◌∙◌}
use Rattle.std.specs.Str.{bytes_eq}
use Rattle.amqp_frame.specs.Units.{FrameUnit, FaultUnit}
use Rattle.amqp_frame.specs.declared.units.TheConstants.{HEADER}
use Rattle.amqp_frame.specs.declared.units.Stage.TheVariants.{Frames, Refused}
use Rattle.amqp_frame.proofs.Fronts.{next_header}
use Rattle.amqp_frame.proofs.split.next_stage.Goals as goal

pub returns-then-eq : goal.returns-then-eq
returns-then-eq c =
    let same : bytes_eq c.args.bytes.now HEADER ≡ true = ap (bytes_eq c.args.bytes.now) (sym c.as_slice.ensures) ∙ sym c.eq.ensures ∙ c.if-eq.true in
    rw c.in-Header.is (next_header c.args.max c.args.bytes.now Frames (rw c.in-Header.is at c.requires.held) c.if-bytes-lt8.false (ap (λ b. cond b Frames Refused) (sym same)))

pub returns-else-eq : goal.returns-else-eq
returns-else-eq c =
    let other : bytes_eq c.args.bytes.now HEADER ≡ false = ap (bytes_eq c.args.bytes.now) (sym c.as_slice.ensures) ∙ sym c.eq.ensures ∙ c.if-eq.false in
    rw c.in-Header.is (next_header c.args.max c.args.bytes.now Refused (rw c.in-Header.is at c.requires.held) c.if-bytes-lt8.false (ap (λ b. cond b Frames Refused) (sym other)))

pub returns-in-Whole : goal.returns-in-Whole
returns-in-Whole c = rw c.in-Frames.is (FrameUnit c.args.bytes.now, record { is = rw (c.in-Frames.is, c.in-Whole.is) at c.requires.judged; whole = refl }, refl)

pub returns-in-Fails : goal.returns-in-Fails
returns-in-Fails c = rw c.in-Frames.is (FaultUnit c.in-Fails.fault c.args.bytes.now, record { is = rw (c.in-Frames.is, c.in-Fails.is) at c.requires.judged; whole = refl }, refl)
