use Rattle.std.proofs.Common.{arith, inl}
use Rattle.amqp_frame.specs.declared.units.Stage.TheVariants.{Frames}
use Rattle.amqp_frame.specs.Splits.{IsHeld}
use Rattle.amqp_frame.proofs.Fronts.{header_upto, wants_eight, header_one, judged, wants_none, asked_none}
use Rattle.amqp_frame.proofs.split.wanted.Goals as goal

pub overflow_sub-result : goal.overflow_sub-result
overflow_sub-result c = header_upto c.args.max c.args.bytes.now (rw c.in-Header.is at c.requires.held)

pub returns-in-Header-clause-wanted : goal.returns-in-Header-clause-wanted
returns-in-Header-clause-wanted c = rw c.in-Header.is (wants_eight c.args.max c.args.bytes.now c.requires.least (rw c.in-Header.is at c.requires.held))

pub returns-in-Header-clause-full : goal.returns-in-Header-clause-full
returns-in-Header-clause-full c =
    let l = header_upto c.args.max c.args.bytes.now (rw c.in-Header.is at c.requires.held) in
    rw c.in-Header.is (λ h. inl (header_one c.args.max c.args.bytes.now (omega arith)))

pub returns-in-Whole : goal.returns-in-Whole
returns-in-Whole c =
    let held : IsHeld c.args.max Frames c.args.bytes.now = rw c.in-Frames.is at c.requires.held in
    let known = judged c.args.max c.args.bytes.now c.args.progress c.requires.least (rw c.in-Frames.is at c.requires.judged) c.in-Whole.is in
    rw c.in-Frames.is (record { wanted = wants_none c.args.max Frames c.args.bytes.now known.0 held; full = λ _. inl known.1; asked = asked_none c.args.max Frames c.args.bytes.now known.1 })
