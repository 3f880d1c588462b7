use Rattle.std.proofs.Common.{inl, inr, arith}
use Rattle.amqp_frame.proofs.Fronts.{wants_size, wants_header, wants_body, fails_small, fails_large, fails_offset, fails_type, is_whole}
use Rattle.amqp_frame.specs.Units.{IsSized, IsPlaced}
use Rattle.amqp_frame.proofs.units.progress_of.Goals as goal
use Rattle.amqp_frame.proofs.units.progress_of.Goals.{then-place-lt-FRAME_HEADER-via-then-place-lt-FRAME_HEADER, then-place-lt-FRAME_HEADER-via-else-place-lt-FRAME_HEADER+then-place-size}

pub returns-then-bytes-lt4 : goal.returns-then-bytes-lt4
returns-then-bytes-lt4 c = wants_size c.args.max c.args.bytes.now c.requires.least c.if-bytes-lt4.true

pub returns-then-size-lt-FRAME_HEADER : goal.returns-then-size-lt-FRAME_HEADER
returns-then-size-lt-FRAME_HEADER c = fails_small c.args.max c.args.bytes.now c.requires.least c.requires.held c.if-bytes-lt4.false (omega arith)

pub returns-then-size-max : goal.returns-then-size-max
returns-then-size-max c = fails_large c.args.max c.args.bytes.now c.requires.least c.requires.held c.if-bytes-lt4.false (omega arith)

pub returns-then-bytes-lt-FRAME_HEADER : goal.returns-then-bytes-lt-FRAME_HEADER
returns-then-bytes-lt-FRAME_HEADER c =
    wants_header c.args.max c.args.bytes.now c.requires.least c.if-bytes-lt4.false (omega arith) (record { least = omega arith; most = omega arith })

pub returns-then-place-lt-FRAME_HEADER : goal.returns-then-place-lt-FRAME_HEADER
returns-then-place-lt-FRAME_HEADER c =
    fails_offset c.args.max c.args.bytes.now c.requires.least c.requires.held (omega arith) (record { least = omega arith; most = omega arith })
    (elim c.then-place-lt-FRAME_HEADER.branch [
      | then-place-lt-FRAME_HEADER-via-then-place-lt-FRAME_HEADER w ↦ inl (omega arith)
      | then-place-lt-FRAME_HEADER-via-else-place-lt-FRAME_HEADER+then-place-size w ↦ inr (omega arith)
    ])

pub returns-then-bytes-ne0 : goal.returns-then-bytes-ne0
returns-then-bytes-ne0 c =
    fails_type c.args.max c.args.bytes.now c.requires.least c.requires.held (omega arith) (record { least = omega arith; most = omega arith }) (record { least = omega arith; within = omega arith })
    (omega arith)

pub returns-then-bytes-size : goal.returns-then-bytes-size
returns-then-bytes-size c =
    let sized : IsSized c.args.max c.args.bytes.now = record { least = omega arith; most = omega arith } in
    let placed : IsPlaced c.args.bytes.now = record { least = omega arith; within = omega arith } in
    rw c.size_in-size.ensures (wants_body c.args.max c.args.bytes.now (omega arith) (omega arith) (record { sized = sized; placed = placed; typed = omega arith }))

pub returns : goal.returns
returns c =
    let sized : IsSized c.args.max c.args.bytes.now = record { least = omega arith; most = omega arith } in
    let placed : IsPlaced c.args.bytes.now = record { least = omega arith; within = omega arith } in
    is_whole c.args.max c.args.bytes.now c.requires.least c.requires.held (record { sized = sized; placed = placed; typed = omega arith }) (omega arith)
