use Rattle.std.proofs.Common.{◌≤◌, ap, length, arith}
use Rattle.std.proofs.lemmas.List.{length-append}
use Rattle.amqp_perform.specs.Said.{said}
use Rattle.amqp_send.specs.Sendings.{frame, open_said, begin_said, attach_said}
use Rattle.amqp_send.proofs.Lengths.{open_short, begin_short, attach_short, same_long}
use Rattle.amqp_send.proofs.frames.put_opening.Goals as goal

pub append-requires-clause-short : goal.append-requires-clause-short
append-requires-clause-short g c =
    let o : length (frame (said c.open.result)) ≤ 512 = same_long 512 (said c.open.result) (open_said c.as_str.result.now) c.open.ensures
    (open_short c.lengths_of_frames.ensures.lengths c.as_str.result.now (rw c.as_str.ensures.value c.requires.container_id)) in
    omega (arith, o)

pub append-requires-clause-room : goal.append-requires-clause-room
append-requires-clause-room g c =
    let o : length (frame (said c.open.result)) ≤ 512 = same_long 512 (said c.open.result) (open_said c.as_str.result.now) c.open.ensures
    (open_short c.lengths_of_frames.ensures.lengths c.as_str.result.now (rw c.as_str.ensures.value c.requires.container_id)) in
    omega (arith, o, c.requires.room)

pub append-requires-2-clause-short : goal.append-requires-2-clause-short
append-requires-2-clause-short g c =
    let b : length (frame (said c.begin.result)) ≤ 512 = same_long 512 (said c.begin.result) begin_said c.begin.ensures (begin_short c.lengths_of_frames.ensures.lengths) in
    omega (arith, b)

pub append-requires-2-clause-room : goal.append-requires-2-clause-room
append-requires-2-clause-room g c =
    let o : length (frame (said c.open.result)) ≤ 512 = same_long 512 (said c.open.result) (open_said c.as_str.result.now) c.open.ensures
    (open_short c.lengths_of_frames.ensures.lengths c.as_str.result.now (rw c.as_str.ensures.value c.requires.container_id)) in
    let b : length (frame (said c.begin.result)) ≤ 512 = same_long 512 (said c.begin.result) begin_said c.begin.ensures (begin_short c.lengths_of_frames.ensures.lengths) in
    omega (arith, o, b, c.requires.room, ap length c.append.ensures, length-append c.args.output.now (frame (said c.open.result)))

pub append-requires-3-clause-short : goal.append-requires-3-clause-short
append-requires-3-clause-short g c =
    let a : length (frame (said c.attach.result)) ≤ 512 = same_long 512 (said c.attach.result) (attach_said c.as_str-2.result.now) c.attach.ensures
    (attach_short c.lengths_of_frames.ensures.lengths c.as_str-2.result.now (rw c.as_str-2.ensures.value c.requires.name)) in
    omega (arith, a)

pub append-requires-3-clause-room : goal.append-requires-3-clause-room
append-requires-3-clause-room g c =
    let o : length (frame (said c.open.result)) ≤ 512 = same_long 512 (said c.open.result) (open_said c.as_str.result.now) c.open.ensures
    (open_short c.lengths_of_frames.ensures.lengths c.as_str.result.now (rw c.as_str.ensures.value c.requires.container_id)) in
    let b : length (frame (said c.begin.result)) ≤ 512 = same_long 512 (said c.begin.result) begin_said c.begin.ensures (begin_short c.lengths_of_frames.ensures.lengths) in
    let a : length (frame (said c.attach.result)) ≤ 512 = same_long 512 (said c.attach.result) (attach_said c.as_str-2.result.now) c.attach.ensures
    (attach_short c.lengths_of_frames.ensures.lengths c.as_str-2.result.now (rw c.as_str-2.ensures.value c.requires.name)) in
    omega (
      arith,
      o,
      b,
      a,
      c.requires.room,
      ap length c.append.ensures,
      length-append c.args.output.now (frame (said c.open.result)),
      ap length c.append-2.ensures,
      length-append c.append.new.self (frame (said c.begin.result)),
    )
