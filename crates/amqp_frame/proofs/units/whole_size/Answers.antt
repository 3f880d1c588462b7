use Rattle.std.proofs.Common.{refl, arith}
use Rattle.amqp_frame.proofs.Fronts.{IsLawful, frame_front, whole_at}
use Rattle.amqp_frame.proofs.units.whole_size.Goals as goal
use Rattle.amqp_frame.proofs.units.whole_size.Goals.{else-size-bytes-via-then-size-bytes+else-is_lawful, else-size-bytes-via-else-size-bytes}

pub returns-then-bytes-lt-FRAME_HEADER : goal.returns-then-bytes-lt-FRAME_HEADER
returns-then-bytes-lt-FRAME_HEADER c = λ n l h. let k = whole_at c.args.max c.args.bytes.now n l h in let e = k.eight in absurd (omega arith)

pub returns-then-is_lawful : goal.returns-then-is_lawful
returns-then-is_lawful c =
    let h = c.if-is_lawful.ensures.0 refl in
    let z : IsLawful c.args.max c.args.bytes.now = record {
      sized = record { least = omega arith; most = omega arith };
      placed = record { least = omega arith; within = omega arith };
      typed = omega arith;
    } in
    rw c.size_in-size.ensures (omega arith, frame_front c.args.max c.args.bytes.now z (omega arith))

pub returns-else-size-bytes : goal.returns-else-size-bytes
returns-else-size-bytes c = λ n l h.
    let k = whole_at c.args.max c.args.bytes.now n l h in
    let e = k.size in
    elim c.else-size-bytes.branch [
      | else-size-bytes-via-then-size-bytes+else-is_lawful w ↦
          let x = w.if-is_lawful.ensures in
          let sized = k.lawful.sized in
          let placed = k.lawful.placed in
          let typed = k.lawful.typed in
          absurd (let no = x.1 (omega arith, placed.least, omega arith, typed) in cc)
      | else-size-bytes-via-else-size-bytes w ↦ absurd (omega arith)
    ]
