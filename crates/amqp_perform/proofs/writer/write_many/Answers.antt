use Rattle.std.proofs.Common.{length, refl, arith}
use Rattle.amqp_perform.specs.Frames.{field_spellings}
use Rattle.amqp_perform.proofs.Framed.{width_is, frame_len, not_written}
use Rattle.amqp_perform.proofs.writer.write_many.Goals as goal

pub returns-then-len-room : goal.returns-then-len-room
returns-then-len-room c = λ texts same.
    let width = width_is c.args.values.now (length c.args.values.now) c.args.content c.list_width.result refl c.requires.content c.list_width.ensures.width in
    let len = frame_len c.args.head.channel c.args.head.descriptor texts (field_spellings c.args.values.now) c.args.payload.now same in
    not_written _ _ _ _ refl refl (λ fits. omega (arith, fits.0, fits.1, width, len))

pub returns : goal.returns
returns c = λ texts same.
    let width = width_is c.args.values.now (length c.args.values.now) c.args.content c.list_width.result refl c.requires.content c.list_width.ensures.width in
    let len = frame_len c.args.head.channel c.args.head.descriptor texts (field_spellings c.args.values.now) c.args.payload.now same in record {
      written = c.write_parts.ensures texts same;
      fits = (λ _. (omega (arith, width, len), omega (arith, width, len)), λ _. refl);
      unchanged = tt;
    }
