use Rattle.std.proofs.Common.{inl, arith, rules}
use Rattle.amqp_frame.specs.Rooms.{whole_length}
use Rattle.amqp_frame.proofs.Fronts.{whole_one, whole_sound}
use Rattle.amqp_frame.proofs.split.fill.Goals as goal

pub returns-in-Some-clause-filled : goal.returns-in-Some-clause-filled
returns-in-Some-clause-filled g c =
    let came = c.extend.ensures.filled in
    record {
      bound = search rules;
      bytes = came;
      sound =
          whole_sound c.args.max c.args.stage c.args.bytes.now.filled c.args.piece.now c.extend.new.self.filled c.in-Some.size
          (whole_length c.extend.new.self) c.requires.least (let k = c.extend.ensures.whole in let r = c.requires.room in omega (arith, k, r))
          (rw c.as_slice.ensures at c.in-Some.ensures) came;
    }

pub returns-in-Some-clause-all : goal.returns-in-Some-clause-all
returns-in-Some-clause-all g c = λ short.
    inl
    (whole_one c.args.max c.args.stage c.args.bytes.now.filled c.args.piece.now c.extend.new.self.filled c.in-Some.size
    (rw c.as_slice.ensures at c.in-Some.ensures) c.extend.ensures.filled)
