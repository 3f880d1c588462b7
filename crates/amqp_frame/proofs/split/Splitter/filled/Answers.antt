use Rattle.std.proofs.Common.{arith, ◌++◌, take, refl, subst}
use Rattle.amqp_frame.specs.declared.units.Stage.{Stage}
use Rattle.amqp_frame.specs.Splits.{SplitterState, IsHeld}
use Rattle.amqp_frame.proofs.Histories.{more_came}
use Rattle.amqp_frame.proofs.Fronts.{room_filled, room_taken, judged_other}
use Rattle.amqp_frame.proofs.split.Splitter.filled.Goals as goal

pub progress_of-self-inside-requires-clause-held : goal.progress_of-self-inside-requires-clause-held
progress_of-self-inside-requires-clause-held g c =
    let i = c.self.inside in
    let s : SplitterState = record { limit = i.limit; stage = i.stage; filled = i.bytes.filled; spare = i.bytes.spare; reach = i.bytes.reach } in
    let came = room_filled s i.progress c.args.n c.self.invariant (rw (← c.self.view_is) at c.requires) in
    rw c.as_slice.ensures (rw c.fill.ensures.filled (subst (λ (k : Stage). IsHeld i.limit k (i.bytes.filled ++ take c.args.n i.bytes.spare)) c.in-Frames.is came.1))

pub invariant_of-self : goal.invariant_of-self
invariant_of-self g c =
    let i = c.self.inside in
    let s : SplitterState = record { limit = i.limit; stage = i.stage; filled = i.bytes.filled; spare = i.bytes.spare; reach = i.bytes.reach } in
    let came = room_filled s i.progress c.args.n c.self.invariant (rw (← c.self.view_is) at c.requires) in
    record {
      least = c.self.invariant.least;
      room = omega (arith, c.self.invariant.room, c.fill.ensures.whole);
      held = rw c.fill.ensures.filled came.1;
      judged = rw c.in-Frames.is (rw (← c.as_slice.ensures) c.progress_of-self-inside.ensures);
    }

pub invariant_of-self-in_default : goal.invariant_of-self-in_default
invariant_of-self-in_default g c =
    let i = c.self.inside in
    let s : SplitterState = record { limit = i.limit; stage = i.stage; filled = i.bytes.filled; spare = i.bytes.spare; reach = i.bytes.reach } in
    let came = room_filled s i.progress c.args.n c.self.invariant (rw (← c.self.view_is) at c.requires) in
    record {
      least = c.self.invariant.least;
      room = omega (arith, c.self.invariant.room, c.fill.ensures.whole);
      held = rw c.fill.ensures.filled came.1;
      judged = judged_other i.limit i.stage c.fill.new.self.filled i.progress c.in_default.not-Frames;
    }

pub returns-in-Frames-clause-taken : goal.returns-in-Frames-clause-taken
returns-in-Frames-clause-taken g c =
    let i = c.self.inside in
    let s : SplitterState = record { limit = i.limit; stage = i.stage; filled = i.bytes.filled; spare = i.bytes.spare; reach = i.bytes.reach } in
    let t : SplitterState = record { limit = i.limit; stage = i.stage; filled = c.fill.new.self.filled; spare = c.fill.new.self.spare; reach = c.fill.new.self.reach } in
    let came = room_filled s i.progress c.args.n c.self.invariant (rw (← c.self.view_is) at c.requires) in
    rw (← c.self.view_is) (room_taken s t c.args.n c.self.invariant.least came.0 came.1 refl refl c.fill.ensures.filled)

pub returns-in-Frames-clause-held : goal.returns-in-Frames-clause-held
returns-in-Frames-clause-held g c =
    let i = c.self.inside in
    let s : SplitterState = record { limit = i.limit; stage = i.stage; filled = i.bytes.filled; spare = i.bytes.spare; reach = i.bytes.reach } in
    rw c.fill.ensures.filled (room_filled s i.progress c.args.n c.self.invariant (rw (← c.self.view_is) at c.requires)).1

pub returns-in_default : goal.returns-in_default
returns-in_default g c =
    let i = c.self.inside in
    let s : SplitterState = record { limit = i.limit; stage = i.stage; filled = i.bytes.filled; spare = i.bytes.spare; reach = i.bytes.reach } in
    let t : SplitterState = record { limit = i.limit; stage = i.stage; filled = c.fill.new.self.filled; spare = c.fill.new.self.spare; reach = c.fill.new.self.reach } in
    let came = room_filled s i.progress c.args.n c.self.invariant (rw (← c.self.view_is) at c.requires) in
    record {
      taken = rw (← c.self.view_is) (room_taken s t c.args.n c.self.invariant.least came.0 came.1 refl refl c.fill.ensures.filled);
      held = rw c.fill.ensures.filled came.1;
      history = rw (← c.self.view_is) (λ us taken w. more_came s t us taken (take c.args.n i.bytes.spare) refl refl c.fill.ensures.filled w);
    }
