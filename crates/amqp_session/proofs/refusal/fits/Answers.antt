use Rattle.std.proofs.Common.{[], arith, ◌∙◌, refl, sym, ap, length}
use Rattle.std.specs.Prelude.{not, nat_lt}
use Rattle.std.proofs.lemmas.Bool.{le-ltb}
use Rattle.amqp_perform.specs.Said.{Said, said, said_frame}
use Rattle.amqp_session.specs.Frames.{attaching}
use Rattle.amqp_perform.specs.declared.performative.Performative.TheVariants as performative
use Rattle.amqp_types.specs.Canonical.{canonical}
use Rattle.amqp_types.specs.Trees.{Number}
use Rattle.amqp_types.specs.declared.kind.Kind.TheVariants as kind
use Rattle.amqp_session.proofs.Lengths.{reply_short, fits_is}
use Rattle.amqp_session.proofs.refusal.fits.Goals as goal

pub returns-then-room-ge-MAX_REPLY : goal.returns-then-room-ge-MAX_REPLY
returns-then-room-ge-MAX_REPLY c =
    sym (ap not (le-ltb _ _ (omega (arith, reply_short c.args.bounds.max_message_size (attaching c.args.attach.now c.args.bounds) c.requires.name c.requires.ends))))

pub returns : goal.returns
returns c =
    let spoken = c.accepted-reply.ensures c.args.bounds.max_message_size (attaching c.args.attach.now c.args.bounds) (c.ulong-spelled.ensures
    ∙ ap (λ n. canonical (Number kind.Ulong n)) c.max_message_size.ensures) (record {
      name_is = refl;
      source_is = refl;
      target_is = refl;
      handle_is = ap (λ m. m.handle) c.of.ensures;
      role_is = ap (λ m. m.role) c.of.ensures;
      sender_is = ap (λ m. m.snd_settle_mode) c.of.ensures;
      receiver_is = ap (λ m. m.rcv_settle_mode) c.of.ensures;
    }) in
    let short = reply_short c.args.bounds.max_message_size (attaching c.args.attach.now c.args.bounds) c.requires.name c.requires.ends in
    fits_is c.is_written.result (said_frame 0 (said (performative.Attach c.accepted-reply.result)) []) c.args.terms.now.max_frame_size c.is_written.ensures
    (omega (arith, short, ap (λ (s : Said). length (said_frame 0 s [])) spoken))
    ∙ ap (λ (s : Said). not (nat_lt c.args.terms.now.max_frame_size (length (said_frame 0 s [])))) spoken
