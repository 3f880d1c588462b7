use Rattle.std.proofs.Common.{◌+◌, List, ℕ, length, refl, ap, subst, ◌∙◌, arith}
use Rattle.amqp_types.specs.declared.kind.Kind.TheVariants as kind
use Rattle.amqp_types.specs.Canonical.{canonical}
use Rattle.amqp_types.specs.Trees.{Number}
use Rattle.amqp_perform.specs.Frames.{null_text, written_text, Writes}
use Rattle.amqp_perform.specs.Performatives.{flag}
use Rattle.amqp_perform.specs.Receivers.{state_said}
use Rattle.amqp_perform.specs.Said.{said_texts}
use Rattle.amqp_perform.specs.Tables.{boolean, default}
use Rattle.amqp_perform.proofs.Receiving.{number_short, flag_one, one_texts, one_trimmed, one_most}
use Rattle.amqp_perform.proofs.Writings.{five_texts}
use Rattle.amqp_perform.proofs.writer.write_one.Goals as goal

pub write_front-requires : goal.write_front-requires
write_front-requires c =
    let flag_len = ap length c.flag.ensures ∙ flag_one c.args.settled in
    let number_len = number_short c.args.id in
    record {
      some = omega arith;
      least = omega (arith, c.put-end.ensures.behind, c.write-at-4.ensures.behind, c.write-at-3.ensures.behind, c.write-at-2.ensures.behind, c.write-at.ensures.behind);
      most = omega (arith, flag_len, number_len, c.put-end.ensures.behind, c.write-at-4.ensures.behind, c.write-at-3.ensures.behind, c.write-at-2.ensures.behind, c.write-at.ensures.behind);
      room = omega (arith, flag_len, number_len, c.put-end.ensures.behind, c.write-at-4.ensures.behind, c.write-at-3.ensures.behind, c.write-at-2.ensures.behind, c.write-at.ensures.behind);
    }

pub returns : goal.returns
returns c =
    let told = written_text boolean (default 0) (flag c.args.settled) in
    let all =
    five_texts (canonical (Number kind.Boolean 1)) (canonical (Number kind.Uint c.args.id)) null_text told c.args.state
    14 c.write-at.result c.write-at-2.result c.write-at-3.result c.write-at-4.result c.put-end.result
    c.args.out.now c.write-at.new.out c.write-at-2.new.out c.write-at-3.new.out c.write-at-4.new.out c.put-end.new.out
    (omega (arith, one_most c.args.id c.args.settled c.args.state (omega arith), c.requires))
    c.write-at.ensures.behind c.write-at.ensures.written c.write-at-2.ensures.behind c.write-at-2.ensures.written c.write-at-3.ensures.behind c.write-at-3.ensures.written
    (c.write-at-4.ensures.behind ∙ ap (λ (text : List ℕ). c.write-at-3.result + length text) c.flag.ensures)
    (subst (λ (text : List ℕ). Writes c.write-at-3.result text c.write-at-3.new.out c.write-at-4.new.out) c.flag.ensures c.write-at-4.ensures.written)
    c.put-end.ensures.behind c.put-end.ensures.written in
    c.write_front.ensures (said_texts (state_said c.args.id c.args.id c.args.settled c.args.state)) (one_texts c.args.id c.args.settled c.args.state) c.args.out.now
    (one_trimmed c.args.id c.args.settled c.args.state (omega arith)) refl all.0 (omega arith) all.1
