use Rattle.std.proofs.Common.{◌++◌, ◌∙◌, ℕ, List, take, drop, sym, ap, subst, rules, arith}
use Rattle.std.proofs.KnownBytes.{Appends-trans, Appends-kept}
use Rattle.std.proofs.Math.Seq.{take-add}
use Rattle.std.proofs.lemmas.Grind.{common_steps}
use Rattle.std.proofs.lemmas.List.{take_rest, take-append-drop}
use Rattle.std.specs.Io.KnownBytes.{Appends}
use Rattle.amqp_frame.specs.Devices.{device_inner, AppendsFront}
use Rattle.amqp_frame.proofs.Results.{on_err}
use Rattle.amqp_frame.proofs.device.Device.write_all.Goals as goal

pub rest-preserved : goal.rest-preserved
rest-preserved g c =
    let at = c.rest.at in
    let bytes = c.args.buf.now in
    let n = c.in_ok-at.field-0 in
    record {
      within = first_of (search rules, grind (arith, common_steps));
      unmarked = first_of (search rules, grind (arith, common_steps));
      written = subst (λ (x : List ℕ). Appends (g.W.Write.contents (device_inner c.args.self.now)) (g.W.Write.contents (device_inner c.write.new.self)) x)
          (ap (λ (x : List ℕ). take at bytes ++ take n x) (take_rest bytes at) ∙ sym (take-add at n bytes))
          (Appends-trans _ _ _ _ _ c.rest.invariant.written c.in_ok-at.ensures.bytes);
      flushed = first_of (search rules, grind (arith, common_steps));
      ended = c.write.ensures.ended ∙ c.rest.invariant.ended;
      reads = c.write.ensures.reads ∙ c.rest.invariant.reads;
      fresh = first_of (search rules, grind (arith, common_steps));
    }

pub returns-in_err-at-clause-begun : goal.returns-in_err-at-clause-begun
returns-in_err-at-clause-begun g c =
    let at = c.rest.at in
    let bytes = c.args.buf.now in
    on_err c.from_residual-in_err-at.result (AppendsFront _ _ bytes)
    (record { front = take at bytes; behind = drop at bytes; written = Appends-kept _ _ _ _ c.rest.invariant.written c.in_err-at.ensures.bytes; is = sym (take-append-drop at bytes) })
