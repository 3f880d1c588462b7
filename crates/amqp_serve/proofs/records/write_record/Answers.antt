use Rattle.std.proofs.Common.{List, ℕ, subst}
use Rattle.std.specs.Prelude.{OnErr}
use Rattle.std.specs.Io.KnownBytes.{Appends}
use Rattle.amqp_frame.specs.Devices.{device_inner, AppendsFront}
use Rattle.amqp_endpoint.specs.Endpoints.{handed_in}
use Rattle.amqp_serve.specs.Serving.{record_head}
use Rattle.amqp_frame.proofs.Results.{on_err}
use Rattle.amqp_serve.proofs.Servings.{part_more, part_behind, part_behind_failed}
use Rattle.amqp_serve.proofs.records.write_record.Goals as goal

pub returns-in_err-put_out-clause-begun : goal.returns-in_err-put_out-clause-begun
returns-in_err-put_out-clause-begun g c =
    let k = g.S.Write.contents (device_inner c.args.sink.now) in
    let k1 = g.S.Write.contents (device_inner c.put_out.new.sink) in
    on_err _ _ (part_more k k1 (record_head c.args.channel c.args.handle (handed_in c.args.taken.now)) c.args.taken.now.message
    (subst (λ (l : List ℕ). AppendsFront k k1 l) c.head_of.ensures c.in_err-put_out.ensures.begun))

pub returns-in-Err-clause-begun : goal.returns-in-Err-clause-begun
returns-in-Err-clause-begun g c =
    let k = g.S.Write.contents (device_inner c.args.sink.now) in
    let k1 = g.S.Write.contents (device_inner c.put_out.new.sink) in
    let k2 = g.S.Write.contents (device_inner c.write_to.new.writer) in
    part_behind k k1 k2 (record_head c.args.channel c.args.handle (handed_in c.args.taken.now)) c.args.taken.now.message
    (subst (λ (l : List ℕ). Appends k k1 l) c.head_of.ensures c.in_ok-put_out.ensures.written) c.in-Err.ensures.err

pub returns-in-Some-clause-begun : goal.returns-in-Some-clause-begun
returns-in-Some-clause-begun g c =
    let k = g.S.Write.contents (device_inner c.args.sink.now) in
    let k1 = g.S.Write.contents (device_inner c.put_out.new.sink) in
    let k2 = g.S.Write.contents (device_inner c.put_out-in-Some.new.sink) in
    part_behind_failed c.put_out-in-Some.result k k1 k2 (record_head c.args.channel c.args.handle (handed_in c.args.taken.now)) c.args.taken.now.message
    (subst (λ (l : List ℕ). Appends k k1 l) c.head_of.ensures c.in_ok-put_out.ensures.written)
    (subst (λ (l : List ℕ). OnErr c.put_out-in-Some.result (AppendsFront k1 k2 l)) c.in-Some.ensures c.put_out-in-Some.ensures.begun)
