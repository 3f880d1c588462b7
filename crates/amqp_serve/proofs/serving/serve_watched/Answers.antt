use Rattle.std.proofs.Common.{◌≡◌, Err, sym, subst}
use Rattle.std.proofs.lemmas.Result.{err_from_is_err_and}
use Rattle.amqp_frame.specs.Devices.{device_inner}
use Rattle.amqp_serve.specs.declared.serving.ServeFault.{ServeFault}
use Rattle.amqp_serve.specs.declared.serving.ServeFault.TheVariants.{NoMemory}
use Rattle.amqp_serve.specs.Policies.{rule_of}
use Rattle.amqp_serve.specs.Serving.{HasBroken}
use Rattle.amqp_serve.proofs.AllTaken.{broke_taken}
use Rattle.amqp_serve.proofs.Servings.{if_err, flush_stopped}
use Rattle.amqp_serve.proofs.ServingReads.{starved_flushed, starved_lost}
use Rattle.amqp_serve.proofs.serving.serve_watched.Goals as goal

pub returns-in_err-flush_both-in-Err-NoMemory-clause-begun : goal.returns-in_err-flush_both-in-Err-NoMemory-clause-begun
returns-in_err-flush_both-in-Err-NoMemory-clause-begun g c =
    let p = rule_of c.args.policy in
    let s = c.args.endpoint.now in
    let t = c.run.new.endpoint in
    let r = g.R.Read.remaining (device_inner c.args.reader.now) in
    let r1 = g.R.Read.remaining (device_inner c.run.new.reader) in
    let w = g.W.Write.contents (device_inner c.args.writer.now) in
    let w1 = g.W.Write.contents (device_inner c.run.new.writer) in
    let w2 = g.W.Write.contents (device_inner c.flush_both-in-Err-NoMemory.new.writer) in
    let k = g.S.Write.contents (device_inner c.args.sink.now) in
    let k1 = g.S.Write.contents (device_inner c.run.new.sink) in
    let k2 = g.S.Write.contents (device_inner c.flush_both-in-Err-NoMemory.new.sink) in
    let is : c.in-Err-NoMemory.field-0 ≡ NoMemory = cc in
    let flushed = c.flush_both-in-Err-NoMemory.ensures in
    let q = err_from_is_err_and c.from_residual-in_err-flush_both-in-Err-NoMemory.result c.from_residual-in_err-flush_both-in-Err-NoMemory.ensures.1 in
    if_err c.from_residual-in_err-flush_both-in-Err-NoMemory.result _ q.0 q.1
    (subst (λ (e : ServeFault). HasBroken p e s t r r1 w w2 k k2) (sym q.2)
    (flush_stopped (Err _) (λ e. HasBroken p e s t r r1 w w2 k k2)
    (λ e which. starved_lost c.of.result p c.in-Err-NoMemory.field-0 s t r r1 w w1 w2 k k1 k2 c.of.ensures is c.in-Err-NoMemory.ensures.lost.broken flushed.answers flushed.records e which)
    c.in_err-flush_both-in-Err-NoMemory.ensures.read c.in_err-flush_both-in-Err-NoMemory.ensures.memory))

pub returns-in_ok-flush_both-in-Err-NoMemory-clause-taken : goal.returns-in_ok-flush_both-in-Err-NoMemory-clause-taken
returns-in_ok-flush_both-in-Err-NoMemory-clause-taken g c = λ all same.
    let is : c.in-Err-NoMemory.field-0 ≡ NoMemory = cc in
    let broken = c.in-Err-NoMemory.ensures.lost.broken in
    broke_taken c.of.result c.in-Err-NoMemory.field-0 broken.0 c.args.endpoint.now c.run.new.endpoint _ _ _ _ c.holds_a_header.ensures all is broken.2

pub returns-in_ok-flush_both-in-Err-NoMemory-clause-begun : goal.returns-in_ok-flush_both-in-Err-NoMemory-clause-begun
returns-in_ok-flush_both-in-Err-NoMemory-clause-begun g c =
    let is : c.in-Err-NoMemory.field-0 ≡ NoMemory = cc in
    let flushed = c.flush_both-in-Err-NoMemory.ensures in
    starved_flushed c.of.result (rule_of c.args.policy) c.in-Err-NoMemory.field-0 c.args.endpoint.now c.run.new.endpoint (g.R.Read.remaining (device_inner c.args.reader.now))
    (g.R.Read.remaining (device_inner c.run.new.reader)) (g.W.Write.contents (device_inner c.args.writer.now)) (g.W.Write.contents (device_inner c.run.new.writer))
    (g.W.Write.contents (device_inner c.flush_both-in-Err-NoMemory.new.writer)) (g.S.Write.contents (device_inner c.args.sink.now)) (g.S.Write.contents (device_inner c.run.new.sink))
    (g.S.Write.contents (device_inner c.flush_both-in-Err-NoMemory.new.sink)) c.of.ensures is c.in-Err-NoMemory.ensures.lost.broken flushed.answers flushed.records
