use Rattle.std.proofs.Common.{◌∙◌, refl, subst}
use Rattle.amqp_spool.specs.EntryReading.{introduced_in}
use Rattle.amqp_spool_keeper.specs.Keeping.{state_of, Accepts}
use Rattle.amqp_spool_keeper.proofs.Holding.{accepts, alike_state, ok_then, err_then}
use Rattle.amqp_spool_keeper.proofs.keeper.SpoolKeeperKeeper.put.Goals as goal

pub returns-in-Some-clause-put : goal.returns-in-Some-clause-put
returns-in-Some-clause-put g c =
    let h = g.F.Folder.history in
    let s = c.self.inside.spool in
    let t = c.put_as.new.spool in
    let room = c.self.inside.room in
    ok_then c.put_as.result (λ put. subst (λ k. Accepts h k c.args.origin c.args.endpoint.now c.args.bytes.now (state_of t room)) c.self.view_is
    (accepts h s t room c.args.origin c.args.endpoint.now c.args.bytes.now c.as_bytes.result.now c.in-Some.link (introduced_in c.in_ok-sender.sender) c.as_bytes-tag.result.now c.in_ok-sender.ensures c.as_bytes-tag.ensures.value c.put_as.ensures.journal put))
    c.put_as.ensures.put

pub returns-clause-put : goal.returns-clause-put
returns-clause-put g c =
    let h = g.F.Folder.history in
    let s = c.self.inside.spool in
    let t = c.put_anew.new.spool in
    let room = c.self.inside.room in
    ok_then c.put_anew.result (λ put. subst (λ k. Accepts h k c.args.origin c.args.endpoint.now c.args.bytes.now (state_of t room)) c.self.view_is
    (accepts h s t room c.args.origin c.args.endpoint.now c.args.bytes.now c.as_bytes.result.now put.0 (introduced_in c.in_ok-sender.sender) c.args.origin.delivery_tag c.in_ok-sender.ensures refl c.put_anew.ensures.journal put.1))
    c.put_anew.ensures.put

pub returns-clause-refused : goal.returns-clause-refused
returns-clause-refused g c =
    let s = c.self.inside.spool in
    let t = c.put_anew.new.spool in
    err_then c.put_anew.result (λ alike. alike_state s t c.self.inside.room alike ∙ c.self.view_is) c.put_anew.ensures.same
