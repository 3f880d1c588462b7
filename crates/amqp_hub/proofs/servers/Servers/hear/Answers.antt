use Rattle.std.proofs.Common.{ap, sym, ◌∙◌}
use Rattle.amqp_frame.specs.Devices.{device_inner}
use Rattle.amqp_serve.specs.Noting.{done_of, stepped_by}
use Rattle.amqp_hub.specs.Turns.{ServersState}
use Rattle.amqp_hub.proofs.Turning.{hears_by, goes_on, loses_by, lost_ends}
use Rattle.amqp_hub.proofs.servers.Servers.hear.Goals as goal

pub returns-then-is_lost-clause-heard : goal.returns-then-is_lost-clause-heard
returns-then-is_lost-clause-heard g c =
    let note = c.hear_there.new.note in
    let x = stepped_by c.in_ok-fed.fed c.in_ok-fed.end note in
    loses_by c.args.self.now.members c.hear_there.new.self.members c.self.inside.members c.remove.new.self (ap (λ (v : ServersState). v.members) c.self.view_is) c.args.key c.args.piece.now x _ _ x.done
    (lost_ends x.done (sym (c.is_lost.ensures (done_of note)) ∙ c.if-is_lost.true)) c.in_ok-fed.ensures.heard c.remove.ensures.updates c.remove.ensures.len

pub returns-else-is_lost-clause-heard : goal.returns-else-is_lost-clause-heard
returns-else-is_lost-clause-heard g c =
    let note = c.hear_there.new.note in
    let x = stepped_by c.in_ok-fed.fed c.in_ok-fed.end note in
    hears_by c.args.self.now.members c.hear_there.new.self.members c.args.key c.args.piece.now x _ _ x.done (goes_on x.done (sym (c.is_lost.ensures (done_of note)) ∙ c.if-is_lost.false)) c.in_ok-fed.ensures.heard
