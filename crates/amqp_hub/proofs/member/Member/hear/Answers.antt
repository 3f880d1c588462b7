use Rattle.std.proofs.Common.{ℕ, List, Some, ap, refl, sym, ◌∙◌}
use Rattle.amqp_serve.specs.Noting.{stepped_by}
use Rattle.amqp_serve.specs.Servers.{refused_step}
use Rattle.amqp_hub.specs.Members.{MemberState}
use Rattle.amqp_hub.proofs.Asked.{may_step, heard_in}
use Rattle.amqp_hub.proofs.member.Member.hear.Goals as goal

pub returns : goal.returns
returns g c =
    let step = c.step_into-end in
    let may = ap (λ (m : MemberState). refused_step m.server.status) c.self.view_is ∙ may_step c.args.self.now c.requires.hears in
    heard_in _ c.args.self.now _ c.args.piece.now (stepped_by step.result.0 step.result.1 step.new.note) _ _ _ _ c.self.view_is (step.ensures.stepped may)
    (ap (λ w. Some w.bytes.items) c.new-writer.ensures.inner ∙ ap (λ (l : List ℕ). Some l) (c.new-2.ensures ∙ ap (λ v. v.items) c.replace-room.ensures.value))
    (ap (λ (l : List ℕ). Some l) (sym (c.into_bytes.ensures ∙ ap (λ w. w.bytes.items) c.into_inner.ensures))) refl refl refl refl (step.ensures.status may) step.ensures.bound
    (step.ensures.reaches may)
