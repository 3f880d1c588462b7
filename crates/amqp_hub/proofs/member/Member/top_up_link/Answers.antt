use Rattle.std.proofs.Common.{List, ℕ, Some, Ok, Err, ap, refl, sym, ◌∙◌}
use Rattle.std.proofs.lemmas.Result.{err_from_is_err_and}
use Rattle.amqp_hub.proofs.LinkCalls.{tops_up_in, topped_err}
use Rattle.amqp_hub.proofs.member.Member.top_up_link.Goals as goal

pub returns-in_err-granted : goal.returns-in_err-granted
returns-in_err-granted g c =
    let p = err_from_is_err_and c.from_residual.result c.from_residual.ensures.1 in
    let h = c.in_err-granted.ensures in
    topped_err c.from_residual.result p.0 _ _ _ _ _ _ p.1 p.2
    (tops_up_in _ c.args.self.now _ _ _ (Err c.in_err-granted.field-0.0) c.args.channel c.args.handle c.args.most c.self.view_is
    (ap (λ w. Some w.bytes.items) c.new-writer.ensures.inner ∙ ap (λ (l : List ℕ). Some l) (c.new-2.ensures ∙ ap (λ v. v.items) c.replace-room.ensures.value))
    (ap (λ (l : List ℕ). Some l) (sym (c.into_bytes.ensures ∙ ap (λ w. w.bytes.items) c.into_inner.ensures))) refl refl h.over h.topped h.status)

pub returns : goal.returns
returns g c =
    let h = c.in_ok-granted.ensures in
    tops_up_in _ c.args.self.now _ _ _ (Ok c.in_ok-granted.field-0) c.args.channel c.args.handle c.args.most c.self.view_is
    (ap (λ w. Some w.bytes.items) c.new-writer.ensures.inner ∙ ap (λ (l : List ℕ). Some l) (c.new-2.ensures ∙ ap (λ v. v.items) c.replace-room.ensures.value))
    (ap (λ (l : List ℕ). Some l) (sym (c.into_bytes.ensures ∙ ap (λ w. w.bytes.items) c.into_inner.ensures))) refl refl h.over h.topped h.status
