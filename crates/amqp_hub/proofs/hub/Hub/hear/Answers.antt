use Rattle.std.proofs.Common.{ℕ, List, Some, ap, sym, subst, ◌∙◌}
use Rattle.std.specs.Prelude.{IfOk, option_map}
use Rattle.slab.specs.Slab.{get}
use Rattle.amqp_frame.specs.Devices.{device_inner}
use Rattle.amqp_serve.specs.declared.steps.Stepped.{Stepped}
use Rattle.amqp_serve.specs.Noting.{stepped_by}
use Rattle.amqp_serve.specs.Servers.{status_after}
use Rattle.amqp_hub.specs.Turns.{HearsBy, HearsTo, IsKeptSo}
use Rattle.amqp_hub.proofs.Putting.{hears_to}
use Rattle.amqp_hub.proofs.hub.Hub.hear.Goals as goal
use Rattle.amqp_hub.proofs.hub.Hub.hear.Goals.{in-Ok, in-Err}

pub returns-clause-heard : goal.returns-clause-heard
returns-clause-heard g c =
    let accepts = g.K.Keeper.accepts in
    let old = c.args.self.now in
    let before = c.self.view_is in
    let note = c.hear-heard.new.note in
    let noted = c.into_inner-noted.result.items in
    let number = c.in-Some.number in
    let key = c.args.key in
    let m = c.hear-heard.new.self.members in
    let t = c.self-2.inside.servers.members in
    let keeps = c.self-2.inside.keeper in
    let is_empty = ap (λ v. Some v.items) c.new-sink.ensures.inner ∙ ap (λ v. Some v.items) c.replace.ensures.value ∙ ap (λ (l : List ℕ). Some l) c.self.invariant in
    let is_noted = ap (λ v. Some v.items) (sym c.into_inner-noted.ensures) in
    let made = λ (s : Stepped). (x : List ℕ) × HearsTo accepts (status_after s.done) old.members t key c.args.piece.now s x old.keeper keeps in
    let all : IfOk c.match-heard.heard (λ x. made (stepped_by x.0 x.1 note)) =
    elim c.match-heard.branch [
      | in-Ok w ↦
          let x = stepped_by w.in-Ok.fed w.in-Ok.end note in
          let r = stepped_by w.in-Ok.fed w.keep.result note in
          let now = sym (c.self-2.view_is ∙ w.self-is) in
          let whole = subst (λ (l : List ℕ). IsKeptSo accepts number l m w.keep.new.self.members key x r c.self.inside.keeper w.keep.new.self.keeper) w.deref.ensures.value w.keep.ensures.kept in
          let put = subst (λ h. IsKeptSo accepts number noted m w.keep.new.self.members key x r h.keeper w.keep.new.self.keeper) before whole in
          let heard = subst (λ h. HearsBy (status_after x.done) h.members m key c.args.piece.now x (Some (device_inner c.new-sink.result).items) (Some (device_inner c.hear-heard.new.sink).items)) before w.in-Ok.ensures.heard in
          let numbered = ap (λ h. option_map (λ a. a.number) (get h.members key)) (sym before) ∙ sym c.in-Some.ensures in
          let kept = subst (λ h. IsKeptSo accepts number noted m h.members key x r old.keeper h.keeper) now put in
          subst (λ q. IfOk q (λ y. made (stepped_by y.0 y.1 note))) (sym w.heard-is)
          (noted, hears_to accepts old.members m t key number c.args.piece.now noted x r old.keeper keeps numbered _ _ is_empty is_noted heard kept)
      | in-Err w ↦ subst (λ q. IfOk q (λ y. made (stepped_by y.0 y.1 note))) (sym w.heard-is) tt
    ] in
    subst made (sym c.stepped.ensures) (subst (λ q. IfOk q (λ y. made (stepped_by y.0 y.1 note))) c.in_ok-fed.was all)
