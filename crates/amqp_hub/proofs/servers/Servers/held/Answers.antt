use Rattle.std.proofs.Common.{arith, ap, ◌∙◌, ◌^◌, ◌-◌}
use Rattle.std.specs.Prelude.{sum_by}
use Rattle.slab.specs.Slab.{entries}
use Rattle.amqp_hub.specs.Members.{member_held}
use Rattle.amqp_hub.specs.Turns.{ServersState}
use Rattle.amqp_hub.proofs.Turning.{sum_first, sum_next, sum_on}
use Rattle.amqp_hub.proofs.servers.Servers.held.Goals as goal

pub loop-member-init : goal.loop-member-init
loop-member-init g c =
    let left = c.into_iter-member-iterator.ensures.into_iter_gives ∙ c.iter-member-items.ensures.rest in
    record { can = tt; ends = tt; fits = omega arith; all = sum_first c.args.self.now.members _ _ (left ∙ ap (λ (v : ServersState). entries v.members) c.self.view_is) }

pub loop-member-preserved : goal.loop-member-preserved
loop-member-preserved g c =
    let at = c.in-Some.ensures.steps in
    record {
      can = tt;
      ends = tt;
      fits = omega (arith, c.saturating_add-sum.ensures);
      all = sum_on (2 ^ 64 - 1) c.loop-member.sum c.held.result _ c.saturating_add-sum.result _ _ _ c.saturating_add-sum.ensures c.held.ensures
          (sum_next _ _ c.in-Some.field-0-0 c.in-Some.member.now at) c.loop-member.invariant.all;
    }

pub returns : goal.returns
returns g c =
    let none = ap (λ es. sum_by (λ e. member_held e.1) es) c.in-None.ensures.steps.0 in
    omega (arith, none, c.loop-member.invariant.fits, c.loop-member.invariant.all)
