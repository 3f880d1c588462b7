use Rattle.std.proofs.Common.{arith, ap, refl, subst, ◌<◌, length, take, List, ℕ, true}
use Rattle.std.proofs.lemmas.Grind.{common_steps}
use Rattle.std.specs.Io.KnownBytes.{Appends}
use Rattle.amqp_gateway.specs.Outlets.{OutletState, WritesOn}
use Rattle.amqp_gateway.proofs.Outs.{on_here, on_more}
use Rattle.amqp_gateway.proofs.outlet.Outlet.write_once.Goals as goal

pub returns-in-Ok-clause-went : goal.returns-in-Ok-clause-went
returns-in-Ok-clause-went g c =
    let now : OutletState = record { sink = g.S.Write.contents c.self.inside.sink; blocks = c.self.inside.blocks; written = c.self.inside.written; is_fresh = c.self.inside.is_fresh; has_failed = c.self.inside.has_failed; syncs = c.self.inside.syncs } in
    let new : OutletState = record { sink = g.S.Write.contents c.write.new.self; blocks = c.self.inside.blocks; written = c.saturating_add-self-inside.result; is_fresh = true; has_failed = c.self.inside.has_failed; syncs = c.self.inside.syncs } in
    let some : 0 < length c.rest_of-rest.result.now = grind (arith, common_steps, c.is_empty.ensures, c.if-is_empty.false) in
    let long = ap length c.rest_of-rest.ensures.rest in
    subst (λ (s : OutletState). WritesOn s new) c.self.view_is
    (on_more now now new c.in-Ok.count (on_here now)
    (subst (λ (l : List ℕ). Appends (g.S.Write.contents c.self.inside.sink) (g.S.Write.contents c.write.new.self) (take c.in-Ok.count l)) c.rest_of-rest.ensures.rest c.in-Ok.ensures.bytes)
    (omega (arith, c.in-Ok.ensures.bound, long)) (omega (arith, some, long)) (omega (arith, c.rest_of-rest.ensures.fits)) refl c.saturating_add-self-inside.ensures)
