-- What a step comes to.
use Rattle.std.proofs.Common.{◌≡◌, ℕ, ◌≤◌, true, List, [], length, take, Option, None, Some, Result, Ok, Err, arith, refl, ap, subst}
use Rattle.amqp_endpoint.specs.declared.event.Outcome.{Outcome}
use Rattle.amqp_endpoint.specs.Steps.{EndpointState}
use Rattle.amqp_serve.specs.declared.rules.Rule.{Rule}
use Rattle.amqp_serve.specs.declared.serving.ServeFault.{ServeFault}
use Rattle.amqp_serve.specs.declared.serving.ServeFault.TheVariants as lost
use Rattle.amqp_serve.specs.declared.steps.Done.{Done}
use Rattle.amqp_serve.specs.declared.steps.Stepped.{Stepped}
use Rattle.amqp_serve.specs.Deeds.{Ends, IsStepped, Reaches}
use Rattle.amqp_serve.specs.declared.server.Status.{Status}
use Rattle.amqp_serve.specs.declared.server.Status.TheVariants as status
use Rattle.amqp_serve.specs.Servers.{hears, refused_step, status_after}
use Rattle.amqp_hub.specs.Members.{MemberState, hear_fault, IsHeard}

-- No answer is in its endpoint after a step, unless serving broke off.
pub rests : (r : Rule) (bytes : List ℕ) (told : Outcome) (q : Result Done ServeFault) (s t : EndpointState) (e f : Ends) → IsStepped r bytes told q s t e f → hears (status_after q) ≡ true → t.unsent ≡ []
rests r bytes told (Ok d) s t e f on is = on.sent
rests r bytes told (Err lost.NoMemory) s t e f off is = (off.starved refl).sent
rests r bytes told (Err lost.Read) s t e f off is = absurd (grind (arith, is))
rests r bytes told (Err lost.Write) s t e f off is = absurd (grind (arith, is))
rests r bytes told (Err lost.Sink) s t e f off is = absurd (grind (arith, is))

-- A connection that hears makes a step.
pub may_step : (m : MemberState) → hear_fault m ≡ None → refused_step m.server.status ≡ None
may_step m is = by m.server.status refl
  where
    by : (t : Status) → m.server.status ≡ t → refused_step m.server.status ≡ None
    by status.Serving e = ap (λ (t : Status). refused_step t) e
    by status.Starved e = ap (λ (t : Status). refused_step t) e
    by status.Ended e = absurd (grind (arith, is, e))
    by (status.Lost f) e = absurd (grind (arith, is, e))

-- What a step of its server made.
pub heard_in : (a old new : MemberState) (piece : List ℕ) (s : Stepped) (kept keeps : Option (List ℕ)) (e f : Ends) → a ≡ old → IsStepped a.rule (take s.used piece) s.told s.done a.server.endpoint new.server.endpoint e f →
    e.writer ≡ Some a.waiting → f.writer ≡ Some new.waiting → e.sink ≡ kept → f.sink ≡ keeps → new.rule ≡ a.rule → new.number ≡ a.number → new.server.status ≡ status_after s.done → s.used ≤ length piece →
    Reaches a.server.endpoint piece s.used → IsHeard old new piece s kept keeps
heard_in a old new piece s kept keeps e f is step writer wrote sink noted rule number status bound reaches =
    subst (λ (m : MemberState). IsHeard m new piece s kept keeps) is
    (record { rule = rule; number = number; status = status; bound = bound; reaches = reaches; before = e; after = f; writer = writer; wrote = wrote; sink = sink; noted = noted; stepped = step })
