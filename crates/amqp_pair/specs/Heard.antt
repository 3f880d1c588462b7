-- What a sender hears of the flows of an endpoint, on the message level. [2.5.6, 2.6.7]
use Rattle.std.specs.Prelude.{◌≡◌, ℕ, ◌^◌, ◌<◌, false, if◌then◌else◌, List, [], ◌∷◌, ◌++◌, None}
use Rattle.amqp_send.specs.declared.telling.Telling.{Telling}
use Rattle.amqp_send.specs.declared.telling.Telling.TheVariants.{Begun, Flowed}
use Rattle.amqp_send.specs.Sendings.{Sending, Offered, send_after, heard, all_written, offer_fault}
use Rattle.amqp_pair.specs.World.{World, Flow, Offer, IsFair}
use Rattle.amqp_pair.specs.Words.{Steps}

-- what a flow tells; a flow of the session alone tells nothing of credit
abbrev pub flow_tells : Flow → Telling
flow_tells f = Flowed (record {
  next_incoming_id = f.next;
  incoming_window = f.window;
  of_link = f.of_link;
  delivery_count = if f.of_link then f.count else 0;
  link_credit = if f.of_link then f.credit else 0;
  drain = if f.of_link then f.drain else false;
  echo = false;
})

-- the begin of a session tells its window, as a flow of the session alone would
abbrev pub begin_flow : ℕ → Flow
begin_flow window = record { of_link = false; count = 0; credit = 0; next = 0; window = window; drain = false; echo = false }

-- a sender that talks hears a flow
abbrev pub FlowHeardLaw : Type 0
FlowHeardLaw = (s : Sending) (w : World) (f : Flow) (fs : List Flow) → w.to_sender ≡ f ∷ fs → f.echo ≡ false → Steps s (all_written (heard (flow_tells f) s)) w (record w { to_sender = fs })

-- before any flow the sender hears the begin
abbrev pub BeginHeardLaw : Type 0
BeginHeardLaw = (s : Sending) (w : World) (f : Flow) (fs : List Flow) → w.to_sender ≡ f ∷ fs → f.of_link ≡ false → f.next ≡ 0 → f.echo ≡ false → f.window < 2 ^ 32 → s.flow.flowed ≡ false
    → Steps s (all_written (heard (Begun 0 f.window) s)) w (record w { to_sender = fs })

-- the sender takes a message over
abbrev pub OfferedLaw : Type 0
OfferedLaw = (s : Sending) (w : World) (m : List ℕ) → offer_fault s ≡ None → IsFair w (Offer m)
    → Steps s (send_after s (Offered m)) w (record w { offered = w.offered ++ m ∷ [] })
