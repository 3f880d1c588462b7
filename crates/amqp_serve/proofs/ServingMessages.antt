-- A message that is taken, recorded and settled while serving.
use Rattle.std.proofs.Common.{◌≡◌, ℕ, inr, ◌<◌, ◌^◌, Bool, true, false, if◌then◌else◌, List, [], ◌∷◌, Option, Result, Ok, Err, refl, sym, subst, ◌∙◌, append-nil}
use Rattle.std.proofs.KnownBytes.{Appends-nil}
use Rattle.std.specs.Io.KnownBytes.{Appends}
use Rattle.amqp_session.specs.Calls.{Take, Settle}
use Rattle.amqp_endpoint.specs.declared.fault.CallFault.{CallFault}
use Rattle.amqp_endpoint.specs.Configs.{Configured}
use Rattle.amqp_endpoint.specs.Endpoints.{accepted_by}
use Rattle.amqp_endpoint.specs.Runs.{Accepted, Refused, Handed, HandedUp, InSession, CallDone}
use Rattle.amqp_endpoint.specs.Steps.{EndpointState}
use Rattle.amqp_frame.specs.Devices.{AppendsFront}
use Rattle.amqp_serve.specs.declared.rules.Rule.{Rule}
use Rattle.amqp_serve.specs.declared.serving.ServeFault.TheVariants as fault
use Rattle.amqp_serve.specs.declared.steps.Received.{Received}
use Rattle.amqp_serve.specs.declared.steps.Receipt.TheVariants as receipt
use Rattle.amqp_serve.specs.Deeds.{Deeds, AreDeeds, no_deeds, nothing_topped, received_as, receipt_by, receipt_deeds, Ends, AreOpen, IsMarked, WentOn, WentOff}
use Rattle.amqp_serve.specs.Serving.{Stand, all_supplies, ToppingUp, Receiving, Settling, stand_handed, Rests, Takes, Settles, record_of}
use Rattle.amqp_serve.proofs.Deeds.{IsBoth, one_done, went_call, went_noted, went_on, then_quiet}
use Rattle.amqp_serve.proofs.Servings.{kept_same}
use Rattle.amqp_serve.proofs.ServingTops.{call_keeps, accepted_silent}
use Rattle.amqp_serve.proofs.Supplied.{call_only}

-- what a take did
abbrev pub taken_deeds : Received → Bool → Deeds
taken_deeds m settled = record { told = []; takes = Ok (m, settled) ∷ []; settles = []; topped = nothing_topped }

module _ (p : Rule) (s t : EndpointState) (channel handle : ℕ) where
  -- a take that is refused
  pub take_refused : (x : Ends) (f : CallFault) → CallDone s t channel (Take handle) (Refused f) → AreOpen x
      → WentOn p (receipt_deeds (receipt.Refused f)) (Receiving channel handle) (ToppingUp (all_supplies s.connection.config)) s t x x
  take_refused x f done fit =
      subst (λ (k : Configured). WentOn p (receipt_deeds (receipt.Refused f)) (Receiving channel handle) (ToppingUp (all_supplies k)) s t x x)
      (call_only p s t channel (Take handle) (Refused f) done).config
      (went_call p _ _ s t x (receipt_deeds (receipt.Refused f)) (record { call = InSession channel (Take handle); answer = Refused f }) (Takes t channel handle (Refused f) done Rests) refl refl
      (Appends-nil x.sink) (call_keeps s t channel (Take handle) (Refused f) done)
      (one_done (receipt_deeds (receipt.Refused f)) (record { call = InSession channel (Take handle); answer = Refused f }) refl refl refl refl refl refl) fit)

  module _ (w k k1 : Option (List ℕ)) (f f1 g g1 : Bool) where
    -- a message that is taken, and recorded
    pub take_noted : (d : Handed) → CallDone s t channel (Take handle) (HandedUp d) → Appends k k1 (record_of channel handle d) → AreOpen (record { writer = w; sink = k1; writer_failed = f1; sink_failed = g1 })
        → WentOn p (taken_deeds (received_as d) d.settled) (Receiving channel handle) (stand_handed t.connection.config channel d) s t
        (record { writer = w; sink = k; writer_failed = f; sink_failed = g }) (record { writer = w; sink = k1; writer_failed = f1; sink_failed = g1 })
    take_noted d done noted fit =
        let deeds = taken_deeds (received_as d) d.settled in
        went_noted p _ _ s t w k k1 f f1 g g1 deeds (record { call = InSession channel (Take handle); answer = HandedUp d }) (Takes t channel handle (HandedUp d) done Rests) refl refl noted
        (call_keeps s t channel (Take handle) (HandedUp d) done)
        (one_done deeds (record { call = InSession channel (Take handle); answer = HandedUp d }) refl refl refl refl refl refl) fit

    -- or recorded in part
    pub take_lost : (d : Handed) → CallDone s t channel (Take handle) (HandedUp d) → AppendsFront k k1 (record_of channel handle d)
        → IsMarked fault.Sink (record { writer = w; sink = k1; writer_failed = f1; sink_failed = g1 })
        → WentOff p fault.Sink (Receiving channel handle) s t (record { writer = w; sink = k; writer_failed = f; sink_failed = g }) (record { writer = w; sink = k1; writer_failed = f1; sink_failed = g1 })
    take_lost d done part marked = record {
      which = tt;
      broke = record {
        stand = stand_handed t.connection.config channel d;
        steps = record { call = InSession channel (Take handle); answer = HandedUp d } ∷ [];
        last = t;
        serves = Takes t channel handle (HandedUp d) done Rests;
        same = kept_same t;
        fed = refl;
        written = Appends-nil w;
        noted = part.front;
        unnoted = part.behind;
        records = append-nil (record_of channel handle d) ∙ part.is;
        sink = part.written;
        left = inr (record { before = []; channel = channel; handle = handle; handed = d; split = refl; part = part.front; all = refl });
      };
      marked = marked;
    }

-- what a settle did
abbrev pub settle_deeds : Result (Unit {0}) CallFault → Deeds
settle_deeds r = record { told = []; takes = []; settles = r ∷ []; topped = nothing_topped }

-- it is settled
pub settle_told : (p : Rule) (s t : EndpointState) (channel id : ℕ) (r : Result (Unit {0}) CallFault) (x : Ends) → s.unsent ≡ [] → id < 2 ^ 32 → CallDone s t channel (Settle id p.outcome) (accepted_by r) → AreOpen x
    → WentOn p (settle_deeds r) (Settling channel id) (ToppingUp (all_supplies t.connection.config)) s t x x
settle_told p s t channel id r x none small done fit =
    went_call p _ _ s t x (settle_deeds r) (record { call = InSession channel (Settle id p.outcome); answer = accepted_by r }) (Settles t channel id (accepted_by r) none small done Rests) refl (accepted_silent r)
    (Appends-nil x.sink) (call_keeps s t channel (Settle id p.outcome) (accepted_by r) done) (deeds r) fit
  where
    deeds : (r : Result (Unit {0}) CallFault) → AreDeeds (settle_deeds r) (record { call = InSession channel (Settle id p.outcome); answer = accepted_by r } ∷ [])
    deeds (Ok y) = one_done (settle_deeds (Ok y)) (record { call = InSession channel (Settle id p.outcome); answer = Accepted }) refl refl refl refl refl refl
    deeds (Err f) = one_done (settle_deeds (Err f)) (record { call = InSession channel (Settle id p.outcome); answer = Refused f }) refl refl refl refl refl refl

-- it was taken and recorded, and then settled or not
told_both : (m : Received) (r : Result (Unit {0}) CallFault) → IsBoth (taken_deeds m false) (settle_deeds r) (receipt_deeds (receipt_by m r))
told_both m (Ok x) = record { told = refl; takes = refl; settles = refl; widened = refl; granted = refl; refused = refl }
told_both m (Err f) = record { told = refl; takes = refl; settles = refl; widened = refl; granted = refl; refused = refl }

-- it stands so behind a message that its sender settled
pub received_settled : (p : Rule) (a : Stand) (s t : EndpointState) (channel : ℕ) (d : Handed) (m : Received) (x y : Ends) → m ≡ received_as d → d.settled ≡ true → t.connection.config ≡ s.connection.config
    → WentOn p (taken_deeds (received_as d) d.settled) a (stand_handed t.connection.config channel d) s t x y → WentOn p (receipt_deeds (receipt.Settled m)) a (ToppingUp (all_supplies s.connection.config)) s t x y
received_settled p a s t channel d m x y is done same on =
    subst (λ (k : Received). WentOn p (receipt_deeds (receipt.Settled k)) a (ToppingUp (all_supplies s.connection.config)) s t x y) (sym is)
    (subst (λ (k : Configured). WentOn p (receipt_deeds (receipt.Settled (received_as d))) a (ToppingUp (all_supplies k)) s t x y) same
    (subst (λ (b : Bool). WentOn p (taken_deeds (received_as d) b) a (if b then ToppingUp (all_supplies t.connection.config) else Settling channel d.delivery_id) s t x y) done on))

-- and behind one that is to be settled
pub received_open : (p : Rule) (a : Stand) (s t : EndpointState) (channel : ℕ) (d : Handed) (m : Received) (x y : Ends) → m ≡ received_as d → d.settled ≡ false
    → WentOn p (taken_deeds (received_as d) d.settled) a (stand_handed t.connection.config channel d) s t x y → WentOn p (taken_deeds m false) a (Settling channel m.delivery_id) s t x y
received_open p a s t channel d m x y is done on =
    subst (λ (k : Received). WentOn p (taken_deeds k false) a (Settling channel k.delivery_id) s t x y) (sym is)
    (subst (λ (b : Bool). WentOn p (taken_deeds (received_as d) b) a (if b then ToppingUp (all_supplies t.connection.config) else Settling channel d.delivery_id) s t x y) done on)

-- the whole of it, with what was written between
pub received_told : (p : Rule) (a : Stand) (s t u v : EndpointState) (channel : ℕ) (m : Received) (r : Result (Unit {0}) CallFault) (x y z : Ends) → WentOn p (taken_deeds m false) a (Settling channel m.delivery_id) s t x y
    → WentOn p no_deeds (Settling channel m.delivery_id) (Settling channel m.delivery_id) t u y z → u.unsent ≡ [] → m.delivery_id < 2 ^ 32 → CallDone u v channel (Settle m.delivery_id p.outcome) (accepted_by r)
    → v.connection.config ≡ s.connection.config → WentOn p (receipt_deeds (receipt_by m r)) a (ToppingUp (all_supplies s.connection.config)) s v x z
received_told p a s t u v channel m r x y z got wrote sent low done same =
    subst (λ (k : Configured). WentOn p (receipt_deeds (receipt_by m r)) a (ToppingUp (all_supplies k)) s v x z) same
    (went_on (receipt_deeds (receipt_by m r)) (then_quiet got wrote) (settle_told p u v channel m.delivery_id r z sent low done wrote.still) (told_both m r))
