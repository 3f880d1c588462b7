-- What is recorded while serving is what was handed up.
use Rattle.std.proofs.Common.{◌≡◌, ℕ, List, [], ◌∷◌, ◌++◌, refl, sym, ap, ◌∙◌, append-nil}
use Rattle.std.proofs.lemmas.Grind.{flat_map-append}
use Rattle.std.specs.List.{flat_map}
use Rattle.amqp_session.specs.Calls as session
use Rattle.amqp_session.specs.Calls.{Widen, Grant, Drain, Take, Settle, SettleRange, Detach, Refuse, SettleWith, SettleRangeWith}
use Rattle.amqp_endpoint.specs.declared.event.Outcome.{Outcome}
use Rattle.amqp_endpoint.specs.declared.event.Outcome.TheVariants as outcome
use Rattle.amqp_endpoint.specs.Runs.{Call, Feed, InSession, Close, CloseWith, Heartbeat, Output, Held, Finish, Handed, Answer, Fed, Accepted, Dropped, Named, HandedUp, Refused, MovedOut, Holds, Ended}
use Rattle.amqp_serve.specs.Serving.{Step, recorded_by, recorded, record_of, calls_of, answers_of}
use Rattle.amqp_endpoint.specs.Traces.{Told, event_in, told_by, heard, handed_to, message_in}

abbrev records : List (ℕ × ℕ × Handed) → List ℕ
records ms = flat_map (λ m. record_of m.0 m.1 m.2) ms

-- of what is told
abbrev noted : List Told → List ℕ
noted ts = records (flat_map message_in ts)

fed_nothing : (o : Outcome) → [] ≡ noted (event_in o)
fed_nothing outcome.More = refl
fed_nothing (outcome.Event e) = refl
fed_nothing outcome.Blocked = refl
fed_nothing outcome.NoMemory = refl
fed_nothing outcome.Dead = refl

-- a call that hands nothing up
silent : (channel : ℕ) (c : session.Call) (a : Answer) → ((d : Handed) → handed_to channel c d ≡ []) → [] ≡ noted (told_by (InSession channel c) a)
silent channel c (Fed used o) none = refl
silent channel c Accepted none = refl
silent channel c (Dropped n) none = refl
silent channel c (Named n) none = refl
silent channel c (HandedUp d) none = sym (ap (λ (ms : List (ℕ × ℕ × Handed)). records (ms ++ [])) (none d))
silent channel c (Refused f) none = refl
silent channel c (MovedOut b) none = refl
silent channel c (Holds n) none = refl
silent channel c (Ended e) none = refl

one : (call : Call) (a : Answer) → recorded_by call a ≡ noted (told_by call a)
one (Feed piece) (Fed used o) = fed_nothing o
one (Feed piece) Accepted = refl
one (Feed piece) (Dropped n) = refl
one (Feed piece) (Named n) = refl
one (Feed piece) (HandedUp d) = refl
one (Feed piece) (Refused f) = refl
one (Feed piece) (MovedOut b) = refl
one (Feed piece) (Holds n) = refl
one (Feed piece) (Ended e) = refl
one (InSession channel (Widen n)) a = silent channel (Widen n) a (λ d. refl)
one (InSession channel (Grant handle n)) a = silent channel (Grant handle n) a (λ d. refl)
one (InSession channel (Drain handle)) a = silent channel (Drain handle) a (λ d. refl)
one (InSession channel (Settle id o)) a = silent channel (Settle id o) a (λ d. refl)
one (InSession channel (SettleRange first last o)) a = silent channel (SettleRange first last o) a (λ d. refl)
one (InSession channel (Detach handle)) a = silent channel (Detach handle) a (λ d. refl)
one (InSession channel (Refuse handle r)) a = silent channel (Refuse handle r) a (λ d. refl)
one (InSession channel (SettleWith id r)) a = silent channel (SettleWith id r) a (λ d. refl)
one (InSession channel (SettleRangeWith first last r)) a = silent channel (SettleRangeWith first last r) a (λ d. refl)
one (InSession channel (Take handle)) (Fed used o) = refl
one (InSession channel (Take handle)) Accepted = refl
one (InSession channel (Take handle)) (Dropped n) = refl
one (InSession channel (Take handle)) (Named n) = refl
one (InSession channel (Take handle)) (HandedUp d) = sym (append-nil (record_of channel handle d))
one (InSession channel (Take handle)) (Refused f) = refl
one (InSession channel (Take handle)) (MovedOut b) = refl
one (InSession channel (Take handle)) (Holds n) = refl
one (InSession channel (Take handle)) (Ended e) = refl
one Close (Fed used o) = refl
one Close Accepted = refl
one Close (Dropped n) = refl
one Close (Named n) = refl
one Close (HandedUp d) = refl
one Close (Refused f) = refl
one Close (MovedOut b) = refl
one Close (Holds n) = refl
one Close (Ended e) = refl
one (CloseWith r) (Fed used o) = refl
one (CloseWith r) Accepted = refl
one (CloseWith r) (Dropped n) = refl
one (CloseWith r) (Named n) = refl
one (CloseWith r) (HandedUp d) = refl
one (CloseWith r) (Refused f) = refl
one (CloseWith r) (MovedOut b) = refl
one (CloseWith r) (Holds n) = refl
one (CloseWith r) (Ended e) = refl
one Heartbeat (Fed used o) = refl
one Heartbeat Accepted = refl
one Heartbeat (Dropped n) = refl
one Heartbeat (Named n) = refl
one Heartbeat (HandedUp d) = refl
one Heartbeat (Refused f) = refl
one Heartbeat (MovedOut b) = refl
one Heartbeat (Holds n) = refl
one Heartbeat (Ended e) = refl
one (Output room) a = refl
one Held a = refl
one Finish a = refl

noted_on : (ts us : List Told) → noted (ts ++ us) ≡ noted ts ++ noted us
noted_on ts us = ap records (flat_map-append message_in ts us) ∙ flat_map-append (λ (m : ℕ × ℕ × Handed). record_of m.0 m.1 m.2) (flat_map message_in ts) (flat_map message_in us)

-- what is recorded is the record of each message that was handed up
pub records_handed_up : (steps : List Step) → recorded steps ≡ noted (heard (calls_of steps) (answers_of steps))
records_handed_up [] = refl
records_handed_up (x ∷ steps) =
    let rest = heard (calls_of steps) (answers_of steps) in
    ap (λ (l : List ℕ). l ++ recorded steps) (one x.call x.answer) ∙ ap (λ (l : List ℕ). noted (told_by x.call x.answer) ++ l) (records_handed_up steps) ∙ sym (noted_on (told_by x.call x.answer) rest)
