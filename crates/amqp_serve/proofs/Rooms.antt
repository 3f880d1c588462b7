-- How long the answers to one step are at most.
use Rattle.std.proofs.Common.{◌≡◌, ℕ, ◌+◌, ◌*◌, ◌≤◌, arith, inl, inr, Bool, true, false, List, [], ◌∷◌, ◌++◌, length, length-append, take, drop, refl, sym, ap, subst, ◌∙◌}
use Rattle.std.proofs.lemmas.List.{take-append-drop}
use Rattle.std.specs.List.{flat_map}
use Rattle.amqp_frame.specs.Units.{StreamUnit}
use Rattle.amqp_frame.proofs.Fronts.{waits_or_not}
use Rattle.amqp_session.specs.Calls as session
use Rattle.amqp_endpoint.specs.declared.event.Event.{Event}
use Rattle.amqp_endpoint.specs.declared.event.Event.TheVariants as event
use Rattle.amqp_endpoint.specs.declared.event.Outcome.{Outcome}
use Rattle.amqp_endpoint.specs.declared.event.Outcome.TheVariants as outcome
use Rattle.amqp_endpoint.specs.Calls.{call_spoken, reply_room}
use Rattle.amqp_endpoint.specs.Configs.{Configured}
use Rattle.amqp_endpoint.specs.Connections.{ConnectionState, is_dead, slot_at}
use Rattle.amqp_endpoint.specs.Lines.{line_of}
use Rattle.amqp_endpoint.specs.Replies.{joined, reply_on}
use Rattle.amqp_endpoint.specs.Runs.{InSession, Answer, Fed, Accepted, Dropped, Named, Handed, HandedUp, Refused, MovedOut, Holds, Ended, IsWritten, CallDone, Does, accepted_answer}
use Rattle.amqp_endpoint.specs.Steps as steps
use Rattle.amqp_endpoint.specs.Steps.{EndpointState, IsKept, IsFed, Acts, room_for}
use Rattle.amqp_endpoint.specs.Traces.{moved_by}
use Rattle.amqp_endpoint.proofs.Traces.{answer_still}
use Rattle.amqp_serve.specs.declared.rules.Rule.{Rule}
use Rattle.amqp_serve.specs.declared.supplies.Supply.{Supply}
use Rattle.amqp_serve.specs.declared.supplies.Supply.TheVariants.{WindowOf, CreditOf}
use Rattle.amqp_serve.specs.Deeds.{outcomes_by}
use Rattle.amqp_serve.specs.Rooms.{answers_room}
use Rattle.amqp_serve.specs.Serving.{Stand, ToppingUp, Receiving, Settling, Starved, Over, all_supplies, stand_told, stand_handed, stand_taken, lack, top_up_by, Step, Serves, Rests, MovesOut, Feeds, Takes, Settles, TopsUp, Passes, Finishes, moved}

-- Some bytes more wait, at most so many, and no configuration has changed.
record IsLonger (n : ℕ) (s t : EndpointState) : Type 0 where
  most : length t.unsent ≤ length s.unsent + n
  config : t.connection.config ≡ s.connection.config
  limit : t.input.limit ≡ s.input.limit

kept_longer : (n : ℕ) (s t : EndpointState) → IsKept s t → IsLonger n s t
kept_longer n s t kept = record {
  most = let e = ap (λ (l : List ℕ). length l) kept.unsent in omega (arith, e);
  config = ap (λ (c : ConnectionState). c.config) kept.connection;
  limit = kept.input.limit;
}

-- so many bytes at the front of some
front_out : (n : ℕ) (bytes moves left : List ℕ) → moves ≡ take n bytes → left ≡ drop n bytes → length moves + length left ≡ length bytes
front_out n bytes moves left is rest =
    sym (length-append moves left) ∙ ap (λ (l : List ℕ). length l) (ap (λ (l : List ℕ). l ++ left) is ∙ ap (λ (l : List ℕ). take n bytes ++ l) rest ∙ take-append-drop n bytes)

module _ (units : (s : ConnectionState) (u : StreamUnit) → length s.config.container_id ≤ 255 → length (reply_on s (line_of s u)) ≤ reply_room)
    (calls : (s : ConnectionState) (channel : ℕ) (c : session.Call) → length (joined (call_spoken s channel c)) ≤ reply_room) where
  -- A call for a session. --------------------------------------------------------------------------------------------------

  module _ (s t : EndpointState) (channel : ℕ) (c : session.Call) where
    written_longer : (e : _) → IsWritten s t e (joined (call_spoken s.connection channel c)) → IsLonger reply_room s t
    written_longer e x = record {
      most = let l = ap (λ (b : List ℕ). length b) x.unsent in omega (arith, l, length-append s.unsent (joined (call_spoken s.connection channel c)), calls s.connection channel c);
      config = ap (λ (k : ConnectionState). k.config) x.connection;
      limit = x.input.limit;
    }

    call_longer : (answer : Answer) → CallDone s t channel c answer → IsLonger reply_room s t
    call_longer (Refused fault) d = kept_longer reply_room s t d.1
    call_longer (Fed used told) d = written_longer _ d.1
    call_longer Accepted d = written_longer _ d.1
    call_longer (Dropped n) d = written_longer _ d.1
    call_longer (Named n) d = written_longer _ d.1
    call_longer (HandedUp h) d = written_longer _ d.1
    call_longer (MovedOut bytes) d = written_longer _ d.1
    call_longer (Holds n) d = written_longer _ d.1
    call_longer (Ended end) d = written_longer _ d.1

    accepted_silent : (answer : Answer) → answer ≡ accepted_answer (slot_at s.connection channel) c → moved_by answer ≡ []
    accepted_silent answer is = ap (λ (a : Answer). moved_by a) is ∙ answer_still (slot_at s.connection channel) c

    call_silent : (answer : Answer) → CallDone s t channel c answer → moved_by answer ≡ []
    call_silent (Refused fault) d = refl
    call_silent (Fed used told) d = refl
    call_silent Accepted d = refl
    call_silent (Dropped n) d = refl
    call_silent (Named n) d = refl
    call_silent (HandedUp h) d = refl
    call_silent (MovedOut bytes) d = accepted_silent (MovedOut bytes) d.2
    call_silent (Holds n) d = refl
    call_silent (Ended end) d = refl

  top_longer : (s t : EndpointState) (supply : Supply) (n : ℕ) (answer : Answer) → Does s t (top_up_by supply n) answer → IsLonger reply_room s t × (moved_by answer ≡ [])
  top_longer s t (WindowOf channel) n answer d = (call_longer s t channel (session.Widen n) answer d, call_silent s t channel (session.Widen n) answer d)
  top_longer s t (CreditOf channel handle) n answer d = (call_longer s t channel (session.Grant handle n) answer d, call_silent s t channel (session.Grant handle n) answer d)

  -- A feed. ----------------------------------------------------------------------------------------------------------------

  acts_longer : (s t : EndpointState) (u : StreamUnit) (may : Bool) (told : Outcome) → length s.connection.config.container_id ≤ 255 → Acts s t u may told → IsLonger reply_room s t
  acts_longer s t u false told short x = kept_longer reply_room s t x.0
  acts_longer s t u true told short (inl acted) = record {
    most = let l = ap (λ (b : List ℕ). length b) acted.unsent in omega (arith, l, length-append s.unsent (reply_on s.connection (line_of s.connection u)), units s.connection u short);
    config = ap (λ (k : ConnectionState). k.config) acted.connection;
    limit = acted.input.limit;
  }
  acts_longer s t u true told short (inr kept) = kept_longer reply_room s t kept.0

  fed_longer : (s t : EndpointState) (piece : List ℕ) (used : ℕ) (told : Outcome) → length s.connection.config.container_id ≤ 255 → 8 ≤ s.input.limit → IsFed s t piece used told → IsLonger reply_room s t
  fed_longer s t piece used told short least = by (is_dead s.connection.phase)
    where
      by : (over : Bool) → steps.FeedDone over s t piece used told → IsLonger reply_room s t
      by true x = kept_longer reply_room s t x.0
      by false x =
          let between : EndpointState = record s { input = x.between } in
          let longer : IsLonger reply_room between t =
          elim (waits_or_not x.between (subst (λ (n : ℕ). 8 ≤ n) (sym x.taken.limit) least)) [
            | inl w ↦ acts_longer between t w.0 (room_for s.unsent w.0) told short (x.comes.unit w.0 w.1)
            | inr idle ↦ kept_longer reply_room between t (x.comes.none idle).0
          ] in
          record { most = longer.most; config = longer.config; limit = longer.limit ∙ x.taken.limit }

  -- Any steps. -------------------------------------------------------------------------------------------------------------

  module _ (r : Rule) (config : Configured) (short : length config.container_id ≤ 255) where
    -- what may be written from a stand on, until the next piece is fed
    abbrev room_at : Stand → ℕ
    room_at (ToppingUp supplies) = length supplies * reply_room
    room_at (Receiving channel handle) = (2 + length (all_supplies config)) * reply_room
    room_at (Settling channel id) = (1 + length (all_supplies config)) * reply_room
    room_at Starved = 0
    room_at Over = 0

    -- and behind each feed
    abbrev rooms : List Outcome → ℕ
    rooms [] = 0
    rooms (o ∷ os) = answers_room config + rooms os

    rooms_on : (os ps : List Outcome) → rooms (os ++ ps) ≡ rooms os + rooms ps
    rooms_on [] ps = omega arith
    rooms_on (o ∷ os) ps = let e = rooms_on os ps in omega (arith, e)

    abbrev tells : List Step → List Outcome
    tells steps = flat_map (λ x. outcomes_by x.answer) steps

    -- where the configuration is this one
    same_supplies : (k : Configured) → k ≡ config → length (all_supplies k) ≡ length (all_supplies config)
    same_supplies k is = ap (λ (c : Configured). length (all_supplies c)) is

    event_room : (k : Configured) (e : Event) → k ≡ config → room_at (stand_told k (outcome.Event e)) ≤ (2 + length (all_supplies config)) * reply_room
    event_room k (event.Ready channel handle) is = omega arith
    event_room k e is = let l = same_supplies k is in omega (arith, l)

    told_room : (k : Configured) (told : Outcome) → k ≡ config → room_at (stand_told k told) ≤ (2 + length (all_supplies config)) * reply_room
    told_room k (outcome.Event e) is = event_room k e is
    told_room k outcome.NoMemory is = omega arith
    told_room k told is = let l = same_supplies k is in omega (arith, l)

    handed_room : (k : Configured) (channel : ℕ) (d : Handed) → k ≡ config → room_at (stand_handed k channel d) ≤ (1 + length (all_supplies config)) * reply_room
    handed_room k channel d is = by d.settled refl
      where
        by : (b : Bool) → d.settled ≡ b → room_at (stand_handed k channel d) ≤ (1 + length (all_supplies config)) * reply_room
        by true same = rw same (let l = same_supplies k is in omega (arith, l))
        by false same = rw same (omega arith)

    taken_room : (k : Configured) (channel : ℕ) (answer : Answer) → k ≡ config → room_at (stand_taken k channel answer) ≤ (1 + length (all_supplies config)) * reply_room
    taken_room k channel (HandedUp d) is = handed_room k channel d is
    taken_room k channel answer is = let l = same_supplies k is in omega (arith, l)

    -- where a call goes before other steps
    before : (s next t : EndpointState) (answer : Answer) (xs : List Step) (x : Step) (n now behind : ℕ) → x.answer ≡ answer → IsLonger n s next → moved_by answer ≡ [] → behind + n ≤ now →
        length (moved xs) + length t.unsent ≤ length next.unsent + (behind + rooms (tells xs)) → length (moved (x ∷ xs)) + length t.unsent ≤ length s.unsent + (now + rooms (tells (x ∷ xs)))
    before s next t answer xs x n now behind is longer none room rest =
        let quiet = ap (λ (l : List ℕ). length l) (ap (λ (a : Answer). moved_by a) is ∙ none) in
        omega (arith, quiet, length-append (moved_by x.answer) (moved xs), rooms_on (outcomes_by x.answer) (tells xs), longer.most, room, rest)

    pub serves_within : {a b : Stand} {s t : EndpointState} {xs : List Step} → Serves r a s xs b t → s.connection.config ≡ config → 8 ≤ s.input.limit →
        length (moved xs) + length t.unsent ≤ length s.unsent + (room_at a + rooms (tells xs))
    serves_within Rests same least = omega arith
    serves_within (MovesOut {p} {a} {b} {s} {last} {steps} next room bytes does x) same least =
        let rest = serves_within x (ap (λ (k : ConnectionState). k.config) does.connection ∙ same) (omega (arith, least, does.input.limit)) in
        omega (arith, rest, length-append bytes (moved steps), front_out room s.unsent bytes next.unsent does.moved does.unsent)
    serves_within (Feeds {p} {b} {s} {last} {steps} next piece used told none range does x) same least =
        let longer = fed_longer s next piece used told (subst (λ (k : Configured). length k.container_id ≤ 255) (sym same) short) least does in
        let rest = serves_within x (longer.config ∙ same) (omega (arith, least, longer.limit)) in
        omega (arith, rest, longer.most, told_room next.connection.config told (longer.config ∙ same))
    serves_within (Takes {p} {b} {s} {last} {steps} next channel handle answer does x) same least =
        let longer = call_longer s next channel (session.Take handle) answer does in
        let rest = serves_within x (longer.config ∙ same) (omega (arith, least, longer.limit)) in
        let room = taken_room next.connection.config channel answer (longer.config ∙ same) in
        before s next last answer steps (record { call = InSession channel (session.Take handle); answer = answer }) reply_room _ _ refl longer (call_silent s next channel (session.Take handle) answer does) (omega (arith, room)) rest
    serves_within (Settles {p} {b} {s} {last} {steps} next channel id answer none small does x) same least =
        let longer = call_longer s next channel (session.Settle id p.outcome) answer does in
        let rest = serves_within x (longer.config ∙ same) (omega (arith, least, longer.limit)) in
        let l = same_supplies next.connection.config (longer.config ∙ same) in
        before s next last answer steps (record { call = InSession channel (session.Settle id p.outcome); answer = answer }) reply_room _ _ refl longer (call_silent s next channel (session.Settle id p.outcome) answer does) (omega (arith, l)) rest
    serves_within (TopsUp {p} {b} {s} {last} {steps} next supply supplies answer none lacks does x) same least =
        let both = top_longer s next supply (lack p s.connection supply) answer does in
        let rest = serves_within x (both.0.config ∙ same) (omega (arith, least, both.0.limit)) in
        before s next last answer steps (record { call = top_up_by supply (lack p s.connection supply); answer = answer }) reply_room _ _ refl both.0 both.1 (omega arith) rest
    serves_within (Passes supply supplies lacks x) same least = let rest = serves_within x same least in omega (arith, rest)
    serves_within (Finishes {p} {b} {s} {last} {steps} next end none does x) same least =
        let rest = serves_within x (ap (λ (k : ConnectionState). k.config) does.0.connection ∙ same) (omega (arith, least, does.0.limit)) in
        let e = ap (λ (l : List ℕ). length l) does.0.unsent in
        omega (arith, rest, e)

    -- One step, that told of one feed: none of its answers waits behind it.
    pub step_within : {s t : EndpointState} {xs : List Step} (told : Outcome) → Serves r (ToppingUp []) s xs (ToppingUp []) t → s.connection.config ≡ config → 8 ≤ s.input.limit → s.unsent ≡ [] →
        told ∷ [] ≡ tells xs → length (moved xs) ≤ answers_room config
    step_within {s} {t} {xs} told x same least none one =
        let all = serves_within x same least in
        let silent = ap (λ (l : List ℕ). length l) none in
        let room = ap rooms one in
        omega (arith, all, silent, room)
