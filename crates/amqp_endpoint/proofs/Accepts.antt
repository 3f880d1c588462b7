-- What a unit comes to, and a call that is not refused, is an event that the connection accepts.
use Rattle.std.proofs.Common.{arith, ◌≡◌, ℕ, zero, suc, ◌*◌, ◌^◌, ◌<◌, ◌≤◌, subst, Bool, true, false, ◌||◌, List, [], ◌∷◌, length, drop, refl, sym, ap, ◌∙◌, ltb-false, Option, Some, None}
use Rattle.std.specs.Prelude.{unwrap_or, slice_get, slice_index, is_some, is_none, nat_lt, nat_le, if◌then◌else◌, bytes_eq}
use Rattle.std.proofs.lemmas.Bool.{leb-false, cond_both, or_right}
use Rattle.amqp_frame.specs.declared.units.TheConstants.{HEADER}
use Rattle.amqp_frame.specs.Units.{StreamUnit, HeaderUnit, FrameUnit, FaultUnit, bytes_of, channel_of, body_of, offset_of}
use Rattle.amqp_perform.specs.declared.descriptor.Descriptor.{Descriptor}
use Rattle.amqp_perform.specs.declared.descriptor.Descriptor.TheVariants as of_type
use Rattle.amqp_perform.specs.declared.fault.BodyFault.{BodyFault}
use Rattle.amqp_perform.specs.declared.fault.BodyFault.TheVariants as body
use Rattle.amqp_perform.specs.Again.{IsOfField, AreOfFields}
use Rattle.amqp_perform.specs.Bodies.{BodyOf}
use Rattle.amqp_perform.specs.Cells.{Cell, Absent, Whole, Bytes, Span, whole_in}
use Rattle.amqp_perform.specs.BodyReading.{body_at, fault_of}
use Rattle.amqp_perform.specs.Tables.{Absence, mandatory, optional, Field, field, uint, fields_of, begin_fields, attach_fields, transfer_fields}
use Rattle.amqp_session.specs.declared.fault.SessionFault.{SessionFault}
use Rattle.amqp_session.specs.declared.fault.CallFault as session_fault
use Rattle.amqp_session.specs.declared.slot.Slot.{Slot}
use Rattle.amqp_session.specs.declared.slot.Slot.TheVariants.{Free, Live, Waits}
use Rattle.amqp_session.specs.declared.terms.SessionTerms.{SessionTerms}
use Rattle.amqp_session.specs.Calls as asks
use Rattle.amqp_session.specs.Faults as session
use Rattle.amqp_session.specs.Frames.{Flowing, Frame, Attaches, Flows, Transfers, Disposes, Detaches, IsInRange}
use Rattle.amqp_session.specs.Histories as lived
use Rattle.amqp_session.specs.Laws.{IsCallInRange}
use Rattle.amqp_session.specs.Places.{IfLive, Life, life_state, IsInUse}
use Rattle.amqp_session.specs.Sessions as event
use Rattle.amqp_session.specs.Sessions.{LiveLink, SessionState, SessionEvent, SessionMay}
use Rattle.amqp_link.specs.Links.{Sent, Delivery, first_ready, is_beyond_credit}
use Rattle.amqp_session.proofs.Firsts.{neither}
use Rattle.amqp_session.proofs.Places.{got, tabulate_long}
use Rattle.amqp_session.proofs.Tables.{same_live, present, found}
use Rattle.amqp_endpoint.specs.declared.fault.CallFault.{CallFault}
use Rattle.amqp_endpoint.specs.declared.fault.CallFault.TheVariants as refused
use Rattle.amqp_endpoint.specs.declared.phase.Phase.{Phase}
use Rattle.amqp_endpoint.specs.declared.phase.Phase.TheVariants as phase
use Rattle.amqp_endpoint.specs.Configs.{Configured, bounds_for}
use Rattle.amqp_endpoint.specs.Connections.{ConnectionState, ConnectionEvent, ConnectionMay, IsLimited, channels, slot_at, lesser, channel_limit, is_unopened, is_open, is_closing, is_dead}
use Rattle.amqp_endpoint.specs.Fields.{Read, Opens, Begins, Ends, Closes, ForSession, Other, begin_in, attach_in, transfer_in, read_in}
use Rattle.amqp_endpoint.specs.Lines.{Line, attach_too_high, by_fault, session_line, channel_line, opened_line, unopened_line, read_line, unread_line, body_line, frame_line, is_read_close}
use Rattle.amqp_endpoint.specs.Lines.{closing_line, line_of, event_on}
use Rattle.amqp_endpoint.specs.Lines as line
use Rattle.amqp_endpoint.specs.Calls.{dead_fault, at_session, of_option, writes, full_fault, call_fault, slot_event, call_event}
use Rattle.amqp_endpoint.specs.Histories.{phase_of, part, state_of, IsSoundPart, Sound}

-- Numbers of fields. ----------------------------------------------------------------------------------------------------

whole_range : (absence : Absence) (c : Cell) → IsOfField (field [] uint absence) c → whole_in c < 2 ^ 32
whole_range absence Absent is = omega arith
whole_range absence (Whole n) is = omega (arith, is.0.1)
whole_range absence (Bytes octets) is = omega arith
whole_range absence (Span text) is = omega arith

-- the numbers of what was read, and what a link may keep that begins
abbrev IsRead : Configured → Read → Type 0
IsRead config (Opens o) = Unit {0}
IsRead config (Begins b) = b.next_outgoing_id < 2 ^ 32
IsRead config Ends = Unit {0}
IsRead config Closes = Unit {0}
IsRead config (ForSession (Attaches a)) = (unwrap_or a.initial_delivery_count 0 < 2 ^ 32) × (a.bounds ≡ bounds_for config a.name)
IsRead config (ForSession (Flows f)) = Unit {0}
IsRead config (ForSession (Transfers handle t)) = unwrap_or t.delivery_id 0 < 2 ^ 32
IsRead config (ForSession (Disposes d)) = Unit {0}
IsRead config (ForSession (Detaches handle closed)) = Unit {0}
IsRead config Other = Unit {0}

begin_ranged : (config : Configured) (cells : List Cell) → AreOfFields begin_fields cells → IsRead config (begin_in cells)
begin_ranged config (a ∷ b ∷ c ∷ d ∷ e ∷ rest) all = whole_range mandatory b all.1.0
begin_ranged config _ all = tt

attach_ranged : (config : Configured) (cells : List Cell) → AreOfFields attach_fields cells → IsRead config (attach_in config cells)
attach_ranged config (a ∷ b ∷ c ∷ d ∷ e ∷ f ∷ g ∷ h ∷ i ∷ j ∷ rest) all = (whole_range optional j all.1.1.1.1.1.1.1.1.1.0, refl)
attach_ranged config _ all = tt

transfer_ranged : (config : Configured) (cells : List Cell) (payload : List ℕ) → AreOfFields transfer_fields cells → IsRead config (transfer_in cells payload)
transfer_ranged config (a ∷ b ∷ c ∷ d ∷ e ∷ f ∷ g ∷ h ∷ i ∷ j ∷ rest) payload all = whole_range optional b all.1.0
transfer_ranged config _ payload all = tt

abbrev WhatIsRead : Type 0
WhatIsRead = (bytes : List ℕ) (d : Descriptor) (cells : List Cell) (payload : List ℕ) → ((i : ℕ) → slice_index bytes i < 256) → body_at bytes ≡ Some (d, cells, payload) → BodyOf bytes d cells payload

abbrev WhatIsWritten : Type 0
WhatIsWritten = (bytes : List ℕ) (d : Descriptor) (fields : List Field) (cells : List Cell) (payload : List ℕ) → ((i : ℕ) → slice_index bytes i < 256) →
    BodyOf bytes d cells payload → fields_of d ≡ Some fields → AreOfFields fields cells

read_ranged : (config : Configured) (d : Descriptor) (cells : List Cell) (payload : List ℕ) → ((fields : List Field) → fields_of d ≡ Some fields → AreOfFields fields cells) → IsRead config (read_in config d cells payload)
read_ranged config of_type.Open (a ∷ b ∷ c ∷ d ∷ e ∷ rest) payload all = tt
read_ranged config of_type.Open _ payload all = tt
read_ranged config of_type.Begin cells payload all = begin_ranged config cells (all begin_fields refl)
read_ranged config of_type.Attach cells payload all = attach_ranged config cells (all attach_fields refl)
read_ranged config of_type.Flow (a ∷ b ∷ c ∷ d ∷ e ∷ f ∷ g ∷ h ∷ i ∷ j ∷ rest) payload all = tt
read_ranged config of_type.Flow _ payload all = tt
read_ranged config of_type.Transfer cells payload all = transfer_ranged config cells payload (all transfer_fields refl)
read_ranged config of_type.Disposition (a ∷ b ∷ c ∷ d ∷ rest) payload all = tt
read_ranged config of_type.Disposition _ payload all = tt
read_ranged config of_type.Detach (a ∷ b ∷ rest) payload all = tt
read_ranged config of_type.Detach _ payload all = tt
read_ranged config of_type.End cells payload all = tt
read_ranged config of_type.Close cells payload all = tt
read_ranged config _ cells payload all = tt

-- Places. ---------------------------------------------------------------------------------------------------------------

-- what the lines ask of a connection
record Stands (s : ConnectionState) : Type 0 where
  long : length s.sessions ≡ channels s.config
  limit : channel_limit s.phase ≤ s.config.channel_max
  frames : (channel : ℕ) (t : SessionState) (f : Frame) → slice_get s.sessions channel ≡ Some (Live t) → IsInRange t.terms.handle_max f → session.session_fault t f ≡ None →
      SessionMay t (session.event_of t f)
  calls : (channel : ℕ) (t : SessionState) (c : asks.Call) → slice_get s.sessions channel ≡ Some (Live t) → IsCallInRange c → asks.call_fault t c ≡ None → SessionMay t (asks.call_event t c)
  none : is_open s.phase ≡ false → (channel : ℕ) → slot_at s channel ≡ Free

here : (s : ConnectionState) (channel : ℕ) (x : Slot SessionState) → slot_at s channel ≡ x → IsInUse x → slice_get s.sessions channel ≡ Some x
here s channel x e used = found (slice_get s.sessions channel) x e used

free_here : (s : ConnectionState) → Stands s → (channel : ℕ) → channel ≤ channel_limit s.phase → slot_at s channel ≡ Free → slice_get s.sessions channel ≡ Some Free
free_here s stands channel low e =
    present s.sessions channel (omega (arith, stands.long, stands.limit, low)) ∙ ap (λ (x : Slot SessionState). Some x) e

lesser_low : (a b : ℕ) → lesser a b ≤ a
lesser_low a b = by_test (nat_le a b) refl
  where
    by_test : (t : Bool) → nat_le a b ≡ t → (if t then a else b) ≤ a
    by_test true e = omega arith
    by_test false e = let l = leb-false a b e in omega (arith, l)

-- Lines. ----------------------------------------------------------------------------------------------------------------

abbrev May : ConnectionState → Line → Type 0
May s l = ConnectionMay s (event_on s l)

-- a line is one of two, by a test
pub one_of : (P : Line → Type 0) (b : Bool) (l m : Line) → (b ≡ true → P l) → (b ≡ false → P m) → P (if b then l else m)
one_of P b l m = cond_both b l m P

in_range : (config : Configured) (s : SessionState) (f : Frame) → IsRead config (ForSession f) → attach_too_high s f ≡ false → IsInRange s.terms.handle_max f
in_range config s (Attaches a) read low = (ltb-false s.terms.handle_max a.handle low, read.0)
in_range config s (Flows f) read low = tt
in_range config s (Transfers handle t) read low = read
in_range config s (Disposes d) read low = tt
in_range config s (Detaches handle closed) read low = tt

-- a link begins with the bounds that its attach was read with, and no other event of a session begins one
one_event : (config : Configured) (b : Bool) (d e : SessionEvent) → IsLimited config d → IsLimited config e → IsLimited config (if b then d else e)
one_event config true d e x y = x
one_event config false d e x y = y

flow_limited : (config : Configured) (handle : ℕ) (f : Flowing) (x : Slot LiveLink) → IsLimited config (session.flow_event handle f x)
flow_limited config handle f Free = tt
flow_limited config handle f (Live l) =
    one_event config (is_beyond_credit l.link.delivery_count l.link.credit f.delivery_count) (event.LinkFlowEnded handle f.next_outgoing_id)
    (event.LinkFlowCame handle f.next_outgoing_id f.delivery_count) tt tt
flow_limited config handle f Waits = tt

named_limited : (config : Configured) (t : SessionState) (f : Flowing) (o : Option ℕ) → IsLimited config (session.named_event t f o)
named_limited config t f None = tt
named_limited config t f (Some handle) = flow_limited config handle f (event.slot_at t handle)

transfer_limited : (config : Configured) (t : SessionState) (handle : ℕ) (x : Sent) (slot : Slot LiveLink) → IsLimited config (session.transfer_event t handle x slot)
transfer_limited config t handle x Free = tt
transfer_limited config t handle x (Live l) = one_event config (is_none (session.transfer_fault t l.link x)) (event.TransferCame handle x) (event.TransferEnded handle) tt tt
transfer_limited config t handle x Waits = tt

frame_limited : (config : Configured) (t : SessionState) (f : Frame) → IsRead config (ForSession f) → IsLimited config (session.event_of t f)
frame_limited config t (Attaches a) read =
    one_event config (is_none (session.refusal t.terms a)) (event.LinkAttached a.handle (session.attached t.terms a)) (event.LinkRefused a.handle) read.1 tt
frame_limited config t (Flows f) read = named_limited config t f f.handle
frame_limited config t (Transfers handle x) read = transfer_limited config t handle x (event.slot_at t handle)
frame_limited config t (Disposes d) read = one_event config (session.is_settling d) (event.PeerSettled d.first (session.last_of d)) event.Ignored tt tt
frame_limited config t (Detaches handle closed) read = tt

first_limited : (config : Configured) (handle : ℕ) (o : Option Delivery) → IsLimited config (asks.first_taken handle o)
first_limited config handle None = tt
first_limited config handle (Some d) = tt

take_limited : (config : Configured) (handle : ℕ) (x : Slot LiveLink) → IsLimited config (asks.take_event handle x)
take_limited config handle Free = tt
take_limited config handle (Live l) = first_limited config handle (first_ready l.link)
take_limited config handle Waits = tt

call_limited : (config : Configured) (t : SessionState) (c : asks.Call) → IsLimited config (asks.call_event t c)
call_limited config t (asks.Widen n) = tt
call_limited config t (asks.Grant handle n) = tt
call_limited config t (asks.Drain handle) = tt
call_limited config t (asks.Take handle) = take_limited config handle (event.slot_at t handle)
call_limited config t (asks.Settle id outcome) = tt
call_limited config t (asks.SettleRange first last outcome) = tt
call_limited config t (asks.Detach handle) = tt
call_limited config t (asks.Refuse handle r) = tt
call_limited config t (asks.SettleWith id r) = tt
call_limited config t (asks.SettleRangeWith first last r) = tt

module _ (s : ConnectionState) (stands : Stands s) (shut : is_closing s.phase ≡ false) (over : is_dead s.phase ≡ false) where
  session_may : is_open s.phase ≡ true → (channel : ℕ) (t : SessionState) (f : Frame) → slot_at s channel ≡ Live t → IsRead s.config (ForSession f) → May s (session_line channel t f)
  session_may opened channel t f e read =
      one_of (May s) (attach_too_high t f) line.HandleTooHigh (by_fault channel t f (session.session_fault t f)) (λ high. ((over, shut), tt, tt)) (λ low. by_it low (session.session_fault t f) refl)
    where
      at_place : slice_get s.sessions channel ≡ Some (Live t)
      at_place = here s channel (Live t) e tt

      by_it : attach_too_high t f ≡ false → (o : Option SessionFault) → session.session_fault t f ≡ o → May s (by_fault channel t f o)
      by_it low None none = (opened, tt, (t, at_place, (stands.frames channel t f at_place (in_range s.config t f read low) none, frame_limited s.config t f read)))
      by_it low (Some fault) some = (opened, tt, (Live t, at_place, tt))

  channel_may : is_open s.phase ≡ true → (channel : ℕ) (r : Read) → channel ≤ channel_limit s.phase → IsRead s.config r → (x : Slot SessionState) → slot_at s channel ≡ x → May s (channel_line channel x r)
  channel_may opened channel (Opens o) low read Free e = ((over, shut), tt, tt)
  channel_may opened channel (Begins b) low read Free e =
      one_of (May s) (is_some b.remote_channel) line.BeginMisplaced (line.PeerBegins channel b) (λ so. ((over, shut), tt, tt))
      (λ so. (opened, tt, (free_here s stands channel low e, record { window = refl; first = read; handles = lesser_low s.config.handle_max b.handle_max })))
  channel_may opened channel Ends low read Free e = ((over, shut), tt, tt)
  channel_may opened channel Closes low read Free e = ((over, shut), tt, tt)
  channel_may opened channel (ForSession f) low read Free e = ((over, shut), tt, tt)
  channel_may opened channel Other low read Free e = ((over, shut), tt, tt)
  channel_may opened channel (Opens o) low read (Live t) e = ((over, shut), tt, tt)
  channel_may opened channel (Begins b) low read (Live t) e = ((over, shut), tt, tt)
  channel_may opened channel Ends low read (Live t) e = (opened, tt, (Live t, here s channel (Live t) e tt, tt))
  channel_may opened channel Closes low read (Live t) e = ((over, shut), tt, tt)
  channel_may opened channel (ForSession f) low read (Live t) e = session_may opened channel t f e read
  channel_may opened channel Other low read (Live t) e = ((over, shut), tt, tt)
  channel_may opened channel (Opens o) low read Waits e = (over, tt, tt)
  channel_may opened channel (Begins b) low read Waits e = (over, tt, tt)
  channel_may opened channel Ends low read Waits e = (opened, tt, (Waits, here s channel Waits e tt, tt))
  channel_may opened channel Closes low read Waits e = (over, tt, tt)
  channel_may opened channel (ForSession f) low read Waits e = (over, tt, tt)
  channel_may opened channel Other low read Waits e = (over, tt, tt)

  is_opened : is_unopened s.phase ≡ false → is_open s.phase ≡ true
  is_opened = by_phase s.phase shut over
    where
      by_phase : (p : Phase) → is_closing p ≡ false → is_dead p ≡ false → is_unopened p ≡ false → is_open p ≡ true
      by_phase phase.Unopened a b c = absurd (grind (arith, c))
      by_phase (phase.Open m n) a b c = refl
      by_phase phase.Closing a b c = absurd (grind (arith, a))
      by_phase phase.Dead a b c = absurd (grind (arith, b))

  opened_may : is_open s.phase ≡ true → (channel : ℕ) (r : Read) → channel ≤ channel_limit s.phase → IsRead s.config r → May s (opened_line s channel r)
  opened_may opened channel (Opens o) low read = ((over, shut), tt, tt)
  opened_may opened channel (Begins b) low read = channel_may opened channel (Begins b) low read (slot_at s channel) refl
  opened_may opened channel Ends low read = channel_may opened channel Ends low read (slot_at s channel) refl
  opened_may opened channel Closes low read = (ap (λ (b : Bool). b || is_closing s.phase) opened, tt, tt)
  opened_may opened channel (ForSession f) low read = channel_may opened channel (ForSession f) low read (slot_at s channel) refl
  opened_may opened channel Other low read = ((over, shut), tt, tt)

  unopened_may : is_unopened s.phase ≡ true → (r : Read) → May s (unopened_line r)
  unopened_may before (Opens o) = (by_phase s.phase before, lesser_low s.config.channel_max o.channel_max, tt)
    where
      by_phase : (p : Phase) → is_unopened p ≡ true → p ≡ phase.Unopened
      by_phase phase.Unopened a = refl
      by_phase (phase.Open m n) a = absurd (grind (arith, a))
      by_phase phase.Closing a = absurd (grind (arith, a))
      by_phase phase.Dead a = absurd (grind (arith, a))
  unopened_may before r = ((over, shut), tt, tt)

  read_may : (channel : ℕ) (r : Read) → channel ≤ channel_limit s.phase → IsRead s.config r → May s (read_line s channel r)
  read_may channel r low read =
      one_of (May s) (is_unopened s.phase) (unopened_line r) (opened_line s channel r) (λ before. unopened_may before r) (λ after. opened_may (is_opened after) channel r low read)

  unread_may : (f : BodyFault) → May s (unread_line f)
  unread_may (body.Decode e) = ((over, shut), tt, tt)
  unread_may body.InvalidField = ((over, shut), tt, tt)

  body_may : (channel : ℕ) (bytes : List ℕ) (o : Option (Descriptor × List Cell × List ℕ)) → channel ≤ channel_limit s.phase →
      ((d : Descriptor) (cells : List Cell) (payload : List ℕ) → o ≡ Some (d, cells, payload) → IsRead s.config (read_in s.config d cells payload)) → May s (body_line s channel bytes o)
  body_may channel bytes None low read = unread_may (fault_of bytes)
  body_may channel bytes (Some x) low read = read_may channel (read_in s.config x.0 x.1 x.2) low (read x.0 x.1 x.2 refl)

  frame_may : (channel : ℕ) (bytes : List ℕ) → ((d : Descriptor) (cells : List Cell) (payload : List ℕ) → body_at bytes ≡ Some (d, cells, payload) → IsRead s.config (read_in s.config d cells payload)) →
      May s (frame_line s channel bytes)
  frame_may channel [] read = (over, tt, tt)
  frame_may channel (b ∷ bytes) read =
      one_of (May s) (nat_lt (channel_limit s.phase) channel) line.ChannelTooHigh (body_line s channel (b ∷ bytes) (body_at (b ∷ bytes))) (λ high. ((over, shut), tt, tt))
      (λ low. body_may channel (b ∷ bytes) (body_at (b ∷ bytes)) (ltb-false (channel_limit s.phase) channel low) read)

closing_phase : (p : Phase) → is_closing p ≡ true → p ≡ phase.Closing
closing_phase phase.Unopened a = absurd (grind (arith, a))
closing_phase (phase.Open m n) a = absurd (grind (arith, a))
closing_phase phase.Closing a = refl
closing_phase phase.Dead a = absurd (grind (arith, a))

closing_may : (s : ConnectionState) (bytes : List ℕ) → is_closing s.phase ≡ true → is_dead s.phase ≡ false → May s (closing_line bytes)
closing_may s bytes closing over =
    one_of (May s) (is_read_close (body_at bytes)) line.CloseAwaited line.DroppedInClosing (λ so. (or_right (is_open s.phase) (is_closing s.phase) closing, tt, tt)) (λ so. (over, tt, tt))

-- a byte of the body is a byte of the frame
dropped_bytes : (n : ℕ) (bytes : List ℕ) → ((i : ℕ) → slice_index bytes i < 256) → (i : ℕ) → slice_index (drop n bytes) i < 256
dropped_bytes zero bytes each i = each i
dropped_bytes (suc n) [] each i = each i
dropped_bytes (suc n) (b ∷ bytes) each i = dropped_bytes n bytes (λ j. each (suc j)) i

unit_may : WhatIsRead → WhatIsWritten → (s : ConnectionState) → Stands s → (u : StreamUnit) → is_dead s.phase ≡ false → ((i : ℕ) → slice_index (bytes_of u) i < 256) → May s (line_of s u)
unit_may found written s stands (HeaderUnit bytes) over each =
    one_of (May s) (bytes_eq bytes HEADER) line.HeaderAccepted line.HeaderUnknown (λ so. (over, tt, tt)) (λ so. (over, tt, tt))
unit_may found written s stands (FaultUnit fault bytes) over each =
    one_of (May s) (is_closing s.phase) line.FrameBadInClosing line.FrameBad (λ so. (closing_phase s.phase so, tt, tt)) (λ so. ((over, so), tt, tt))
unit_may found written s stands (FrameUnit bytes) over each =
    let part = body_of bytes in
    let low = dropped_bytes (4 * offset_of bytes) bytes each in
    one_of (May s) (is_closing s.phase) (closing_line part) (frame_line s (channel_of bytes) part) (λ so. closing_may s part so over)
    (λ so. frame_may s stands so over (channel_of bytes) part
    (λ d cells payload e. read_ranged s.config d cells payload (λ fields table. written part d fields cells payload low (found part d cells payload low e) table)))

-- Calls. ----------------------------------------------------------------------------------------------------------------

not_refused : (o : Option session_fault.CallFault) → of_option o ≡ None → o ≡ None
not_refused None e = refl
not_refused (Some fault) e = absurd (grind (arith, e))

neither_true : (a b : Bool) (x : CallFault) → session.where_so (a || b) x ≡ None → (a ≡ false) × (b ≡ false)
neither_true true b x e = absurd (grind (arith, e))
neither_true false true x e = absurd (grind (arith, e))
neither_true false false x e = (refl, refl)

slot_may : (s : ConnectionState) → Stands s → (channel : ℕ) (c : asks.Call) → is_dead s.phase ≡ false → IsCallInRange c → (x : Slot SessionState) → slot_at s channel ≡ x → at_session x c ≡ None →
    ConnectionMay s (slot_event channel x c)
slot_may s stands channel c over range Free e none = absurd (grind (arith, none))
slot_may s stands channel c over range (Live t) e none =
    let at_place = here s channel (Live t) e tt in (opened (is_open s.phase) refl, tt, (t, at_place, (stands.calls channel t c at_place range (not_refused (asks.call_fault t c) none), call_limited s.config t c)))
  where
    opened : (b : Bool) → is_open s.phase ≡ b → b ≡ true
    opened true so = refl
    opened false so = absurd (grind (arith, sym e ∙ stands.none so channel))
slot_may s stands channel c over range Waits e none = absurd (grind (arith, none))

call_may : (s : ConnectionState) → Stands s → (unsent : List ℕ) (channel : ℕ) (c : asks.Call) → IsCallInRange c → call_fault s unsent channel c ≡ None → ConnectionMay s (call_event s channel c)
call_may s stands unsent channel c range none =
    let parts = neither (dead_fault s) (session.or_else (at_session (slot_at s channel) c) (if writes c then full_fault unsent else None)) none in
    let rest = neither (at_session (slot_at s channel) c) (if writes c then full_fault unsent else None) parts.1 in
    slot_may s stands channel c (neither_true (is_dead s.phase) (is_closing s.phase) refused.Dead parts.0).0 range (slot_at s channel) refl rest.0

-- Sound histories. ------------------------------------------------------------------------------------------------------

abbrev FramesAccepted : Type 0
FramesAccepted = (terms : SessionTerms) (h : List SessionEvent) (f : Frame) → lived.Sound terms h → IsInRange terms.handle_max f → session.session_fault (lived.state_of terms h) f ≡ None →
    SessionMay (lived.state_of terms h) (session.event_of (lived.state_of terms h) f)

abbrev CallsAccepted : Type 0
CallsAccepted = (terms : SessionTerms) (h : List SessionEvent) (c : asks.Call) → lived.Sound terms h → IsCallInRange c → asks.call_fault (lived.state_of terms h) c ≡ None →
    SessionMay (lived.state_of terms h) (asks.call_event (lived.state_of terms h) c)

-- what lives at a place has a sound history
live_sound : (P : SessionState → Type 0) (config : Configured) → ((terms : SessionTerms) (h : List SessionEvent) → lived.Sound terms h → P (lived.state_of terms h)) →
    (l : Slot (Life SessionTerms SessionEvent)) → IfLive (λ life. IsSoundPart config life.0 life.1) l → (t : SessionState) → life_state lived.state_of l ≡ Live t → P t
live_sound P config law Free sound t e = absurd (grind (arith, e))
live_sound P config law (Live life) sound t e = subst (λ (x : SessionState). P x) (same_live (lived.state_of life.0 life.1) t e) (law life.0 life.1 sound.session)
live_sound P config law Waits sound t e = absurd (grind (arith, e))

stands_for : FramesAccepted → CallsAccepted → (config : Configured) (h : List ConnectionEvent) → Sound config h → Stands (state_of config h)
stands_for frames calls config h sound =
    let at : ℕ → Slot SessionState = λ channel. life_state lived.state_of (part channel h) in record {
      long = tabulate_long 0 (channels config) at;
      limit = sound.limit;
      frames = λ channel t f e range none.
          let place = got (channels config) at channel (Live t) e in
          live_sound (λ (x : SessionState). IsInRange x.terms.handle_max f → session.session_fault x f ≡ None → SessionMay x (session.event_of x f)) config
          (λ terms hs whole. frames terms hs f whole) (part channel h)
          (sound.sessions channel place.0) t place.1 range none;
      calls = λ channel t c e range none.
          let place = got (channels config) at channel (Live t) e in
          live_sound (λ (x : SessionState). IsCallInRange c → asks.call_fault x c ≡ None → SessionMay x (asks.call_event x c)) config (λ terms hs whole. calls terms hs c whole) (part channel h)
          (sound.sessions channel place.0) t place.1 range none;
      none = λ shut channel. nothing channel (slice_get (state_of config h).sessions channel) refl (sound.none shut channel);
    }
  where
    nothing : (channel : ℕ) (o : Option (Slot SessionState)) → slice_get (state_of config h).sessions channel ≡ o → part channel h ≡ Free → unwrap_or o Free ≡ Free
    nothing channel None e none = refl
    nothing channel (Some x) e none =
        sym (got (channels config) (λ k. life_state lived.state_of (part k h)) channel x e).1 ∙ ap (λ (l : Slot (Life SessionTerms SessionEvent)). life_state lived.state_of l) none

-- what a unit comes to is an event that the connection may take
pub units_may : WhatIsRead → WhatIsWritten → FramesAccepted → CallsAccepted → (config : Configured) (h : List ConnectionEvent) (u : StreamUnit) → Sound config h → is_dead (phase_of h) ≡ false →
    ((i : ℕ) → slice_index (bytes_of u) i < 256) → ConnectionMay (state_of config h) (event_on (state_of config h) (line_of (state_of config h) u))
units_may found written frames calls config h u sound over each = unit_may found written (state_of config h) (stands_for frames calls config h sound) u over each

-- so is a call that is not refused
pub calls_may : FramesAccepted → CallsAccepted → (config : Configured) (h : List ConnectionEvent) (unsent : List ℕ) (channel : ℕ) (c : asks.Call) → Sound config h → IsCallInRange c →
    call_fault (state_of config h) unsent channel c ≡ None → ConnectionMay (state_of config h) (call_event (state_of config h) channel c)
calls_may frames calls config h unsent channel c sound range none = call_may (state_of config h) (stands_for frames calls config h sound) unsent channel c range none
