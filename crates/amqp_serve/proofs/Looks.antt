-- What may lack something behind a feed, and behind a message that was taken.
use Rattle.std.proofs.Common.{arith, ◌≡◌, ℕ, ◌≤◌, inl, inr, Bool, true, false, List, [], ◌∷◌, length, Option, Some, None, refl, sym, ap, subst, ◌∙◌, ◌↔◌, IsTrue}
use Rattle.std.specs.Prelude.{if◌then◌else◌, nat_eq, is_none}
use Rattle.std.proofs.lemmas.Bool.{eq-eqb, eqb-true, true≢false}
use Rattle.amqp_frame.proofs.Fronts.{waits_or_not}
use Rattle.amqp_link.specs.declared.transfer.LinkFault.{LinkFault}
use Rattle.amqp_link.specs.declared.transfer.Step.{Step as LinkStep}
use Rattle.amqp_link.specs.declared.transfer.Step.TheVariants as step
use Rattle.amqp_link.specs.Links.{step_of, is_beyond_credit, is_drained}
use Rattle.amqp_perform.specs.declared.condition.Condition.{Condition}
use Rattle.amqp_perform.specs.declared.condition.Condition.TheVariants.{TransferLimitExceeded}
use Rattle.amqp_session.specs.declared.report.Report.{Report}
use Rattle.amqp_session.specs.declared.report.Report.TheVariants as report
use Rattle.amqp_session.specs.declared.slot.Slot.{Slot}
use Rattle.amqp_session.specs.declared.slot.Slot.TheVariants.{Free, Live, Waits as Awaits}
use Rattle.amqp_session.specs.Faults as faults
use Rattle.amqp_session.specs.Faults.{refusal, transfer_fault, attach_report, came_report, step_report, settled_count, last_of, is_settling}
use Rattle.amqp_session.specs.Frames.{Frame, Attaches, Flows, Transfers, Disposes, Detaches}
use Rattle.amqp_session.specs.Laws.{IsElsewhere}
use Rattle.amqp_session.specs.Sessions as one
use Rattle.amqp_session.specs.Sessions.{LiveLink, SessionState, SessionEvent, slot_at as link_slot, happens}
use Rattle.amqp_session.proofs.Lives.{slot_elsewhere}
use Rattle.amqp_endpoint.specs.declared.event.Event.{Event}
use Rattle.amqp_endpoint.specs.declared.event.Event.TheVariants as event
use Rattle.amqp_endpoint.specs.declared.event.Outcome.{Outcome}
use Rattle.amqp_endpoint.specs.declared.event.Outcome.TheVariants as outcome
use Rattle.amqp_endpoint.specs.Configs.{Configured}
use Rattle.amqp_endpoint.specs.Connections as connection
use Rattle.amqp_endpoint.specs.Connections.{ConnectionState, connection_after, slot_at, is_dead}
use Rattle.amqp_endpoint.specs.Lines as line
use Rattle.amqp_endpoint.specs.Lines.{Line, line_of, event_on, told_on, report_told}
use Rattle.amqp_endpoint.specs.Steps.{EndpointState, IsFed, FeedDone, Acts, acted_after, acted_outcome, room_for, told_outcome}
use Rattle.amqp_endpoint.specs.Takings.{link_in}
use Rattle.amqp_serve.specs.declared.rules.Rule.{Rule}
use Rattle.amqp_serve.specs.declared.supplies.Look.{Look}
use Rattle.amqp_serve.specs.declared.supplies.Look.TheVariants as look
use Rattle.amqp_serve.specs.declared.supplies.Supply.{Supply}
use Rattle.amqp_serve.specs.declared.supplies.Supply.TheVariants.{WindowOf, CreditOf}
use Rattle.amqp_serve.specs.Cuts.{supply_channel}
use Rattle.amqp_serve.specs.Serving.{credit_lack, lack}
use Rattle.amqp_serve.specs.Supplied.{IsListed, IsSupplied, IsBeside, IsSuppliedBut, IsOnlyAt, is_nil, told_look, received_look}
use Rattle.amqp_serve.proofs.CutTops.{went, slot_went}
use Rattle.amqp_serve.proofs.ServingFeeds.{room_for_all}
use Rattle.amqp_serve.proofs.Supplied.{event_only}

-- One link. -------------------------------------------------------------------------------------------------------------------

-- the link that a report speaks of, where it goes on or is gone
abbrev about : Report → Option ℕ
about report.Nothing = None
about (report.Attached handle) = Some handle
about (report.Unfinished handle) = Some handle
about (report.Ready handle) = Some handle
about (report.Aborted handle) = Some handle
about (report.Drained handle) = Some handle
about (report.Settled count) = None
about (report.Detached handle dropped) = Some handle
about (report.Failed handle c dropped) = None

same_some : (m n : ℕ) → Some m ≡ Some n → m ≡ n
same_some m n e = cc

no_some : {X : Type 0} (n : ℕ) → None ≡ Some n → X
no_some n e = absurd (grind (arith, e))

step_about : (handle : ℕ) (x : LinkStep) → about (step_report handle x) ≡ Some handle
step_about handle step.Unfinished = refl
step_about handle step.Ready = refl
step_about handle step.Aborted = refl

-- A frame whose report speaks of a link happens at no other handle.
frame_elsewhere : (u : SessionState) (f : Frame) (h : ℕ) → about (faults.report_of u f) ≡ Some h → (k : ℕ) → (h ≡ k → ⊥) → IsElsewhere k (happens (faults.event_of u f))
frame_elsewhere u (Attaches a) h told k away = by (refusal u.terms a) told
  where
    by : (o : Option Condition) → about (attach_report a.handle o) ≡ Some h → IsElsewhere k (happens (if is_none o then one.LinkAttached a.handle (faults.attached u.terms a) else one.LinkRefused a.handle))
    by None told = λ same. away (sym (same_some a.handle h told) ∙ same)
    by (Some c) told = no_some h told
frame_elsewhere u (Flows f) h told k away = by f.handle told
  where
    flowed : (n : ℕ) (x : Slot LiveLink) → about (faults.flow_report n f x) ≡ Some h → IsElsewhere k (happens (faults.flow_event n f x))
    flowed n Free told = no_some h told
    flowed n (Live l) told = beyond (is_beyond_credit l.link.delivery_count l.link.credit f.delivery_count) (is_drained l.link f.delivery_count) told
      where
        beyond : (b d : Bool) → about (if b then report.Failed n TransferLimitExceeded (length l.link.ready) else (if d then report.Drained n else report.Nothing)) ≡ Some h
            → IsElsewhere k (happens (if b then one.LinkFlowEnded n f.next_outgoing_id else one.LinkFlowCame n f.next_outgoing_id f.delivery_count))
        beyond true d told = no_some h told
        beyond false true told = λ same. away (sym (same_some n h told) ∙ same)
        beyond false false told = no_some h told
    flowed n Awaits told = no_some h told

    by : (o : Option ℕ) → about (faults.named_report u f o) ≡ Some h → IsElsewhere k (happens (faults.named_event u f o))
    by None told = no_some h told
    by (Some n) told = flowed n (link_slot u n) told
frame_elsewhere u (Transfers handle t) h told k away = by (link_slot u handle) told
  where
    came : (l : LiveLink) (o : Option LinkFault) → about (came_report handle l.link t o) ≡ Some h → IsElsewhere k (happens (if is_none o then one.TransferCame handle t else one.TransferEnded handle))
    came l None told = λ same. away (sym (same_some handle h (sym (step_about handle (step_of t)) ∙ told)) ∙ same)
    came l (Some fault) told = no_some h told

    by : (x : Slot LiveLink) → about (faults.transfer_report u handle t x) ≡ Some h → IsElsewhere k (happens (faults.transfer_event u handle t x))
    by Free told = no_some h told
    by (Live l) told = came l (transfer_fault u l.link t) told
    by Awaits told = no_some h told
frame_elsewhere u (Disposes d) h told k away = by (is_settling d) (nat_eq (settled_count u d.first (last_of d)) 0) told
  where
    by : (b none : Bool) → about (if b then (if none then report.Nothing else report.Settled (settled_count u d.first (last_of d))) else report.Nothing) ≡ Some h
        → IsElsewhere k (happens (if b then one.PeerSettled d.first (last_of d) else one.Ignored))
    by true true told = no_some h told
    by true false told = no_some h told
    by false none told = no_some h told
frame_elsewhere u (Detaches handle closed) h told k away = λ same. away (sym (same_some handle h told) ∙ same)

-- what stands at another handle lacks what it lacked
credit_elsewhere : (p : Rule) (e : SessionEvent) (k : ℕ) → IsElsewhere k (happens e) → (b : Bool) (x : Slot SessionState) → credit_lack p (link_in k (went b e x)) ≡ credit_lack p (link_in k x)
credit_elsewhere p e k away false x = refl
credit_elsewhere p e k away true Free = refl
credit_elsewhere p e k away true (Live u) = ap (λ (y : Slot LiveLink). credit_lack p y) (slot_elsewhere u k e away)
credit_elsewhere p e k away true Awaits = refl

-- An event of a session that happens at one handle, if it does at any, leaves all but that link and the window.
pub link_only : (p : Rule) (s : ConnectionState) (channel handle : ℕ) (e : SessionEvent) → ((k : ℕ) → (handle ≡ k → ⊥) → IsElsewhere k (happens e))
    → IsOnlyAt p (look.Link channel handle) s (connection_after s (connection.InSession channel e))
link_only p s channel handle e away = record { config = refl; others = by }
  where
    t : ConnectionState
    t = connection_after s (connection.InSession channel e)

    far : (x : Supply) → (supply_channel x ≡ channel → ⊥) → lack p t x ≡ lack p s x
    far x other = (event_only p s channel (connection.InSession channel e) (λ k gone. gone)).others x other

    near : (c h : ℕ) → (CreditOf c h ≡ CreditOf channel handle → ⊥) → (b : Bool) → nat_eq c channel ≡ b → lack p t (CreditOf c h) ≡ lack p s (CreditOf c h)
    near c h other false is = far (CreditOf c h) (λ same. true≢false (sym (eq-eqb c channel same) ∙ is))
    near c h other true is =
        let same = eqb-true c channel is in
        ap (λ (y : Slot SessionState). credit_lack p (link_in h y)) (slot_went s c channel e)
        ∙ credit_elsewhere p e h (away h (λ at. other (ap (λ (i : ℕ). CreditOf i h) same ∙ ap (λ (i : ℕ). CreditOf channel i) (sym at)))) (nat_eq channel c) (slot_at s c)

    by : (x : Supply) → IsBeside (look.Link channel handle) x → lack p t x ≡ lack p s x
    by (WindowOf c) beside = far (WindowOf c) (λ same. beside.0 (ap (λ (i : ℕ). WindowOf i) same))
    by (CreditOf c h) beside = near c h beside.1 (nat_eq c channel) refl

-- Feeds. ----------------------------------------------------------------------------------------------------------------------

-- what an event that is told leaves lacking nothing
abbrev Behind : Option Event → Rule → ConnectionState → Type 0
Behind None p s = Unit {0}
Behind (Some e) p s = IsSuppliedBut (told_look (outcome.Event e) true) p s

-- where nothing lacked anything, what was left alone does not
left_supplied : (p : Rule) (l : Look) (s t : ConnectionState) → IsOnlyAt p l s t → IsSupplied p s → IsSuppliedBut l p t
left_supplied p l s t x all = λ y listed beside. x.others y beside ∙ all y (subst (λ (k : Configured). IsListed k y) x.config listed)

all_looked_at : (p : Rule) (s : ConnectionState) → IsSuppliedBut look.All p s
all_looked_at p s = λ y listed none. absurd none

frame_behind : (p : Rule) (s : ConnectionState) (channel : ℕ) (u : SessionState) (f : Frame) → IsSupplied p s →
    Behind (report_told channel (faults.report_of u f)) p (connection_after s (connection.InSession channel (faults.event_of u f)))
frame_behind p s channel u f all = by (faults.report_of u f) refl
  where
    t : ConnectionState
    t = connection_after s (connection.InSession channel (faults.event_of u f))

    at : (h : ℕ) → about (faults.report_of u f) ≡ Some h → IsSuppliedBut (look.Link channel h) p t
    at h told = left_supplied p (look.Link channel h) s t (link_only p s channel h (faults.event_of u f) (frame_elsewhere u f h told)) all

    by : (r : Report) → faults.report_of u f ≡ r → Behind (report_told channel r) p t
    by report.Nothing is = tt
    by (report.Attached h) is = at h (ap about is)
    by (report.Unfinished h) is = at h (ap about is)
    by (report.Ready h) is = at h (ap about is)
    by (report.Aborted h) is = at h (ap about is)
    by (report.Drained h) is = at h (ap about is)
    by (report.Settled count) is = left_supplied p (look.Session channel) s t (event_only p s channel (connection.InSession channel (faults.event_of u f)) (λ k away. away)) all
    by (report.Detached h dropped) is = at h (ap about is)
    by (report.Failed h c dropped) is = all_looked_at p t

line_behind : (p : Rule) (s : ConnectionState) (l : Line) → IsSupplied p s → Behind (told_on s l) p (connection_after s (event_on s l))
line_behind p s line.HeaderAccepted all = tt
line_behind p s line.HeaderUnknown all = tt
line_behind p s line.FrameBad all = λ y listed none. absurd none
line_behind p s line.FrameBadInClosing all = tt
line_behind p s line.CloseAwaited all = λ y listed none. absurd none
line_behind p s line.DroppedInClosing all = tt
line_behind p s line.ChannelTooHigh all = λ y listed none. absurd none
line_behind p s line.BodyEmpty all = tt
line_behind p s line.BodyMisspelt all = λ y listed none. absurd none
line_behind p s line.BodyInvalid all = λ y listed none. absurd none
line_behind p s line.OpenMissing all = λ y listed none. absurd none
line_behind p s line.OpenAgain all = λ y listed none. absurd none
line_behind p s (line.PeerOpens o) all = λ y listed none. absurd none
line_behind p s line.PeerCloses all = λ y listed none. absurd none
line_behind p s (line.EndAwaited channel) all = λ y listed none. absurd none
line_behind p s line.DroppedInEnding all = tt
line_behind p s line.BeginMisplaced all = λ y listed none. absurd none
line_behind p s line.BeginMissing all = λ y listed none. absurd none
line_behind p s (line.PeerBegins channel b) all = λ y listed none. absurd none
line_behind p s (line.PeerEnds channel) all = λ y listed none. absurd none
line_behind p s line.HandleTooHigh all = λ y listed none. absurd none
line_behind p s (line.SessionBroken channel fault) all = λ y listed none. absurd none
line_behind p s (line.SessionFrame channel live f) all = frame_behind p s channel live f all

told_behind : (p : Rule) (s : ConnectionState) (o : Option Event) → Behind o p s → IsSuppliedBut (told_look (told_outcome s o) true) p s
told_behind p s (Some e) x = by e x
  where
    by : (e : Event) → Behind (Some e) p s → IsSuppliedBut (told_look (outcome.Event e) true) p s
    by e x = x
told_behind p s None x = by (is_dead s.phase)
  where
    by : (over : Bool) → IsSuppliedBut (told_look (if over then outcome.Dead else outcome.More) true) p s
    by true = all_looked_at p s
    by false = all_looked_at p s

-- Where no unit came to an end nothing lacks anything then.
none_behind : (p : Rule) (s : ConnectionState) (bytes : List ℕ) → IsSupplied p s → IsSuppliedBut (told_look outcome.More (is_nil bytes)) p s
none_behind p s [] all = all_looked_at p s
none_behind p s (b ∷ bytes) all = λ y listed beside. all y listed

-- What lacks nothing behind a feed, where nothing lacked anything before it.
pub fed_behind : (p : Rule) (s t : EndpointState) (piece : List ℕ) (used : ℕ) (told : Outcome) → 8 ≤ s.input.limit → s.unsent ≡ [] → IsFed s t piece used told → IsSupplied p s.connection
    → IsSuppliedBut (told_look told (is_nil t.input.filled)) p t.connection
fed_behind p s t piece used told least none x all = by (is_dead s.connection.phase) refl x
  where
    by : (over : Bool) → is_dead s.connection.phase ≡ over → FeedDone over s t piece used told → IsSuppliedBut (told_look told (is_nil t.input.filled)) p t.connection
    by true dead x = subst (λ (o : Outcome). IsSuppliedBut (told_look o (is_nil t.input.filled)) p t.connection) (sym x.2) (all_looked_at p t.connection)
    by false alive y =
        let between : EndpointState = record s { input = y.between } in
        elim (waits_or_not y.between (subst (λ (n : ℕ). 8 ≤ n) (sym y.taken.limit) least)) [
          | inl w ↦
              let u = w.0 in
              let room : room_for s.unsent u ≡ true = ap (λ (l : List ℕ). room_for l u) none ∙ room_for_all u in
              let acts : Acts between t u true told = subst (λ (b : Bool). Acts between t u b told) room (y.comes.unit u w.1) in
              elim acts [
                | inl acted ↦
                    let after = acted_after s.connection u in
                    let behind : IsSuppliedBut (told_look (acted_outcome s.connection u) true) p after =
                    told_behind p after (told_on s.connection (line_of s.connection u)) (line_behind p s.connection (line_of s.connection u) all) in
                    subst (λ (c : ConnectionState). IsSuppliedBut (told_look told (is_nil t.input.filled)) p c) (sym acted.connection)
                    (subst (λ (l : List ℕ). IsSuppliedBut (told_look told (is_nil l)) p after) (sym acted.input.filled)
                    (subst (λ (o : Outcome). IsSuppliedBut (told_look o true) p after) (sym acted.told) behind))
                | inr kept ↦ subst (λ (o : Outcome). IsSuppliedBut (told_look o (is_nil t.input.filled)) p t.connection) (sym kept.1) (all_looked_at p t.connection)
              ]
          | inr idle ↦
              let rest = y.comes.none idle in
              let more : told ≡ outcome.More = rest.1 ∙ ap (λ (b : Bool). if b then outcome.Dead else outcome.More) alive in
              subst (λ (o : Outcome). IsSuppliedBut (told_look o (is_nil t.input.filled)) p t.connection) (sym more)
              (none_behind p t.connection t.input.filled (subst (λ (c : ConnectionState). IsSupplied p c) (sym rest.0.connection) all))
        ]

-- Messages. -------------------------------------------------------------------------------------------------------------------

then_left : (p : Rule) (l : Look) (s t : ConnectionState) → IsOnlyAt p l s t → IsSuppliedBut l p s → IsSuppliedBut l p t
then_left p l s t x but = λ y listed beside. x.others y beside ∙ but y (subst (λ (k : Configured). IsListed k y) x.config listed) beside

kept_left : (p : Rule) (l : Look) (s t : ConnectionState) → IsOnlyAt p look.Nothing s t → IsSuppliedBut l p s → IsSuppliedBut l p t
kept_left p l s t x but = then_left p l s t (record { config = x.config; others = λ y beside. x.others y tt }) but

-- What may lack something behind the message that was ready.
pub received_behind : (p : Rule) (told : Outcome) (between : Bool) (s t : ConnectionState) → IsOnlyAt p (received_look told) s t → IsSuppliedBut (told_look told between) p s
    → IsSuppliedBut (told_look told between) p t
received_behind p (outcome.Event (event.Ready channel handle)) between s t x but = then_left p (look.Link channel handle) s t x but
received_behind p (outcome.Event event.Opened) between s t x but = kept_left p (told_look (outcome.Event event.Opened) between) s t x but
received_behind p (outcome.Event (event.Begun channel)) between s t x but = kept_left p (told_look (outcome.Event (event.Begun channel)) between) s t x but
received_behind p (outcome.Event (event.Attached channel handle)) between s t x but = kept_left p (told_look (outcome.Event (event.Attached channel handle)) between) s t x but
received_behind p (outcome.Event (event.Unfinished channel handle)) between s t x but = kept_left p (told_look (outcome.Event (event.Unfinished channel handle)) between) s t x but
received_behind p (outcome.Event (event.Aborted channel handle)) between s t x but = kept_left p (told_look (outcome.Event (event.Aborted channel handle)) between) s t x but
received_behind p (outcome.Event (event.Drained channel handle)) between s t x but = kept_left p (told_look (outcome.Event (event.Drained channel handle)) between) s t x but
received_behind p (outcome.Event (event.Settled channel count)) between s t x but = kept_left p (told_look (outcome.Event (event.Settled channel count)) between) s t x but
received_behind p (outcome.Event (event.Detached channel handle dropped)) between s t x but = kept_left p (told_look (outcome.Event (event.Detached channel handle dropped)) between) s t x but
received_behind p (outcome.Event (event.Ended channel dropped)) between s t x but = kept_left p (told_look (outcome.Event (event.Ended channel dropped)) between) s t x but
received_behind p (outcome.Event (event.Closed dropped)) between s t x but = kept_left p (told_look (outcome.Event (event.Closed dropped)) between) s t x but
received_behind p (outcome.Event (event.Failed scope condition dropped)) between s t x but = kept_left p (told_look (outcome.Event (event.Failed scope condition dropped)) between) s t x but
received_behind p outcome.More true s t x but = kept_left p (told_look outcome.More true) s t x but
received_behind p outcome.More false s t x but = kept_left p (told_look outcome.More false) s t x but
received_behind p outcome.Blocked between s t x but = kept_left p (told_look outcome.Blocked between) s t x but
received_behind p outcome.NoMemory between s t x but = kept_left p (told_look outcome.NoMemory between) s t x but
received_behind p outcome.Dead between s t x but = kept_left p (told_look outcome.Dead between) s t x but

-- whether no byte waits
pub nil_is : (b : Bool) (bytes : List ℕ) → (IsTrue b ↔ (bytes ≡ [])) → b ≡ is_nil bytes
nil_is true [] is = refl
nil_is false [] is = is.1 refl
nil_is true (x ∷ xs) is = let none = is.0 refl in absurd (grind (arith, none))
nil_is false (x ∷ xs) is = refl
