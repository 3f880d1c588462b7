-- A unit that says nothing leaves the connection as it is, and is not answered.
use Rattle.std.proofs.Common.{arith, ◌≡◌, ℕ, ◌==◌, ◌≤◌, subst, Bool, true, false, List, [], ◌∷◌, ◌++◌, length, refl, sym, ap, ◌∙◌, Option, Some, None}
use Rattle.std.specs.Prelude.{if◌then◌else◌}
use Rattle.std.proofs.lemmas.List.{append-nil}
use Rattle.amqp_frame.specs.declared.units.TheConstants.{HEADER}
use Rattle.amqp_session.specs.declared.slot.Slot.{Slot}
use Rattle.amqp_session.specs.declared.slot.Slot.TheVariants.{Waits}
use Rattle.amqp_session.specs.Sessions.{SessionState}
use Rattle.amqp_endpoint.specs.declared.event.Event.{Event}
use Rattle.amqp_endpoint.specs.Acting.{IsDone}
use Rattle.amqp_endpoint.specs.Connections as event
use Rattle.amqp_endpoint.specs.Connections.{ConnectionState, connection_after, channel_limit, is_closing, is_unopened}
use Rattle.amqp_endpoint.specs.Fields.{Read, read_in}
use Rattle.amqp_endpoint.specs.Keeping.{connection_of}
use Rattle.amqp_endpoint.specs.Lines as line
use Rattle.amqp_endpoint.specs.Lines.{Line, event_on, told_on, channel_line, on_waiting, closing_line, unopened_line, opened_line, body_line, frame_line, frame_at}
use Rattle.amqp_endpoint.specs.Replies.{reply_on}
use Rattle.amqp_endpoint.proofs.Tables.{Table, none_after}
use Rattle.std.proofs.lemmas.Bool.{cond-true, cond-false, le-ltb}
use Rattle.amqp_perform.specs.declared.descriptor.Descriptor.{Descriptor}
use Rattle.amqp_perform.specs.BodyReading.{body_at, described_at, descriptor_at}
use Rattle.amqp_perform.specs.Cells.{Cell}

still : (s : ConnectionState) → connection_of s.config s.phase s.failed s.closed s.peer (connection_after s event.Ignored).sessions ≡ s
still s = ap (λ (slots : Table). connection_of s.config s.phase s.failed s.closed s.peer slots) (none_after s.sessions)

-- a line whose event changes nothing, which is not answered, and of which nothing is told
nothing_done : (s : ConnectionState) (unsent : List ℕ) (l : Line) → connection_after s (event_on s l) ≡ s → reply_on s l ≡ [] → told_on s l ≡ None → IsDone s s unsent unsent l None
nothing_done s unsent l same silent untold = record {
  connection = sym same;
  unsent = sym (ap (λ (r : List ℕ). unsent ++ r) silent ∙ append-nil unsent);
  told = sym untold;
}

-- an empty frame leaves everything
pub empty_done : (s : ConnectionState) (unsent : List ℕ) → IsDone s s unsent unsent line.BodyEmpty None
empty_done s unsent = nothing_done s unsent line.BodyEmpty (still s) refl refl

-- so does a frame to a session that ends
pub dropped_in_ending : (s : ConnectionState) (unsent : List ℕ) → IsDone s s unsent unsent line.DroppedInEnding None
dropped_in_ending s unsent = nothing_done s unsent line.DroppedInEnding (still s) refl refl

dropped_in_closing : (s : ConnectionState) (unsent : List ℕ) → IsDone s s unsent unsent line.DroppedInClosing None
dropped_in_closing s unsent = nothing_done s unsent line.DroppedInClosing (still s) refl refl

-- where the peer's end is awaited, and something else comes
pub waiting_done : (s : ConnectionState) (unsent : List ℕ) (channel : ℕ) (r : Read) (x : Slot SessionState) → x ≡ Waits → on_waiting channel r ≡ line.DroppedInEnding →
    IsDone s s unsent unsent (channel_line channel x r) None
waiting_done s unsent channel r x waits other =
    subst (λ (l : Line). IsDone s s unsent unsent l None) (sym (ap (λ (y : Slot SessionState). channel_line channel y r) waits ∙ other)) (dropped_in_ending s unsent)

-- where the peer's close is awaited, and something else comes
pub not_close_done : (s : ConnectionState) (unsent : List ℕ) (closes : Bool) → false ≡ closes → IsDone s s unsent unsent (if closes then line.CloseAwaited else line.DroppedInClosing) None
not_close_done s unsent closes not =
    subst (λ (l : Line). IsDone s s unsent unsent l None) (sym (cond-false closes line.CloseAwaited line.DroppedInClosing (sym not))) (dropped_in_closing s unsent)

-- a frame without body
pub no_body_done : (s : ConnectionState) (unsent : List ℕ) (channel : ℕ) (bytes : List ℕ) → false ≡ is_closing s.phase → true ≡ (length bytes == 0) →
    IsDone s s unsent unsent (frame_at s channel bytes) None
no_body_done s unsent channel [] awake none =
    subst (λ (l : Line). IsDone s s unsent unsent l None) (sym (cond-false (is_closing s.phase) (closing_line []) (frame_line s channel []) (sym awake))) (empty_done s unsent)
no_body_done s unsent channel (b ∷ bytes) awake none = absurd (grind (arith, none))

-- while the peer's close is awaited
pub closing_done : (s new : ConnectionState) (before after : List ℕ) (channel : ℕ) (bytes : List ℕ) (told : Option Event) → true ≡ is_closing s.phase →
    IsDone s new before after (closing_line bytes) told → IsDone s new before after (frame_at s channel bytes) told
closing_done s new before after channel bytes told closing done =
    subst (λ (l : Line). IsDone s new before after l told) (sym (cond-true (is_closing s.phase) (closing_line bytes) (frame_line s channel bytes) (sym closing))) done

-- the header of this version
pub header_done : (s : ConnectionState) (before after : List ℕ) (same : Bool) → same ≡ true → after ≡ before ++ HEADER →
    IsDone s s before after (if same then line.HeaderAccepted else line.HeaderUnknown) None
header_done s before after same so said =
    subst (λ (l : Line). IsDone s s before after l None) (sym (cond-true same line.HeaderAccepted line.HeaderUnknown so)) (record { connection = sym (still s); unsent = said; told = refl })

-- no bytes are no body
no_body : body_at [] ≡ None
unfolding body_at described_at descriptor_at
no_body = refl

no_some : {A : Type 0} (x : A) → None ≡ Some x → ⊥
no_some x e = cc

-- a body that is read, on a channel of an open connection
pub opened_at : (s : ConnectionState) (channel : ℕ) (body : List ℕ) (x : Descriptor × List Cell × List ℕ) → is_closing s.phase ≡ false → is_unopened s.phase ≡ false → channel ≤ channel_limit s.phase →
    body_at body ≡ Some x → frame_at s channel body ≡ opened_line s channel (read_in s.config x.0 x.1 x.2)
opened_at s channel [] x awake opened within is = absurd (no_some x (sym no_body ∙ is))
opened_at s channel (b ∷ bytes) x awake opened within is =
    cond-false (is_closing s.phase) (closing_line (b ∷ bytes)) (frame_line s channel (b ∷ bytes)) awake
    ∙ ap (λ (high : Bool). if high then line.ChannelTooHigh else body_line s channel (b ∷ bytes) (body_at (b ∷ bytes))) (le-ltb (channel_limit s.phase) channel within)
    ∙ ap (λ (o : Option (Descriptor × List Cell × List ℕ)). body_line s channel (b ∷ bytes) o) is
    ∙ ap (λ (early : Bool). if early then unopened_line (read_in s.config x.0 x.1 x.2) else opened_line s channel (read_in s.config x.0 x.1 x.2)) opened
