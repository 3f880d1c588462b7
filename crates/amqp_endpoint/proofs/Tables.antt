-- The table of places, and what an event at one of them, or at all, makes of it.
use Rattle.std.proofs.Common.{arith, ◌≡◌, ℕ, zero, suc, ◌+◌, ◌<◌, ◌≤◌, subst, Bool, List, [], ◌∷◌, ◌++◌, length, map, refl, sym, ap, ◌∙◌, ◌||◌, Option, Some, get_or}
use Rattle.std.specs.Prelude.{slice_get, slice_set, unwrap_or, is_some, if◌then◌else◌}
use Rattle.std.proofs.lemmas.List.{set-get_or}
use Rattle.amqp_session.specs.declared.slot.Slot.{Slot}
use Rattle.amqp_session.specs.declared.slot.Slot.TheVariants.{Free, Live, Waits}
use Rattle.amqp_session.specs.declared.terms.SessionTerms.{SessionTerms}
use Rattle.amqp_session.specs.Places.{Happens, Nothing, Begins, GoesOn, Leaves, Gone, AllGone, places_from, tabulate}
use Rattle.amqp_session.specs.Sessions.{SessionState, SessionEvent, session_begins, session_after}
use Rattle.amqp_endpoint.specs.declared.phase.Phase.{Phase}
use Rattle.amqp_endpoint.specs.declared.introduction.Introduction.{Introduction}
use Rattle.amqp_endpoint.specs.Configs.{Configured}
use Rattle.amqp_endpoint.specs.declared.phase.Phase.TheVariants as phase
use Rattle.amqp_endpoint.specs.Connections.{ConnectionState, ConnectionEvent, channels, slot_at, happens, is_failure, is_peer_close, said_by, phase_after, connection_after, channel_ready}
use Rattle.amqp_endpoint.specs.Connections as event
use Rattle.amqp_endpoint.specs.Keeping.{connection_of, IsPlaced}
use Rattle.amqp_session.proofs.Places.{tabulate_long}
use Rattle.amqp_session.proofs.Tables.{there, present}
use Rattle.amqp_session.proofs.Tables as table

-- what stands at the channels
abbrev pub Table : Type 0
Table = List (Slot SessionState)

abbrev free_place : ℕ → Slot SessionState
free_place k = Free

-- a free place more
free_from : (k n : ℕ) → tabulate k n free_place ++ Free ∷ [] ≡ tabulate k (suc n) free_place
free_from k zero = refl
free_from k (suc n) = ap (λ (rest : Table). Free ∷ rest) (free_from (suc k) n)

-- one more free channel
pub free_more : (n : ℕ) → tabulate 0 n free_place ++ Free ∷ [] ≡ tabulate 0 (n + 1) free_place
free_more n = let e : suc n ≡ n + 1 = omega arith in free_from 0 n ∙ ap (λ (m : ℕ). tabulate 0 m free_place) e

-- what an event makes of a table whose first channel is this
abbrev pub From : ℕ → Happens SessionTerms SessionEvent → Table → Table
From k x slots = places_from session_begins session_after k x slots

-- all places are free
pub all_gone : (k : ℕ) (slots : Table) → From k AllGone slots ≡ map (λ x. Free) slots
all_gone k [] = refl
all_gone k (s ∷ slots) = ap (λ (rest : Table). Free ∷ rest) (all_gone (suc k) slots)

-- nothing happens at any place
pub none_after : (slots : Table) → From 0 Nothing slots ≡ slots
none_after slots = table.none_after session_begins session_after slots

-- a begin at a channel
pub begins_at : (slots : Table) (i : ℕ) (terms : SessionTerms) → i < length slots → From 0 (Begins i terms) slots ≡ slice_set slots i (Live (session_begins terms))
begins_at slots i terms l = table.begins_at session_begins session_after slots i terms (unwrap_or (slice_get slots i) Free) (present slots i l)

-- an end of this side
pub leaves_at : (slots : Table) (i : ℕ) → i < length slots → From 0 (Leaves i) slots ≡ slice_set slots i Waits
leaves_at slots i l = table.leaves_at session_begins session_after slots i (unwrap_or (slice_get slots i) Free) (present slots i l)

-- one of the peer
pub gone_at : (slots : Table) (i : ℕ) → i < length slots → From 0 (Gone i) slots ≡ slice_set slots i Free
gone_at slots i l = table.gone_at session_begins session_after slots i (unwrap_or (slice_get slots i) Free) (present slots i l)

-- an event of the session there
pub goes_on_at : (slots : Table) (i : ℕ) (e : SessionEvent) (t : SessionState) → slice_get slots i ≡ Some (Live t) → From 0 (GoesOn i e) slots ≡ slice_set slots i (Live (session_after t e))
goes_on_at slots i e t at = table.goes_on_at session_begins session_after slots i e (Live t) at

-- A kept connection. ----------------------------------------------------------------------------------------------------

-- what the peer said of itself, by an event or before
abbrev heard : ConnectionEvent → Option Introduction → Option Introduction
heard e peer = if is_some (said_by e) then said_by e else peer

module _ (config : Configured) (p : Phase) (failed closed : Bool) (peer : Option Introduction) (slots : Table) (s : ConnectionState) (view : connection_of config p failed closed peer slots ≡ s) where
  -- the connection after an event, where the table is known
  pub after_is : (e : ConnectionEvent) (slots2 : Table) → From 0 (happens e) slots ≡ slots2 →
      connection_of config (phase_after p e) (is_failure e || failed) (is_peer_close e || closed) (heard e peer) slots2 ≡ connection_after s e
  after_is e slots2 same =
      subst (λ (t : ConnectionState). connection_of config (phase_after p e) (is_failure e || failed) (is_peer_close e || closed) (heard e peer) slots2 ≡ connection_after t e) view
      (ap (λ (ls : Table). connection_of config (phase_after p e) (is_failure e || failed) (is_peer_close e || closed) (heard e peer) ls) (sym same))

  -- the same where all places are free: the freed ones were lent from the table
  pub freed : (e : ConnectionEvent) (lent places : Table) → happens e ≡ AllGone → lent ≡ slots → places ≡ map (λ x. Free) lent →
      connection_of config (phase_after p e) (is_failure e || failed) (is_peer_close e || closed) (heard e peer) places ≡ connection_after s e
  freed e lent places gone is free =
      after_is e places (ap (λ (x : Happens SessionTerms SessionEvent). From 0 x slots) gone ∙ all_gone 0 slots ∙ ap (λ (ls : Table). map (λ x. Free) ls) (sym is) ∙ sym free)

  -- what stands at a channel
  pub slot_is : (i : ℕ) (x : Slot SessionState) → x ≡ get_or slots i x → i < length slots → slot_at s i ≡ x
  slot_is i x e l = subst (λ (t : ConnectionState). slot_at t i ≡ x) view (ap (λ (o : Option (Slot SessionState)). unwrap_or o Free) (there slots i x e l))

  -- and is put there again
  pub kept_again : (i : ℕ) (x : Slot SessionState) → x ≡ get_or slots i x → connection_of config p failed closed peer (slice_set slots i x) ≡ s
  kept_again i x at = ap (λ (ls : Table). connection_of config p failed closed peer ls) (ap (λ (y : Slot SessionState). slice_set slots i y) at ∙ set-get_or slots i x) ∙ view

  pub channel_low : IsPlaced config p slots → (channel : ℕ) → channel ≤ s.config.channel_max → channel < length slots
  channel_low placed channel low =
      let within : channel ≤ config.channel_max = subst (λ (t : ConnectionState). channel ≤ t.config.channel_max) (sym view) low in omega (arith, within, placed.long)

  -- the session at a channel that is in the table fails, or is ended
  pub fails_at : IsPlaced config p slots → (channel : ℕ) → channel ≤ s.config.channel_max →
      connection_of config p failed closed peer (slice_set slots channel Waits) ≡ connection_after s (event.SessionFailed channel)
  fails_at placed channel low = after_is (event.SessionFailed channel) (slice_set slots channel Waits) (leaves_at slots channel (channel_low placed channel low))

  pub ends_at : IsPlaced config p slots → (channel : ℕ) → channel ≤ s.config.channel_max →
      connection_of config p failed closed peer (slice_set slots channel Free) ≡ connection_after s (event.SessionEnded channel)
  ends_at placed channel low = after_is (event.SessionEnded channel) (slice_set slots channel Free) (gone_at slots channel (channel_low placed channel low))

  -- what is ready there
  pub ready_at : IsPlaced config p slots → (channel : ℕ) → channel ≤ s.config.channel_max → (x : Slot SessionState) → x ≡ get_or slots channel x →
      channel_ready x ≡ channel_ready (slot_at s channel)
  ready_at placed channel low x at = ap channel_ready (sym (slot_is channel x at (channel_low placed channel low)))

-- a new table has a place for each channel that is offered
pub free_placed : (config : Configured) (places : Table) → config.channel_max < 256 → places ≡ tabulate 0 (channels config) (λ k. Free) → IsPlaced config phase.Unopened places
free_placed config places few e = record { long = ap length e ∙ tabulate_long 0 (channels config) free_place; limit = omega arith; few = few }
