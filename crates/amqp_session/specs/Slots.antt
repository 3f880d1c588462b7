-- What a session holds at one handle, and what each frame and call makes of it.
use Rattle.std.specs.Prelude.{◌≡◌, ℕ, zero, suc, ◌+◌, ◌<◌, ◌≤◌, Bool, true, false, if◌then◌else◌, List, [], ◌∷◌, length, Option, Some, None, unwrap_or, IsSomeAnd, slice_get}
use Rattle.amqp_link.specs.declared.link.Taken.{Taken}
use Rattle.amqp_link.specs.HandedUps.{IsHandedUp}
use Rattle.amqp_link.specs.Links.{LinkState, LinkEvent, FlowStated, is_beyond_credit, first_ready, open_count}
use Rattle.amqp_session.specs.declared.report.Report.{Report}
use Rattle.amqp_session.specs.declared.slot.Slot.{Slot}
use Rattle.amqp_session.specs.declared.slot.Slot.TheVariants.{Free, Live, Waits}
use Rattle.amqp_session.specs.declared.terms.SessionTerms.{SessionTerms}
use Rattle.amqp_session.specs.declared.state.LinkStated.{LinkStated}
use Rattle.amqp_session.specs.declared.view.LinkView.{LinkView}
use Rattle.amqp_session.specs.Places.{slot_map}
use Rattle.amqp_session.specs.Frames.{Flowing}
use Rattle.amqp_session.specs.Faults.{flow_report}
use Rattle.amqp_session.specs.Sessions.{LiveLink, live_after, SessionState, handles}

-- The table. ----------------------------------------------------------------------------------------------------------------

-- the given number of places: those that were reached, and then free ones
abbrev pub padded : ℕ → List (Slot LiveLink) → List (Slot LiveLink)
padded zero slots = []
padded (suc n) [] = Free ∷ padded n []
padded (suc n) (s ∷ slots) = s ∷ padded n slots

-- a session of these parts
abbrev pub session_of : SessionTerms → ℕ → ℕ → List (Slot LiveLink) → SessionState
session_of terms window next slots = record { terms = terms; window = window; next_incoming_id = next; links = padded (handles terms) slots }

-- at most as many places were reached as there are handles
pub record IsReached (terms : SessionTerms) (slots : List (Slot LiveLink)) : Type 0 where
  pub reached : length slots ≤ handles terms
  pub handles : terms.handle_max < 256

-- One link. -----------------------------------------------------------------------------------------------------------------

-- what is held of a link besides its deliveries is short
pub record IsKept (l : LiveLink) : Type 0 where
  pub name : length l.name ≤ 255
  pub ends : length l.source + length l.target ≤ 1024

-- One place. ----------------------------------------------------------------------------------------------------------------

-- a link is live there
abbrev pub is_live : Slot LiveLink → Bool
is_live Free = false
is_live (Live l) = true
is_live Waits = false

-- what is at a place of these
abbrev pub at_place : List (Slot LiveLink) → ℕ → Slot LiveLink
at_place slots place = unwrap_or (slice_get slots place) Free

-- what is at a place after a flow
abbrev pub slot_flowed : Flowing → Slot LiveLink → Slot LiveLink
slot_flowed f Free = Free
slot_flowed f (Live l) = if is_beyond_credit l.link.delivery_count l.link.credit f.delivery_count then Waits else Live (live_after l (FlowStated f.delivery_count))
slot_flowed f Waits = Waits

-- what is reported of a flow; nothing if it is dropped
abbrev pub IsFlowTold : ℕ → Flowing → Slot LiveLink → Option Report → Type 0
IsFlowTold handle f Free told = ⊥
IsFlowTold handle f (Live l) told = told ≡ Some (flow_report handle f (Live l))
IsFlowTold handle f Waits told = told ≡ None

-- a place after an event of the link there
abbrev pub slot_called : LinkEvent → Slot LiveLink → Slot LiveLink
slot_called e s = slot_map (λ l. live_after l e) s

-- what a flow states of a link [2.7.4]
abbrev pub stated_of : LinkState → LinkStated
stated_of l = record { delivery_count = l.delivery_count; link_credit = l.credit; drain = l.draining }

abbrev pub IsStated : Slot LiveLink → LinkStated → Type 0
IsStated Free stated = ⊥
IsStated (Live l) stated = stated ≡ stated_of l.link
IsStated Waits stated = ⊥

-- what a take from the link at a place hands up
abbrev pub HandsUp : {A : Type 0} → Slot LiveLink → Taken A → Type 0
HandsUp Free taken = ⊥
HandsUp (Live l) taken = IsSomeAnd (first_ready l.link) (λ d. IsHandedUp taken d)
HandsUp Waits taken = ⊥

-- what is shown of a live link [2.6.7, 2.6.12]
pub record IsView (l : LiveLink) (v : LinkView) : Type 0 where
  pub name : v.name.now ≡ l.name
  pub source : v.source.now ≡ l.source
  pub target : v.target.now ≡ l.target
  pub credit : v.credit ≡ l.link.credit
  pub opened : v.opened ≡ open_count l.link
  pub ready : v.ready ≡ length l.link.ready
  pub bounds : v.bounds ≡ l.link.terms.bounds

abbrev pub IsViewAt : Slot LiveLink → Option LinkView → Type 0
IsViewAt (Live l) (Some v) = IsView l v
IsViewAt (Live l) None = ⊥
IsViewAt Free (Some v) = ⊥
IsViewAt Free None = Unit {0}
IsViewAt Waits (Some v) = ⊥
IsViewAt Waits None = Unit {0}
