-- The sender's attach.
use Rattle.std.proofs.Common.{◌≡◌, ℕ, zero, suc, ◌+◌, ◌-◌, ◌%◌, ◌^◌, ◌<◌, ◌≤◌, ◌||◌, Bool, true, false, cond, ltb, eqb, List, [], ◌∷◌, ◌++◌, length, Option, Some, None, Ok, refl, sym, ap, ◌∙◌, arith}
use Rattle.std.specs.Prelude.{is_none}
use Rattle.amqp_types.specs.declared.kind.Kind.TheVariants as kind
use Rattle.amqp_types.specs.Canonical.{canonical, Fits, IsRanged}
use Rattle.amqp_types.specs.Reading.{Part, value_of}
use Rattle.amqp_types.specs.Spelling.{Spells}
use Rattle.amqp_types.specs.Trees.{Tree, Number, IsLawful, depth_of}
use Rattle.amqp_perform.specs.declared.condition.Condition.{Condition}
use Rattle.amqp_perform.specs.declared.condition.Condition.TheVariants as condition
use Rattle.amqp_perform.specs.Said.{Said, said_frame}
use Rattle.amqp_session.specs.declared.report.Report.{Report}
use Rattle.amqp_session.specs.declared.slot.Slot.{Slot}
use Rattle.amqp_session.specs.declared.slot.Slot.TheVariants.{Free, Live}
use Rattle.amqp_session.specs.Faults.{or_else, where_so, refusal, attached, attach_report, attach_answer}
use Rattle.amqp_session.specs.Frames.{attach_said, is_coordinator, is_coordinator_in}
use Rattle.amqp_session.specs.Places.{Begins, GoesOn, places_after, places_from}
use Rattle.amqp_session.specs.Sessions.{Attached, LiveLink, SessionState, SessionEvent, live_begins, live_after, session_begins, session_after, LinkAttached, LinkRefused}
use Rattle.amqp_endpoint.specs.Connections.{ConnectionState, InSession}
use Rattle.amqp_endpoint.specs.Lines.{report_told}
use Rattle.amqp_endpoint.specs.Replies.{on_channel}
use Rattle.amqp_endpoint.specs.Traces.{failure_in}
use Rattle.amqp_send.specs.Sendings.{target_text}
use Rattle.amqp_pair.specs.Attached.{HasBegun, IsNew, IsAttachedBy, AttachedLaw}
use Rattle.amqp_pair.specs.Reading.{attaching_of}
use Rattle.amqp_pair.specs.Stands.{AreFree, Stands}
use Rattle.amqp_pair.specs.World.{World}
use Rattle.amqp_pair.proofs.Acted.{free_still}

still_free : (slots : List (Slot LiveLink)) (k : ℕ) (a : Attached) → AreFree slots → AreFree (places_from live_begins live_after (suc k) (Begins 0 a) slots)
still_free [] k a f = tt
still_free (s ∷ slots) k a f = (at_place (eqb 0 (suc k)) refl, still_free slots (suc k) a f.1)
  where
    at_place : (b : Bool) → eqb 0 (suc k) ≡ b → cond {A = Slot LiveLink} (eqb 0 (suc k)) (Live (live_begins a)) s ≡ Free
    at_place true e = let n : eqb 0 (suc k) ≡ false = grind arith in absurd (cc (e, n))
    at_place false e = ap (λ (b : Bool). cond {A = Slot LiveLink} b (Live (live_begins a)) s) e ∙ f.0

not_less : (a b : ℕ) → b ≤ a → ltb a b ≡ false
not_less a b le = grind (arith, le)

module _ (reads : (depth : ℕ) (t : Tree) (text rest : List ℕ) → Spells t text → depth_of t ≤ depth → value_of depth None (text ++ rest) ≡ Ok (t, None, rest))
    (spells : (t : Tree) → IsLawful t → IsRanged t → Fits t → Spells t (canonical t)) where
  -- its target is no coordinator
  no_coordinator : is_coordinator target_text ≡ false
  no_coordinator =
      let t : Tree = Number kind.Ulong 0x29 in
      ap is_coordinator_in (reads 31 t (canonical t) (0x45 ∷ []) (spells t tt (λ e. absurd (cc e), omega arith, tt) tt) (omega arith))

  pub attaches : AttachedLaw
  attaches s w name b new few short =
      let t : SessionState = b.session in
      let a = attaching_of s.config name in
      let fits : ltb t.terms.max_frame_size (length (said_frame 0 (attach_said a.bounds.max_message_size a) [])) ≡ false = not_less _ _ (omega (arith, short, b.size)) in
      let none : refusal t.terms a ≡ None =
      ap (λ (c : Bool). or_else (where_so c condition.NotImplemented) (or_else None (where_so (ltb t.terms.max_frame_size (length (said_frame 0 (attach_said a.bounds.max_message_size a) []))) condition.FrameSizeTooSmall))) no_coordinator
      ∙ ap (λ (c : Bool). where_so c condition.FrameSizeTooSmall) fits in
      let e : SessionEvent = LinkAttached 0 (attached t.terms a) in
      record {
        event = ap (λ (z : Option Condition). InSession 0 (cond (is_none z) e (LinkRefused 0))) none;
        told = ap (λ (z : Option Condition). failure_in (report_told 0 (attach_report 0 z))) none;
        reply = ap (λ (z : Option Condition). on_channel 0 (attach_answer t.terms a z)) none;
        stands = record {
          opened = b.opened;
          session = session_after t e;
          others = places_from session_begins session_after 1 (GoesOn 0 e) b.others;
          sessions = ap (λ (z : List (Slot SessionState)). places_after session_begins session_after z (GoesOn 0 e)) b.sessions;
          link = live_begins (attached t.terms a);
          frees = places_from live_begins live_after 1 (Begins 0 (attached t.terms a)) b.frees;
          links = ap (λ (z : List (Slot LiveLink)). places_after live_begins live_after z (Begins 0 (attached t.terms a))) b.links;
          free = still_free b.frees 0 (attached t.terms a) b.free;
          same = sym new;
          places = omega (arith, b.places);
          next = omega (arith, b.next, few);
        };
      }
