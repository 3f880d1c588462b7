use Rattle.std.proofs.Common.{arith, ◌≡◌, ◌≤◌, None, Some, true, refl, sym, ap, subst, ◌∙◌}
use Rattle.amqp_link.specs.Links.{LinkState, sent_of}
use Rattle.amqp_session.specs.declared.fault.SessionFault.{SessionFault}
use Rattle.amqp_session.specs.Faults.{session_fault, event_of, report_of, transfer_fault, frame_may_grow, IsRefusal}
use Rattle.amqp_session.specs.Frames.{Transfers}
use Rattle.amqp_session.specs.Indexes.{IsTaken}
use Rattle.amqp_session.specs.Links.{with_link}
use Rattle.amqp_session.specs.Sessions.{SessionState, session_after, slot_at}
use Rattle.amqp_session.specs.Slots.{is_live}
use Rattle.amqp_session.proofs.Came.{waits, dropped, known_is, live, fault_is, accepted, taken_of, begun_head, begun_free, came, came_told, came_indexed, event_is, grows, ended, ends_is, ended_told, ended_indexed, still_indexed}
use Rattle.amqp_session.proofs.Dones.{frame_apart, frame_may}
use Rattle.amqp_session.proofs.Lent.{lives, stayed, unchanged, apart_still}
use Rattle.amqp_session.proofs.session.Session.transfer.Goals as goal

pub returns-in_default-clause-new : goal.returns-in_default-clause-new
returns-in_default-clause-new g c =
    let s = c.self.inside.state in
    let h = c.args.transfer.now.handle in
    let t = sent_of c.args.transfer.now c.args.payload.now in
    let some : 1 ≤ s.window = omega (arith, c.window.ensures) in
    subst (λ (v : SessionState). c.drop_transfer.new.self ≡ session_after v (event_of v (Transfers c.args.transfer.now.handle (sent_of c.args.transfer.now c.args.payload.now)))) c.self.view_is
    (c.in_ok-drop_transfer.ensures.new ∙ dropped s h t some c.in_default.ensures.number (waits s h t some c.in_default.ensures.value c.in_ok-drop_transfer.ensures.waits))

pub end_link-report-requires : goal.end_link-report-requires
end_link-report-requires g c =
    let s = c.self.inside.state in
    let h = c.args.transfer.now.handle in
    ap (λ (v : SessionState). is_live (slot_at v c.args.transfer.now.handle)) (stayed s h c.in-Some.link.now c.in-Some.ensures.value) ∙ ap is_live (lives (slot_at s h) c.in-Some.link.now c.in-Some.ensures.value).1

pub invariant_of-self-in-Fails : goal.invariant_of-self-in-Fails
invariant_of-self-in-Fails g c =
    let s = c.self.inside.state in
    let h = c.args.transfer.now.handle in
    let u = c.in-Some.link.now in
    let t = sent_of c.args.transfer.now c.args.payload.now in
    let some : 1 ≤ s.window = omega (arith, c.window.ensures) in
    let at = c.in-Some.ensures.value in
    let same = stayed s h u at in
    let known = c.is_known-known.ensures ∙ known_is c.self.inside.index s t.delivery_id c.self.invariant.indexed c.is_numbered.ensures in
    let fails : transfer_fault s (live s h t u at some).0.link t ≡ Some c.in-Fails.fault = sym (fault_is s h t u at some c.is_known-known.result known) ∙ c.in-Fails.ensures in
    let is = c.transfer_came.ensures ∙ ended s h t u at some c.in-Fails.fault fails (with_link s h u) c.end_link-report.new.state same c.in-Some.ensures.number c.end_link-report.ensures.new in
    record {
      apart = frame_apart c.open_ids_grow_by_heads.ensures s c.transfer_came.new.self (Transfers h t) c.self.invariant.apart c.is_long.ensures c.is_numbered.ensures (accepted s h t u at some) is;
      indexed =
          ended_indexed c.self.inside.index c.end_link-report.new.index s (with_link s h u) c.transfer_came.new.self h same (is ∙ ap (session_after s) (ends_is s h t u at some c.in-Fails.fault fails))
          c.end_link-report.ensures.gone c.self.invariant.indexed;
    }

pub returns-in-Fails-clause-may : goal.returns-in-Fails-clause-may
returns-in-Fails-clause-may g c =
    let some : 1 ≤ c.self.inside.state.window = omega (arith, c.window.ensures) in
    frame_may c.self.inside.state c.args.self.now (Transfers c.args.transfer.now.handle (sent_of c.args.transfer.now c.args.payload.now)) c.self.view_is c.is_long.ensures c.is_numbered.ensures
    (accepted c.self.inside.state c.args.transfer.now.handle (sent_of c.args.transfer.now c.args.payload.now) c.in-Some.link.now c.in-Some.ensures.value some)

pub returns-in-Fails-clause-new : goal.returns-in-Fails-clause-new
returns-in-Fails-clause-new g c =
    let s = c.self.inside.state in
    let h = c.args.transfer.now.handle in
    let u = c.in-Some.link.now in
    let t = sent_of c.args.transfer.now c.args.payload.now in
    let some : 1 ≤ s.window = omega (arith, c.window.ensures) in
    let at = c.in-Some.ensures.value in
    let known = c.is_known-known.ensures ∙ known_is c.self.inside.index s t.delivery_id c.self.invariant.indexed c.is_numbered.ensures in
    let fails : transfer_fault s (live s h t u at some).0.link t ≡ Some c.in-Fails.fault = sym (fault_is s h t u at some c.is_known-known.result known) ∙ c.in-Fails.ensures in
    subst (λ (v : SessionState). c.transfer_came.new.self ≡ session_after v (event_of v (Transfers c.args.transfer.now.handle (sent_of c.args.transfer.now c.args.payload.now)))) c.self.view_is
    (c.transfer_came.ensures ∙ ended s h t u at some c.in-Fails.fault fails (with_link s h u) c.end_link-report.new.state (stayed s h u at) c.in-Some.ensures.number c.end_link-report.ensures.new)

pub returns-in-Fails-clause-report : goal.returns-in-Fails-clause-report
returns-in-Fails-clause-report g c =
    let s = c.self.inside.state in
    let h = c.args.transfer.now.handle in
    let u = c.in-Some.link.now in
    let t = sent_of c.args.transfer.now c.args.payload.now in
    let some : 1 ≤ s.window = omega (arith, c.window.ensures) in
    let at = c.in-Some.ensures.value in
    let known = c.is_known-known.ensures ∙ known_is c.self.inside.index s t.delivery_id c.self.invariant.indexed c.is_numbered.ensures in
    let fails : transfer_fault s (live s h t u at some).0.link t ≡ Some c.in-Fails.fault = sym (fault_is s h t u at some c.is_known-known.result known) ∙ c.in-Fails.ensures in
    subst (λ (v : SessionState). c.end_link-report.result ≡ report_of v (Transfers c.args.transfer.now.handle (sent_of c.args.transfer.now c.args.payload.now))) c.self.view_is
    (ended_told s h t u at some c.in-Fails.fault fails (with_link s h u) c.end_link-report.result (stayed s h u at) c.end_link-report.ensures.report)

-- Taken. ----------------------------------------------------------------------------------------------------------------------

pub invariant_of-self-in-Ok : goal.invariant_of-self-in-Ok
invariant_of-self-in-Ok g c =
    let s = c.self.inside.state in
    let h = c.args.transfer.now.handle in
    let u = c.in-Some.link.now in
    let t = sent_of c.args.transfer.now c.args.payload.now in
    let v = c.verdict-verdict.result in
    let some : 1 ≤ s.window = omega (arith, c.window.ensures) in
    let at = c.in-Some.ensures.value in
    let l = live s h t u at some in
    let known = c.is_known-known.ensures ∙ known_is c.self.inside.index s t.delivery_id c.self.invariant.indexed c.is_numbered.ensures in
    let taken = taken_of c.is_known-known.result u t v c.in_default-verdict.not-Fails c.verdict-verdict.ensures in
    let none : transfer_fault s (live s h t u at some).0.link t ≡ None = sym (fault_is s h t u at some c.is_known-known.result known) ∙ taken.0 in
    let is = c.transfer_came-in-Ok.ensures ∙ came s h t u at some none c.accept.new.link c.in-Some.ensures.number c.in-Ok.ensures.new in
    record {
      apart = frame_apart c.open_ids_grow_by_heads.ensures s c.transfer_came-in-Ok.new.self (Transfers h t) c.self.invariant.apart c.is_long.ensures c.is_numbered.ensures (accepted s h t u at some) is;
      indexed =
          came_indexed c.self.inside.index c.accept.new.index s c.transfer_came-in-Ok.new.self h t l.0 v l.1 (subst (λ (m : LinkState). IsTaken m t v) l.2 taken.1)
          (is ∙ ap (session_after s) (event_is s h t u at some none))
          (λ begins. begun_free c.self.inside.index s l.0.link t c.self.invariant.indexed c.is_numbered.ensures none (ap (λ (m : LinkState). m.unfinished) (sym l.2) ∙ begun_head u t v taken.1 begins))
          c.in-Ok.ensures.kept c.self.invariant.indexed;
    }

pub returns-in-Ok : goal.returns-in-Ok
returns-in-Ok g c =
    let s = c.self.inside.state in
    let h = c.args.transfer.now.handle in
    let u = c.in-Some.link.now in
    let t = sent_of c.args.transfer.now c.args.payload.now in
    let v = c.verdict-verdict.result in
    let some : 1 ≤ s.window = omega (arith, c.window.ensures) in
    let at = c.in-Some.ensures.value in
    let known = c.is_known-known.ensures ∙ known_is c.self.inside.index s t.delivery_id c.self.invariant.indexed c.is_numbered.ensures in
    let taken = taken_of c.is_known-known.result u t v c.in_default-verdict.not-Fails c.verdict-verdict.ensures in
    let none : transfer_fault s (live s h t u at some).0.link t ≡ None = sym (fault_is s h t u at some c.is_known-known.result known) ∙ taken.0 in
    let ok = accepted s h t u at some in
    record {
      may = frame_may s c.args.self.now (Transfers h t) c.self.view_is c.is_long.ensures c.is_numbered.ensures ok;
      new = subst (λ (w : SessionState). c.transfer_came-in-Ok.new.self ≡ session_after w (event_of w (Transfers c.args.transfer.now.handle (sent_of c.args.transfer.now c.args.payload.now)))) c.self.view_is
          (c.transfer_came-in-Ok.ensures ∙ came s h t u at some none c.accept.new.link c.in-Some.ensures.number c.in-Ok.ensures.new);
      accepted = subst (λ (w : SessionState). session_fault w (Transfers c.args.transfer.now.handle (sent_of c.args.transfer.now c.args.payload.now)) ≡ None) c.self.view_is ok;
      report = subst (λ (w : SessionState). c.step_report.result ≡ report_of w (Transfers c.args.transfer.now.handle (sent_of c.args.transfer.now c.args.payload.now))) c.self.view_is
          (c.step_report.ensures ∙ came_told s h t u at some none c.in-Ok.step c.in-Ok.ensures.step);
      refused = tt;
      err = tt;
    }

-- Refused memory. -------------------------------------------------------------------------------------------------------------

pub invariant_of-self-in-Err : goal.invariant_of-self-in-Err
invariant_of-self-in-Err g c =
    let s = c.self.inside.state in
    let h = c.args.transfer.now.handle in
    record {
      apart = apart_still s h c.in-Some.link.now c.accept.new.link c.in-Some.ensures.value c.in-Err.ensures.same c.self.invariant.apart;
      indexed =
          still_indexed c.self.inside.index c.accept.new.index s (with_link s h c.accept.new.link) (unchanged s h c.in-Some.link.now c.accept.new.link c.in-Some.ensures.value c.in-Err.ensures.same s refl)
          c.in-Err.ensures.still c.self.invariant.indexed;
    }

pub returns-in-Err : goal.returns-in-Err
returns-in-Err g c =
    let s = c.self.inside.state in
    let h = c.args.transfer.now.handle in
    let u = c.in-Some.link.now in
    let t = sent_of c.args.transfer.now c.args.payload.now in
    let v = c.verdict-verdict.result in
    let some : 1 ≤ s.window = omega (arith, c.window.ensures) in
    let at = c.in-Some.ensures.value in
    let known = c.is_known-known.ensures ∙ known_is c.self.inside.index s t.delivery_id c.self.invariant.indexed c.is_numbered.ensures in
    let taken = taken_of c.is_known-known.result u t v c.in_default-verdict.not-Fails c.verdict-verdict.ensures in
    let none : transfer_fault s (live s h t u at some).0.link t ≡ None = sym (fault_is s h t u at some c.is_known-known.result known) ∙ taken.0 in
    let want = c.in-Err.ensures.refused in
    record {
      may = tt;
      new = tt;
      accepted = tt;
      report = tt;
      refused = subst (λ (e : SessionFault). IsRefusal c.args.self.now (Transfers c.args.transfer.now.handle (sent_of c.args.transfer.now c.args.payload.now)) e) (sym want.0)
          (subst (λ (w : SessionState). (session_fault w (Transfers c.args.transfer.now.handle (sent_of c.args.transfer.now c.args.payload.now)) ≡ None) × (frame_may_grow w (Transfers c.args.transfer.now.handle (sent_of c.args.transfer.now c.args.payload.now)) ≡ true)) c.self.view_is
          (accepted s h t u at some, grows s h t u at some none want.1));
      err = unchanged s h u c.accept.new.link at c.in-Err.ensures.same c.args.self.now c.self.view_is;
    }
