-- Each frame is written that may be.
use Rattle.std.proofs.Common.{◌≡◌, ℕ, zero, suc, ◌+◌, ◌-◌, ◌<◌, ◌≤◌, ◌&&◌, Bool, true, false, cond, ltb, length, drop, Option, Some, None, refl, sym, ap, subst, ◌∙◌, arith}
use Rattle.std.proofs.lemmas.Bool.{and_parts, ltb-true, ltb-false}
use Rattle.std.proofs.lemmas.List.{length-drop}
use Rattle.amqp_send.specs.Sendings.{Sending, Message, is_last, share, left_of, is_talking, may_go, may_send, can_write, wrote_of, wrote, writes, frames_left, all_written}
use Rattle.amqp_send.proofs.Lengths.{share_some, share_within}
use Rattle.amqp_send.specs.Lengths.{Lengths, NullIsLeast}

module _ (laws : Lengths) (null : NullIsLeast) where
  -- each frame leaves less of the message
  pub smaller_of : (s : Sending) (o : Option Message) → 512 ≤ s.flow.max_frame_size → may_send s o ≡ true → frames_left (wrote_of s o).message < frames_left o
  smaller_of s None le e = absurd (cc e)
  smaller_of s (Some m) le e =
      let parts = and_parts (is_talking s.talk) (may_go s.flow s.unsent m) e in
      rw (parts.0, parts.1) (by (is_last s.flow m) refl)
    where
      by : (last : Bool) → is_last s.flow m ≡ last → frames_left (left_of s.flow m) < length m.rest + 1
      by true is = rw is (omega arith)
      by false is =
          let some = share_some laws null s.flow m le is in
          let within = share_within laws null s.flow m in
          let n = share s.flow m in
          let left : length (drop n m.rest) ≡ length m.rest - n = length-drop n m.rest in
          subst (λ (b : Bool). frames_left (cond b None (Some (record { rest = drop n m.rest; begun = true }))) < length m.rest + 1) (sym is) (omega (arith, left, some, within))

  pub smaller : (s : Sending) → 512 ≤ s.flow.max_frame_size → can_write s ≡ true → frames_left (wrote s).message < frames_left s.message
  smaller s le e = smaller_of s s.message le e

-- where none may be written, none is
stays_of : (s : Sending) (o : Option Message) → s.message ≡ o → may_send s o ≡ false → wrote_of s o ≡ s
stays_of s None is e = refl
stays_of s (Some m) is e = by (is_talking s.talk) (may_go s.flow s.unsent m) refl refl e
  where
    same : (record s { message = Some m }) ≡ s
    same = ap (λ (x : Option Message). record s { message = x }) (sym is)

    by : (t go : Bool) → is_talking s.talk ≡ t → may_go s.flow s.unsent m ≡ go → (t && go) ≡ false → wrote_of s (Some m) ≡ s
    by false go et eg f = rw et refl
    by true false et eg f = rw (et, eg) same
    by true true et eg f = absurd (cc f)

-- where nothing may be written nothing is
pub stays : (s : Sending) → can_write s ≡ false → wrote s ≡ s
stays s e = stays_of s s.message refl e

-- so once none may be written, writing goes no further
pub stuck : (n m : ℕ) (s : Sending) → n ≤ m → can_write (writes n s) ≡ false → writes m s ≡ writes n s
stuck n zero s le none = let e : 0 ≡ n = omega arith in ap (λ (x : ℕ). writes x s) e
stuck n (suc m) s le none = by (ltb n (suc m)) refl (λ less. stuck n m s less none)
  where
    by : (b : Bool) → ltb n (suc m) ≡ b → (n ≤ m → writes m s ≡ writes n s) → writes (suc m) s ≡ writes n s
    by true e before = ap wrote (before (omega (arith, ltb-true n (suc m) e))) ∙ stays (writes n s) none
    by false e before = let same : suc m ≡ n = omega (arith, ltb-false n (suc m) e) in ap (λ (x : ℕ). writes x s) same

-- after so many frames none may be written
pub written : (start s t : Sending) (n : ℕ) → s ≡ writes n start → n + frames_left s.message ≤ frames_left start.message → t ≡ wrote s → can_write s ≡ false →
    (t ≡ all_written start) × (can_write t ≡ false)
written start s t n is le new none =
    let same : t ≡ s = new ∙ stays s none in
    let no : can_write (writes n start) ≡ false = subst (λ (x : Sending). can_write x ≡ false) is none in
    (same ∙ is ∙ sym (stuck n (frames_left start.message) start (omega arith) no), ap can_write same ∙ none)
