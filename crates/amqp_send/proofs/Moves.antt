-- What is moved out is less to be sent.
use Rattle.std.proofs.Common.{◌≡◌, ℕ, zero, suc, ◌+◌, ◌<◌, ◌≤◌, Bool, true, false, ◌++◌, length, Option, Some, None, refl, ap, ◌∙◌, arith, length-append, length-drop}
use Rattle.amqp_send.specs.Lengths.{Lengths, NullIsLeast}
use Rattle.amqp_send.specs.Flows.{most}
use Rattle.amqp_send.specs.Sendings.{Sending, Message, next_frame, is_talking, may_go, may_send, wrote_of, wrote, writes, frames_left, left_to_send, Moved, changed, send_after}
use Rattle.amqp_send.proofs.Lengths.{frame_within, most_is}
use Rattle.amqp_send.proofs.Writing.{smaller_of}

same_most : (s : Sending) (o : Option Message) → (wrote_of s o).flow.max_frame_size ≡ s.flow.max_frame_size
same_most s None = refl
same_most s (Some m) = by (is_talking s.talk) (may_go s.flow s.unsent m) refl refl
  where
    by : (t go : Bool) → is_talking s.talk ≡ t → may_go s.flow s.unsent m ≡ go → (wrote_of s (Some m)).flow.max_frame_size ≡ s.flow.max_frame_size
    by false go et eg = rw et refl
    by true false et eg = rw (et, eg) refl
    by true true et eg = rw (et, eg) refl

module _ (laws : Lengths) (null : NullIsLeast) where
  -- a frame leaves less of its message than it puts into the pipe
  wrote_less : (s : Sending) (o : Option Message) → s.message ≡ o → 512 ≤ s.flow.max_frame_size → left_to_send (wrote_of s o) ≤ left_to_send s
  wrote_less s None e least = omega arith
  wrote_less s (Some m) e least = by (is_talking s.talk) (may_go s.flow s.unsent m) refl refl
    where
      left : frames_left s.message ≡ length m.rest + 1
      left = ap frames_left e

      by : (t go : Bool) → is_talking s.talk ≡ t → may_go s.flow s.unsent m ≡ go → left_to_send (wrote_of s (Some m)) ≤ left_to_send s
      by false go et eg = rw et (omega arith)
      by true false et eg = rw (et, eg) (omega (arith, left))
      by true true et eg =
          let may : may_send s (Some m) ≡ true = rw (et, eg) refl in
          let less : frames_left (wrote_of s (Some m)).message < length m.rest + 1 = smaller_of laws null s (Some m) least may in
          let bytes : (wrote_of s (Some m)).unsent ≡ s.unsent ++ next_frame s.flow m = rw (et, eg) refl in
          let within : length (next_frame s.flow m) ≤ most s.flow = frame_within laws null s.flow m least in
          omega (arith, less, left, within, most_is s.flow least, ap length bytes, length-append s.unsent (next_frame s.flow m))

  writes_less : (n : ℕ) (s : Sending) → 512 ≤ s.flow.max_frame_size → (left_to_send (writes n s) ≤ left_to_send s) × ((writes n s).flow.max_frame_size ≡ s.flow.max_frame_size)
  writes_less zero s least = (omega arith, refl)
  writes_less (suc n) s least =
      let before = writes_less n s least in
      let t = writes n s in
      let now : left_to_send (wrote t) ≤ left_to_send t = wrote_less t t.message refl (omega (arith, before.1, least)) in
      (omega (arith, before.0, now), same_most t t.message ∙ before.1)

  -- so each byte that is moved out counts
  pub moved_less : (s : Sending) (n : ℕ) → 512 ≤ s.flow.max_frame_size → n ≤ length s.unsent → 0 < n → left_to_send (send_after s (Moved n)) < left_to_send s
  moved_less s n least le some =
      let t = changed s (Moved n) in
      omega (arith, (writes_less (frames_left t.message) t least).0, length-drop n s.unsent, le, some)
