-- A frame that is acted upon where it lies.
use Rattle.std.proofs.Common.{arith, ◌≡◌, ℕ, ◌+◌, ◌≤◌, ◌⊎◌, inl, inr, Bool, true, false, List, [], ◌++◌, length, take, Option, Some, refl, sym, ap, subst, ◌∙◌}
use Rattle.amqp_frame.specs.declared.units.Frame.{Frame}
use Rattle.amqp_frame.specs.Units.{StreamUnit, FrameUnit, channel_of, body_of}
use Rattle.amqp_frame.specs.Splits.{SplitterState, Stands, Waits, IsLent, IsTaken}
use Rattle.amqp_frame.proofs.Fronts.{one_waits}
use Rattle.amqp_frame.proofs.Lents.{lent_taken}
use Rattle.amqp_endpoint.specs.declared.event.Event.{Event}
use Rattle.amqp_endpoint.specs.declared.event.Outcome.{Outcome}
use Rattle.amqp_endpoint.specs.declared.event.Outcome.TheVariants as outcome
use Rattle.amqp_endpoint.specs.Acting.{IsDone, IsWithout}
use Rattle.amqp_endpoint.specs.Calls.{has_room, reply_room, output_size}
use Rattle.amqp_endpoint.specs.Connections.{ConnectionState, connection_after}
use Rattle.amqp_endpoint.specs.Lines.{Line, line_of, frame_at, event_on, told_on, may_grow_on}
use Rattle.amqp_endpoint.specs.Replies.{reply_on}
use Rattle.amqp_endpoint.specs.Steps.{EndpointState, IsActed, Acts, may_act, TakesAndActs, told_outcome}

-- there is room for an answer
pub room_is : (unsent : List ℕ) → length unsent + reply_room ≤ output_size → has_room unsent ≡ true
room_is unsent h = grind (arith, h)

module _ (s : EndpointState) (piece : List ℕ) (frame : Frame) (size : ℕ) (least : 8 ≤ s.input.limit) (lent : IsLent s.input piece frame size) (room : has_room s.unsent ≡ true) where
  abbrev bytes : List ℕ
  bytes = take size piece

  abbrev held : SplitterState
  held = record s.input { filled = bytes }

  -- the line of the frame that waits is that of the one that is lent
  line_is : frame_at s.connection frame.channel frame.body.now ≡ line_of s.connection (FrameUnit bytes)
  line_is = ap (λ (k : ℕ). frame_at s.connection k frame.body.now) lent.channel ∙ ap (λ (xs : List ℕ). frame_at s.connection (channel_of bytes) xs) lent.body

  -- no other unit waits
  only : (new : EndpointState) (answer : Outcome) (b : SplitterState) → Waits b (FrameUnit bytes) → 8 ≤ b.limit → Acts (record s { input = b }) new (FrameUnit bytes) true answer →
      (u : StreamUnit) → Waits b u → Acts (record s { input = b }) new u (may_act (record s { input = b }) u) answer
  only new answer b waits few acts u w =
      subst (λ (v : StreamUnit). Acts (record s { input = b }) new v (may_act (record s { input = b }) v) answer) (one_waits b.limit b.stage b.filled (FrameUnit bytes) u few waits w)
      (subst (λ (may : Bool). Acts (record s { input = b }) new (FrameUnit bytes) may answer) (sym room) acts)

  pub done : (unsent : List ℕ) (t : ConnectionState) (told : Option Event) (answer : Outcome) → IsDone s.connection t s.unsent unsent (frame_at s.connection frame.channel frame.body.now) told →
      answer ≡ told_outcome t told → TakesAndActs s (record { input = s.input; unsent = unsent; connection = t }) piece size answer
  done unsent t told answer d is =
      let new : EndpointState = record { input = s.input; unsent = unsent; connection = t } in
      let after : t ≡ connection_after s.connection (event_on s.connection (line_of s.connection (FrameUnit bytes))) = d.connection ∙ ap (λ (l : Line). connection_after s.connection (event_on s.connection l)) line_is in
      let says : told ≡ told_on s.connection (line_of s.connection (FrameUnit bytes)) = d.told ∙ ap (λ (l : Line). told_on s.connection l) line_is in
      record {
        between = held;
        taken = lent.taken;
        comes = record {
          unit = only new answer held lent.waits least (inl (record {
            input = lent.goes;
            unsent = d.unsent ∙ ap (λ (l : Line). s.unsent ++ reply_on s.connection l) line_is;
            connection = after;
            told = is ∙ (ap (λ (x : ConnectionState). told_outcome x told) after ∙ ap (λ (x : Option Event). told_outcome (connection_after s.connection (event_on s.connection (line_of s.connection (FrameUnit bytes)))) x) says);
          }));
          none = λ none. absurd (none (FrameUnit bytes) lent.waits);
        };
      }

  pub without : (unsent : List ℕ) (t : ConnectionState) (input : SplitterState) (used : ℕ) → IsWithout s.connection t s.unsent unsent (frame_at s.connection frame.channel frame.body.now) →
      IsTaken s.input input piece used → TakesAndActs s (record { input = input; unsent = unsent; connection = t }) piece used outcome.NoMemory
  without unsent t input used d taken =
      let new : EndpointState = record { input = input; unsent = unsent; connection = t } in
      let count = lent_taken s.input input piece frame size used least lent taken in
      let filled : input.filled ≡ bytes = taken.filled ∙ (ap (λ (k : ℕ). s.input.filled ++ take k piece) count ∙ sym lent.taken.filled) in
      let waits : Waits input (FrameUnit bytes) =
      subst (λ (xs : List ℕ). Stands input.limit input.stage xs (FrameUnit bytes)) (sym filled)
      (subst (λ (k : ℕ). Stands k input.stage bytes (FrameUnit bytes)) (sym taken.limit) (subst (λ x. Stands s.input.limit x bytes (FrameUnit bytes)) (sym taken.stage) lent.waits)) in
      record {
        between = input;
        taken = taken;
        comes = record {
          unit = only new outcome.NoMemory input waits (omega (arith, taken.limit, least)) (inr (
            record { input = record { limit = refl; stage = refl; filled = refl }; unsent = d.unsent; connection = d.connection },
            refl,
            subst (λ (l : Line). may_grow_on l ≡ true) line_is d.wants,
          ));
          none = λ none. absurd (none (FrameUnit bytes) waits);
        };
      }
