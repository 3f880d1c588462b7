-- What a field is that may be absent.
use Rattle.std.proofs.Common.{◌≡◌, ℕ, Option, Some, None, refl}
use Rattle.std.specs.Option.{option_map, unwrap_or}
use Rattle.amqp_perform.specs.declared.modes.SenderSettleMode.{SenderSettleMode}
use Rattle.amqp_perform.specs.declared.modes.SenderSettleMode.TheVariants as sender
use Rattle.amqp_perform.specs.declared.modes.ReceiverSettleMode.{ReceiverSettleMode}
use Rattle.amqp_perform.specs.declared.modes.ReceiverSettleMode.TheVariants as receiver
use Rattle.amqp_perform.specs.Cells.{Cell, Absent, Whole, Bytes, Span, with_absence}
use Rattle.amqp_perform.specs.Performatives.{optional_whole, sender_mode, receiver_mode}
use Rattle.amqp_perform.specs.Tables.{optional, default}

-- an optional field is what stands there
pub optional_is : (c : Cell) → with_absence optional c ≡ Some c
optional_is Absent = refl
optional_is (Whole n) = refl
optional_is (Bytes octets) = refl
optional_is (Span text) = refl

-- an absent field is its default
pub default_is : (n : ℕ) (m : Option ℕ) → with_absence (default n) (optional_whole m) ≡ Some (Whole (unwrap_or m n))
default_is n None = refl
default_is n (Some m) = refl

-- the modes of an attach, mixed and first by default
pub sender_mode_is : (m : Option SenderSettleMode) → with_absence (default 2) (optional_whole (option_map sender_mode m)) ≡ Some (Whole (sender_mode (unwrap_or m sender.Mixed)))
sender_mode_is None = refl
sender_mode_is (Some m) = refl

-- an absent rcv-settle-mode is first
pub receiver_mode_is : (m : Option ReceiverSettleMode) → with_absence (default 0) (optional_whole (option_map receiver_mode m)) ≡ Some (Whole (receiver_mode (unwrap_or m receiver.First)))
receiver_mode_is None = refl
receiver_mode_is (Some m) = refl
