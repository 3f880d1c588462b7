-- What the frames of an endpoint tell a sender. [2.7]
use Rattle.std.specs.Prelude.{◌≡◌, ℕ, ◌^◌, ◌<◌, List, length}
use Rattle.amqp_frame.specs.Units.{FrameUnit}
use Rattle.amqp_perform.specs.Said.{Said, said_frame, MayBeSaid}
use Rattle.amqp_send.specs.Tellings.{told_of, performative_told}

-- A frame of the receiver that may be said tells the sender what its fields say.
abbrev pub TellsLaw : Type 0
TellsLaw = (channel : ℕ) (x : Said) (payload : List ℕ) → MayBeSaid x → channel < 2 ^ 16 → length (said_frame channel x payload) < 2 ^ 32
    → told_of (FrameUnit (said_frame channel x payload)) ≡ performative_told x.type x.cells
