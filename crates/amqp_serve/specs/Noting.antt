-- What a step noted, and what it did.
use Rattle.std.specs.Prelude.{◌≡◌, Bool, true, Option, Some, None, Result, Ok, Err}
use Rattle.amqp_endpoint.specs.declared.event.Fed.{Fed}
use Rattle.amqp_endpoint.specs.declared.fault.CallFault.{CallFault}
use Rattle.amqp_serve.specs.declared.note.Fate.{Fate}
use Rattle.amqp_serve.specs.declared.note.Fate.TheVariants as fate
use Rattle.amqp_serve.specs.declared.note.Note.{Note}
use Rattle.amqp_serve.specs.declared.serving.ServeFault.{ServeFault}
use Rattle.amqp_serve.specs.declared.steps.Done.{Done}
use Rattle.amqp_serve.specs.declared.steps.Receipt.{Receipt}
use Rattle.amqp_serve.specs.declared.steps.Receipt.TheVariants as receipt
use Rattle.amqp_serve.specs.declared.steps.Received.{Received}
use Rattle.amqp_serve.specs.declared.steps.Stepped.{Stepped}
use Rattle.amqp_serve.specs.Deeds.{filled, message_in}

-- the fate of a message, by the answer to its settle
abbrev pub fate_by : Result (Unit {0}) CallFault → Fate
fate_by (Ok x) = fate.Told
fate_by (Err f) = fate.Untold f

-- the receipt of a message that had this fate
abbrev pub receipt_with : Received → Fate → Receipt
receipt_with m fate.Nothing = receipt.Nothing
receipt_with m (fate.Refused f) = receipt.Refused f
receipt_with m fate.Settled = receipt.Settled m
receipt_with m fate.Told = receipt.Told m
receipt_with m (fate.Untold f) = receipt.Untold m f

-- and where no message is noted
abbrev pub receipt_without : Fate → Receipt
receipt_without (fate.Refused f) = receipt.Refused f
receipt_without _ = receipt.Nothing

abbrev pub receipt_by_fate : Option Received → Fate → Receipt
receipt_by_fate (Some m) f = receipt_with m f
receipt_by_fate None f = receipt_without f

abbrev pub receipt_of : Note → Receipt
receipt_of n = receipt_by_fate n.message n.fate

abbrev pub done_of : Note → Done
done_of n = record { receipt = receipt_of n; topped = n.topped }

-- the message that was taken and recorded
abbrev pub message_of : Note → Option Received
message_of n = message_in (receipt_of n)

-- the result of a step, by what the feed came to, how the step ended and what was noted
abbrev pub stepped_by : Fed → Result (Unit {0}) ServeFault → Note → Stepped
stepped_by fed end n = record { used = fed.used; told = fed.outcome; done = filled end (done_of n) }

-- A note that was to be whole says what was done. Of another one nothing is said.
abbrev pub IsReceiptOf : Bool → Note → Receipt → Type 0
IsReceiptOf whole n r = whole ≡ true → receipt_of n ≡ r

abbrev pub IsNoteOf : Bool → Note → Done → Type 0
IsNoteOf whole n d = whole ≡ true → done_of n ≡ d
