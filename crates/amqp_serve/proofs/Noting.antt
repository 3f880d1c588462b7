-- What a note says of a step.
use Rattle.std.proofs.Common.{◌≡◌, Bool, ℕ, List, Result, Ok, Err, Option, Some, None, refl, sym, ap, subst}
use Rattle.amqp_endpoint.specs.declared.event.Outcome.{Outcome}
use Rattle.amqp_endpoint.specs.Steps.{EndpointState}
use Rattle.amqp_endpoint.specs.declared.fault.CallFault.{CallFault}
use Rattle.amqp_serve.specs.declared.note.Fate.{Fate}
use Rattle.amqp_serve.specs.declared.note.Fate.TheVariants as fate
use Rattle.amqp_serve.specs.declared.note.Note.{Note}
use Rattle.amqp_serve.specs.declared.rules.Rule.{Rule}
use Rattle.amqp_serve.specs.declared.serving.ServeFault.{ServeFault}
use Rattle.amqp_serve.specs.declared.steps.Done.{Done}
use Rattle.amqp_serve.specs.declared.steps.Receipt.{Receipt}
use Rattle.amqp_serve.specs.declared.steps.Receipt.TheVariants as receipt
use Rattle.amqp_serve.specs.declared.steps.Received.{Received}
use Rattle.amqp_serve.specs.declared.supplies.Topped.{Topped}
use Rattle.amqp_serve.specs.Deeds.{filled, receipt_by, Ends, IsStepped}
use Rattle.amqp_serve.specs.Noting.{fate_by, receipt_by_fate, receipt_with, IsReceiptOf, IsNoteOf}

pub stepped_as_noted : (p : Rule) (bytes : List ℕ) (told : Outcome) {d e : Done} (s t : EndpointState) (x y : Ends) (r : Result (Unit {0}) ServeFault) → e ≡ d → IsStepped p bytes told (filled r d) s t x y
    → IsStepped p bytes told (filled r e) s t x y
stepped_as_noted p bytes told s t x y r is on = subst (λ (k : Done). IsStepped p bytes told (filled r k) s t x y) (sym is) on

-- a message that was noted has the receipt of its fate
pub as_noted : {m : Option Received} {d : Received} (f : Fate) → m ≡ Some d → receipt_by_fate m f ≡ receipt_with d f
as_noted f is = ap (λ (k : Option Received). receipt_by_fate k f) is

-- a note whose receipt is right is right with what was topped up
pub noted : {whole : Bool} {r : Receipt} {topped : Topped} (n : Note) → IsReceiptOf whole n r → IsNoteOf whole (record n { topped = topped }) (record { receipt = r; topped = topped })
noted {topped = topped} n is = λ w. ap (λ (k : Receipt). record { receipt = k; topped = topped }) (is w)

-- without a message the receipt is the same
pub refused_noted : (m : Option Received) (f : CallFault) → receipt_by_fate m (fate.Refused f) ≡ receipt.Refused f
refused_noted (Some d) f = refl
refused_noted None f = refl

pub nothing_noted : (m : Option Received) → receipt_by_fate m fate.Nothing ≡ receipt.Nothing
nothing_noted (Some d) = refl
nothing_noted None = refl

pub told_noted : {m : Option Received} {d : Received} (r : Result (Unit {0}) CallFault) → m ≡ Some d → receipt_by_fate m (fate_by r) ≡ receipt_by d r
told_noted (Ok x) is = as_noted (fate_by (Ok x)) is
told_noted (Err f) is = as_noted (fate_by (Err f)) is
