-- A max-frame-size that is told is at least 512.
use Rattle.std.proofs.Common.{◌≡◌, ℕ, ◌<◌, Bool, true, false, nat_le, List, slice_index, Option, Some, None, refl}
use Rattle.std.proofs.lemmas.Bool.{leb-true}
use Rattle.amqp_perform.specs.declared.outcome.Outcome.{Outcome}
use Rattle.amqp_perform.specs.declared.performative.Performative.{Performative}
use Rattle.amqp_perform.specs.declared.performative.Performative.TheVariants as performative
use Rattle.amqp_perform.specs.Again.{AreOfFields}
use Rattle.amqp_perform.specs.Bodies.{Body}
use Rattle.amqp_perform.specs.Cells.{Whole, where_so, number_in, flag_in, span_in}
use Rattle.amqp_perform.specs.Frames.{written_cells}
use Rattle.amqp_perform.specs.Outcomes.{outcome_of}
use Rattle.amqp_perform.specs.Performatives.{type_of, performative_cells, role, flag, span, optional_whole}
use Rattle.amqp_perform.specs.Tables.{Field, fields_of, open_fields}
use Rattle.amqp_send.specs.declared.telling.Telling.TheVariants.{Nothing}
use Rattle.amqp_send.specs.Tellings.{performative_told, disposed, IsLawful}
use Rattle.std.specs.Prelude.{unwrap_or, if◌then◌else◌}

passes : (b : Bool) (m : ℕ) → where_so b (Whole m) ≡ Some (Whole m) → b ≡ true
passes true m e = refl
passes false m e = absurd (cc e)

disposed_lawful : (r s : Bool) (first last : ℕ) (o : Option Outcome) → IsLawful (if r then disposed first last s o else Nothing)
disposed_lawful false s first last o = tt
disposed_lawful true s first last (Some o) = tt
disposed_lawful true true first last None = tt
disposed_lawful true false first last None = tt

module _ (again : (bytes : List ℕ) (p : Performative) (fields : List Field) (payload : List ℕ) → ((i : ℕ) → slice_index bytes i < 256) → Body bytes p payload → fields_of (type_of p) ≡ Some fields →
    AreOfFields fields (written_cells p)) where
  pub lawful : (bytes : List ℕ) (p : Performative) (payload : List ℕ) → ((i : ℕ) → slice_index bytes i < 256) → Body bytes p payload → IsLawful (performative_told (type_of p) (performative_cells p))
  lawful bytes (performative.Open p) payload octets body =
      let field = (again bytes (performative.Open p) open_fields payload octets body refl).1.1.0 in
      leb-true 512 p.max_frame_size (passes (nat_le 512 p.max_frame_size) p.max_frame_size field.1)
  lawful bytes (performative.Begin p) payload octets body = tt
  lawful bytes (performative.Attach p) payload octets body = tt
  lawful bytes (performative.Flow p) payload octets body = tt
  lawful bytes (performative.Transfer p) payload octets body = tt
  lawful bytes (performative.Disposition p) payload octets body =
      disposed_lawful (flag_in (role p.role)) (flag_in (flag p.settled)) p.first (unwrap_or (number_in (optional_whole p.last)) p.first) (outcome_of (span_in (span p.state.now)))
  lawful bytes (performative.Detach p) payload octets body = tt
  lawful bytes (performative.End p) payload octets body = tt
  lawful bytes (performative.Close p) payload octets body = tt
