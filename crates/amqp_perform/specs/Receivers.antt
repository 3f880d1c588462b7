-- What a receiver that sends nothing says of its deliveries and its links. [2.7]
use Rattle.std.specs.Prelude.{ℕ, Bool, false, nat_eq, if◌then◌else◌, List, [], ◌∷◌}
use Rattle.amqp_perform.specs.declared.descriptor.Descriptor.TheVariants as of_type
use Rattle.amqp_perform.specs.declared.modes.Role.TheVariants as of_role
use Rattle.amqp_perform.specs.declared.outcome.Outcome.{Outcome}
use Rattle.amqp_perform.specs.declared.writer.LinkFlow.{LinkFlow}
use Rattle.amqp_perform.specs.Cells.{Cell, Absent, Whole}
use Rattle.amqp_perform.specs.Outcomes.{outcome_span}
use Rattle.amqp_perform.specs.Performatives.{flag, role, span}
use Rattle.amqp_perform.specs.Said.{Said}

-- an absent last is the first [2.7.6]
abbrev pub last_stated : ℕ → ℕ → Cell
last_stated first last = if nat_eq first last then Absent else Whole last

-- the state of the deliveries with the ids from the first to the last, settled or not [2.7.6]
abbrev pub state_said : ℕ → ℕ → Bool → List ℕ → Said
state_said first last settled state = record {
  type = of_type.Disposition;
  cells = role of_role.Receiver ∷ Whole first ∷ last_stated first last ∷ flag settled ∷ span state ∷ Absent ∷ [];
}

-- what became of the deliveries with the ids from the first to the last [3.4]
abbrev pub disposition_said : ℕ → ℕ → Bool → Outcome → Said
disposition_said first last settled outcome = state_said first last settled (outcome_span outcome)

-- the flow of a link [2.6.7, 2.7.4]
abbrev pub link_flow_said : ℕ → ℕ → ℕ → ℕ → ℕ → Bool → Said
link_flow_said next_id window handle count credit drain = record {
  type = of_type.Flow;
  cells = Whole next_id ∷ Whole window ∷ Whole 0 ∷ Whole 0 ∷ Whole handle ∷ Whole count ∷ Whole credit ∷ Absent ∷ flag drain ∷ flag false ∷ Absent ∷ [];
}

-- the flow of a link, by what was stated
abbrev pub stated_said : LinkFlow → Said
stated_said f = link_flow_said f.next_incoming_id f.incoming_window f.handle f.delivery_count f.link_credit f.drain
