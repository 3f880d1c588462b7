-- What stands in the frames of a sender may stand there.
use Rattle.std.proofs.Common.{ℕ, zero, suc, ◌^◌, ◌<◌, Bool, true, false, List, [], ◌∷◌, Option, Some, None, refl, ap, arith}
use Rattle.std.specs.Prelude.{slice_index, nat_lt}
use Rattle.std.specs.List.{AllByRecursion}
use Rattle.std.proofs.lemmas.Bool.{le-leb}
use Rattle.byteorder.specs.Endian.{big_bytes}
use Rattle.amqp_types.specs.declared.kind.Kind.TheVariants as kind
use Rattle.amqp_types.specs.Canonical.{canonical, Fits, IsRanged}
use Rattle.amqp_types.specs.Spelling.{Spells}
use Rattle.amqp_types.specs.Trees.{Tree, Number, ListOf, Described, none, IsLawful}
use Rattle.amqp_perform.specs.Again.{IsOfField}
use Rattle.amqp_perform.specs.Cells.{Whole, Bytes, Span, where_so}
use Rattle.amqp_perform.specs.Performatives.{flag, optional_whole}
use Rattle.amqp_perform.specs.Said.{MayBeSaid}
use Rattle.amqp_perform.specs.Tables.{Field, string, uint, boolean, spanned, mandatory, optional, default, open_fields, begin_fields}
use Rattle.amqp_perform.specs.Tables.{attach_fields, flow_fields, transfer_fields, close_fields}
use Rattle.amqp_serial.specs.Numbers.{distance_of}
use Rattle.amqp_send.specs.declared.flow_state.FlowState.{FlowState}
use Rattle.amqp_send.specs.Flows.{credit}
use Rattle.amqp_send.specs.Frames.{IsSmall, IsText}
use Rattle.amqp_send.specs.Sendings.{open_said, begin_said, attach_said, flow_said, close_said, transfer_said}

abbrev uint_field : Field
uint_field = record { name = []; type = uint; absence = optional }

uint_cell : (n : ℕ) → n < 2 ^ 32 → IsOfField uint_field (Whole n)
uint_cell n lt = ((λ e. absurd (cc e), omega arith, tt), ap (λ b. where_so b (Whole n)) (le-leb 0 n (omega arith)))

bool_cell : (b : Bool) → IsOfField (record { name = []; type = boolean; absence = default 0 }) (flag b)
bool_cell true = ((λ e. absurd (cc e), omega arith, omega arith), refl)
bool_cell false = ((λ e. absurd (cc e), omega arith, omega arith), refl)

optional_cell : (z : Option ℕ) → IsSmall z → IsOfField uint_field (optional_whole z)
optional_cell None s = refl
optional_cell (Some n) s = uint_cell n s

credit_small : (f : FlowState) → credit f < 2 ^ 32
credit_small f = by (nat_lt (distance_of f.delivery_count f.credit_end) (2 ^ 31))
  where
    by : (b : Bool) → Rattle.std.specs.Prelude.if◌then◌else◌ b (distance_of f.delivery_count f.credit_end) 0 < 2 ^ 32
    by true = omega arith
    by false = omega arith

text_cell : (text : List ℕ) → IsText text → IsOfField (record { name = []; type = string; absence = mandatory }) (Bytes text)
text_cell text is = (is, refl)

-- its open may be written, and is read as it was
pub open_may : (container_id : List ℕ) → IsText container_id → MayBeSaid (open_said container_id)
open_may container_id is = record {
  fields = open_fields;
  table = refl;
  each = (
    text_cell container_id is,
    (refl, (((λ e. absurd (cc e), omega arith, tt), refl), (((λ e. absurd (cc e), omega arith, tt), refl), (refl, (refl, (refl, (refl, (refl, (refl, tt))))))))),
  );
}

-- so may its begin
pub begin_may : MayBeSaid begin_said
begin_may = record {
  fields = begin_fields;
  table = refl;
  each = (refl, (uint_cell 0 (omega arith), (uint_cell 0 (omega arith), (uint_cell 2048 (omega arith), (uint_cell 0 (omega arith), (refl, (refl, (refl, tt))))))));
}

-- a terminus without fields, by the code that describes it [3.5.3, 3.5.4]
abbrev terminus : ℕ → Tree
terminus code = Described (Number kind.Ulong code) (ListOf none)

terminus_cell : ((t : Tree) → IsLawful t → IsRanged t → Fits t → Spells t (canonical t)) → (code : ℕ) → code < 256 ^ 8 → IsOfField (record { name = []; type = spanned; absence = optional })
    (Span (canonical (terminus code)))
terminus_cell spells code few = (refl, terminus code, spells (terminus code) (tt, tt) ((λ e. absurd (cc e), few, tt), tt) (tt, (refl, tt)), omega arith, refl)

-- its attach
pub attach_may : ((t : Tree) → IsLawful t → IsRanged t → Fits t → Spells t (canonical t)) → (name : List ℕ) → IsText name → MayBeSaid (attach_said name)
attach_may spells name is = record {
  fields = attach_fields;
  table = refl;
  each = (
    text_cell name is,
    (
      uint_cell 0 (omega arith),
      (
        bool_cell false,
        (
          ((λ e. absurd (cc e), omega arith, tt), refl),
          (
            ((λ e. absurd (cc e), omega arith, tt), refl),
            (
              terminus_cell spells 0x28 (omega arith),
              (terminus_cell spells 0x29 (omega arith), (refl, (refl, (uint_cell 0 (omega arith), (refl, (refl, (refl, (refl, tt)))))))),
            ),
          ),
        ),
      ),
    ),
  );
}

-- its flows
pub flow_may : (f : FlowState) (drain : Bool) → IsSmall f.peer_next_outgoing_id → f.next_outgoing_id < 2 ^ 32 → f.delivery_count < 2 ^ 32 → MayBeSaid (flow_said f drain)
flow_may f drain peer next count = record {
  fields = flow_fields;
  table = refl;
  each = (
    optional_cell f.peer_next_outgoing_id peer,
    (
      uint_cell 0 (omega arith),
      (
        uint_cell f.next_outgoing_id next,
        (
          uint_cell 2048 (omega arith),
          (
            uint_cell 0 (omega arith),
            (uint_cell f.delivery_count count, (uint_cell (credit f) (credit_small f), (refl, (bool_cell drain, (bool_cell false, (refl, tt)))))),
          ),
        ),
      ),
    ),
  );
}

octet : (xs : List ℕ) → AllByRecursion (λ b. b < 256) xs → (i : ℕ) → slice_index xs i < 256
octet [] a i = omega arith
octet (x ∷ xs) a zero = a.0
octet (x ∷ xs) a (suc i) = octet xs a.1 i

tag_octets : (id : ℕ) → AllByRecursion (λ b. b < 256) (big_bytes 4 id)
tag_octets id = (omega arith, (omega arith, (omega arith, (omega arith, tt))))

-- its transfers
pub transfer_may : (id : ℕ) (begun more : Bool) → id < 2 ^ 32 → MayBeSaid (transfer_said id begun more)
transfer_may id true more lt = record {
  fields = transfer_fields;
  table = refl;
  each = (uint_cell 0 (omega arith), (refl, (refl, (refl, (refl, (bool_cell more, (refl, (refl, (bool_cell false, (bool_cell false, (refl, tt)))))))))));
}
transfer_may id false more lt = record {
  fields = transfer_fields;
  table = refl;
  each = (
    uint_cell 0 (omega arith),
    (
      uint_cell id lt,
      (
        ((tt, octet (big_bytes 4 id) (tag_octets id), tt), refl),
        (
          uint_cell 0 (omega arith),
          (
            refl,
            (
              bool_cell more,
              (
                refl,
                (
                  refl,
                  (bool_cell false, (bool_cell false, (refl, tt))),
                ),
              ),
            ),
          ),
        ),
      ),
    ),
  );
}

-- and its close
pub close_may : MayBeSaid close_said
close_may = record { fields = close_fields; table = refl; each = (refl, tt) }
