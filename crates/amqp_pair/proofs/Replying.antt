-- What the endpoint's frames tell.
use Rattle.std.proofs.Common.{◌≡◌, ℕ, ◌^◌, ◌<◌, ◌≤◌, ◌%◌, ◌⊎◌, inl, inr, Bool, true, false, cond, List, [], ◌∷◌, Option, Some, None, refl, ap, ◌∙◌, arith, eq-eqb}
use Rattle.std.specs.Prelude.{unwrap_or, nat_lt, nat_eq}
use Rattle.std.specs.Int.{byte_at}
use Rattle.std.proofs.lemmas.Bool.{le-leb, le-ltb, cases_lt, ne_eqb}
use Rattle.amqp_types.specs.declared.kind.Kind.TheVariants as kind
use Rattle.byteorder.specs.Endian.{big_bytes}
use Rattle.amqp_types.specs.declared.code.Form.TheVariants as form
use Rattle.amqp_types.specs.declared.shell.Short.{Short}
use Rattle.amqp_types.specs.declared.shell.Short.TheVariants as short
use Rattle.amqp_types.specs.Canonical.{canonical, number_text, short_form, Fits, IsRanged, AllRanged}
use Rattle.amqp_types.specs.Spelling.{Spells}
use Rattle.amqp_types.specs.Trees.{Tree, Trees, Number, ListOf, Described, none, IsLawful, AreLawful, depth_of_all}
use Rattle.amqp_perform.specs.declared.outcome.Outcome.{Outcome}
use Rattle.amqp_perform.specs.declared.outcome.Outcome.TheVariants as outcome
use Rattle.amqp_perform.specs.Again.{IsOfField}
use Rattle.amqp_perform.specs.Cells.{Cell, Absent, Whole, Bytes, Span, where_so, number_in, flag_in, span_in}
use Rattle.amqp_perform.specs.Outcomes.{outcome_span, outcome_of, flag_trees}
use Rattle.amqp_perform.specs.Performatives.{flag, span}
use Rattle.amqp_perform.specs.Said.{Said, MayBeSaid}
use Rattle.amqp_perform.specs.Tables.{Field, string, uint, uint_from, ushort, boolean, spanned, mandatory, optional, default, open_fields, begin_fields, attach_fields, flow_fields, disposition_fields}
use Rattle.amqp_session.specs.declared.terms.SessionTerms.{SessionTerms}
use Rattle.amqp_session.specs.Frames.{attach_said, flow_said, link_flow_said, disposition_said, last_stated}
use Rattle.amqp_endpoint.specs.Configs.{Configured}
use Rattle.amqp_endpoint.specs.Replies.{time_out_said, open_said, begin_said}
use Rattle.amqp_send.specs.declared.telling.Telling.TheVariants.{Flowed}
use Rattle.amqp_send.specs.Frames.{IsText}
use Rattle.amqp_send.specs.Tellings.{performative_told, disposed}
use Rattle.amqp_pair.specs.Reading.{attaching_of}
use Rattle.amqp_pair.specs.Replying.{SaysAndTells, OpenTells, BeginTells, AttachTells, FlowTells, LinkFlowTells, DispositionTells}
use Rattle.amqp_pair.specs.Tells.{TellsLaw}

uint_cell : (n : ℕ) → n < 2 ^ 32 → IsOfField (record { name = []; type = uint; absence = optional }) (Whole n)
uint_cell n lt = ((λ e. absurd (cc e), omega arith, tt), ap (λ (b : Bool). where_so b (Whole n)) (le-leb 0 n (omega arith)))

bool_cell : (b : Bool) → IsOfField (record { name = []; type = boolean; absence = default 0 }) (flag b)
bool_cell true = ((λ e. absurd (cc e), omega arith, omega arith), refl)
bool_cell false = ((λ e. absurd (cc e), omega arith, omega arith), refl)

text_cell : (text : List ℕ) → IsText text → IsOfField (record { name = []; type = string; absence = mandatory }) (Bytes text)
text_cell text is = (is, refl)

short_cell : (n : ℕ) → n < 2 ^ 16 → IsOfField (record { name = []; type = ushort; absence = optional }) (Whole n)
short_cell n lt = ((λ e. absurd (cc e), omega arith, tt), refl)

size_cell : (n : ℕ) → 512 ≤ n → n < 2 ^ 32 → IsOfField (record { name = []; type = uint_from 512; absence = optional }) (Whole n)
size_cell n least lt = ((λ e. absurd (cc e), omega arith, tt), ap (λ (b : Bool). where_so b (Whole n)) (le-leb 512 n least))

begin_may : (channel : ℕ) (terms : SessionTerms) → channel < 2 ^ 16 → terms.incoming_window < 2 ^ 32 → terms.handle_max < 2 ^ 32 → MayBeSaid (begin_said channel terms)
begin_may channel terms few window handles = record {
  fields = begin_fields;
  table = refl;
  each = (short_cell channel few, (uint_cell 0 (omega arith), (uint_cell terms.incoming_window window, (uint_cell 0 (omega arith), (uint_cell terms.handle_max handles, (refl, (refl, (refl, tt))))))));
}

flow_may : (next window : ℕ) → next < 2 ^ 32 → window < 2 ^ 32 → MayBeSaid (flow_said next window)
flow_may next window n w = record {
  fields = flow_fields;
  table = refl;
  each = (
    uint_cell next n,
    (uint_cell window w, (uint_cell 0 (omega arith), (uint_cell 0 (omega arith), (refl, (refl, (refl, (refl, (bool_cell false, (bool_cell false, (refl, tt)))))))))),
  );
}

link_flow_may : (next window count credit : ℕ) (drain : Bool) → next < 2 ^ 32 → window < 2 ^ 32 → count < 2 ^ 32 → credit < 2 ^ 32 → MayBeSaid (link_flow_said next window 0 count credit drain)
link_flow_may next window count credit drain n w c k = record {
  fields = flow_fields;
  table = refl;
  each = (
    uint_cell next n,
    (
      uint_cell window w,
      (uint_cell 0 (omega arith), (uint_cell 0 (omega arith), (uint_cell 0 (omega arith), (uint_cell count c, (uint_cell credit k, (refl, (bool_cell drain, (bool_cell false, (refl, tt))))))))),
    ),
  );
}

abbrev Spelled : Type 0
Spelled = (t : Tree) → IsLawful t → IsRanged t → Fits t → Spells t (canonical t)

abbrev span_field : Field
span_field = record { name = []; type = spanned; absence = optional }

-- a terminus without fields, by the code that describes it [3.5.3, 3.5.4]
terminus_cell : Spelled → (code : ℕ) → code < 256 ^ 8 → IsOfField span_field (Span (canonical (Described (Number kind.Ulong code) (ListOf none))))
terminus_cell spells code few = (
  refl,
  Described (Number kind.Ulong code) (ListOf none),
  spells (Described (Number kind.Ulong code) (ListOf none)) (tt, tt) ((λ e. absurd (cc e), few, tt), tt) (tt, (refl, tt)),
  omega arith,
  refl,
)

size_span : Spelled → (n : ℕ) → n < 2 ^ 64 → IsOfField span_field (Span (canonical (Number kind.Ulong n)))
size_span spells n few = (refl, Number kind.Ulong n, spells (Number kind.Ulong n) tt (λ e. absurd (cc e), omega (arith, few), tt) tt, omega arith, refl)

-- the lowest four bytes of a number stand for what 32 bits hold of it
low_bytes : (n : ℕ) → big_bytes 4 n ≡ big_bytes 4 (n % 2 ^ 32)
low_bytes n =
    let a : byte_at 3 n ≡ byte_at 3 (n % 2 ^ 32) = omega arith in
    let b : byte_at 2 n ≡ byte_at 2 (n % 2 ^ 32) = omega arith in
    let c : byte_at 1 n ≡ byte_at 1 (n % 2 ^ 32) = omega arith in
    let d : byte_at 0 n ≡ byte_at 0 (n % 2 ^ 32) = omega arith in
    ap (λ (x : ℕ). x ∷ byte_at 2 n ∷ byte_at 1 n ∷ byte_at 0 n ∷ []) a
    ∙ ap (λ (x : ℕ). byte_at 3 (n % 2 ^ 32) ∷ x ∷ byte_at 1 n ∷ byte_at 0 n ∷ []) b
    ∙ ap (λ (x : ℕ). byte_at 3 (n % 2 ^ 32) ∷ byte_at 2 (n % 2 ^ 32) ∷ x ∷ byte_at 0 n ∷ []) c
    ∙ ap (λ (x : ℕ). byte_at 3 (n % 2 ^ 32) ∷ byte_at 2 (n % 2 ^ 32) ∷ byte_at 1 (n % 2 ^ 32) ∷ x ∷ []) d

-- a number that needs more than a byte is spelled by four
long_uint : (n : ℕ) → 256 ≤ n → short_form kind.Uint n ≡ None
long_uint n long =
    ap (λ (b : Bool). cond b (Some (short.Code 0x43)) (cond (nat_lt n 256) (Some (short.Byte 0x52 n)) None)) (ne_eqb n 0 (λ e. absurd (omega (arith, long, e))))
    ∙ ap (λ (b : Bool). cond b (Some (short.Byte 0x52 n)) None) (le-ltb n 256 long)

-- an idle-time-out; of a number too large for a uint its lowest four bytes are spelled
time_out_span : Spelled → (n : ℕ) → IsOfField span_field (Span (canonical (Number kind.Uint n)))
unfolding Spells
time_out_span spells n = by (cases_lt n (2 ^ 32))
  where
    by : n < 2 ^ 32 ⊎ 2 ^ 32 ≤ n → IsOfField span_field (Span (canonical (Number kind.Uint n)))
    by (inl few) = (refl, Number kind.Uint n, spells (Number kind.Uint n) tt (λ e. absurd (cc e), omega (arith, few), tt) tt, omega arith, refl)
    by (inr many) = (
      refl,
      Number kind.Uint (n % 2 ^ 32),
      (0x70, form.Full, big_bytes 4 n, refl, ap (λ (o : Option Short). number_text kind.Uint n o) (long_uint n (omega (arith, many))), (omega arith, low_bytes n), tt),
      omega arith,
      refl,
    )

time_out_cell : Spelled → (o : Option ℕ) → IsOfField span_field (time_out_said o)
time_out_cell spells None = refl
time_out_cell spells (Some n) = time_out_span spells n

open_may : Spelled → (config : Configured) (channel_max : ℕ) → IsText config.container_id → 512 ≤ config.max_frame → config.max_frame < 2 ^ 32 → channel_max < 2 ^ 16 → MayBeSaid (open_said config channel_max)
open_may spells config channel_max text least most few = record {
  fields = open_fields;
  table = refl;
  each = (
    text_cell config.container_id text,
    (refl, (size_cell config.max_frame least most, (short_cell channel_max few, (time_out_cell spells config.idle_time_out, (refl, (refl, (refl, (refl, (refl, tt))))))))),
  );
}

attach_may : Spelled → (config : Configured) (name : List ℕ) (longest : ℕ) → IsText name → longest < 2 ^ 64 → MayBeSaid (attach_said longest (attaching_of config name))
attach_may spells config name longest text few = record {
  fields = attach_fields;
  table = refl;
  each = (
    text_cell name text,
    (
      uint_cell 0 (omega arith),
      (
        bool_cell true,
        (
          ((λ e. absurd (cc e), omega arith, tt), refl),
          (
            ((λ e. absurd (cc e), omega arith, tt), refl),
            (
              terminus_cell spells 0x28 (omega arith),
              (terminus_cell spells 0x29 (omega arith), (refl, (refl, (refl, (size_span spells longest few, (refl, (refl, (refl, tt)))))))),
            ),
          ),
        ),
      ),
    ),
  );
}

-- a state with these fields, by the code that describes it [3.4]
of_state : Spelled → (code : ℕ) (fields : Trees) → code < 256 ^ 8 → AreLawful fields → AllRanged fields → Fits (ListOf fields) → depth_of_all fields ≤ 28
    → IsOfField span_field (Span (canonical (Described (Number kind.Ulong code) (ListOf fields))))
of_state spells code fields few lawful ranged fits low = (
  refl,
  Described (Number kind.Ulong code) (ListOf fields),
  spells (Described (Number kind.Ulong code) (ListOf fields)) (tt, lawful) ((λ e. absurd (cc e), few, tt), ranged) (tt, fits),
  omega (arith, low),
  refl,
)

state_cell : Spelled → (o : Outcome) → IsOfField span_field (span (outcome_span o))
unfolding outcome_span
state_cell spells outcome.Accepted = of_state spells 0x24 none (omega arith) tt tt (refl, tt) (omega arith)
state_cell spells outcome.Rejected = of_state spells 0x25 none (omega arith) tt tt (refl, tt) (omega arith)
state_cell spells outcome.Released = of_state spells 0x26 none (omega arith) tt tt (refl, tt) (omega arith)
state_cell spells (outcome.Modified false false) = of_state spells 0x27 none (omega arith) tt tt (refl, tt) (omega arith)
state_cell spells (outcome.Modified true false) = of_state spells 0x27 (flag_trees true false) (omega arith) (tt, tt) ((λ e. absurd (cc e), omega arith, omega arith), tt) (refl, (tt, tt)) (omega arith)
state_cell spells (outcome.Modified false true) =
    of_state spells 0x27 (flag_trees false true) (omega arith) (tt, (tt, tt)) ((λ e. absurd (cc e), omega arith, tt), ((λ e. absurd (cc e), omega arith, omega arith), tt)) (refl, (tt, (tt, tt))) (omega arith)
state_cell spells (outcome.Modified true true) =
    of_state spells 0x27 (flag_trees true true) (omega arith) (tt, (tt, tt)) ((λ e. absurd (cc e), omega arith, omega arith), ((λ e. absurd (cc e), omega arith, omega arith), tt)) (refl, (tt, (tt, tt))) (omega arith)

-- one id is first and last
same_last : (id : ℕ) → last_stated id id ≡ Absent
same_last id = ap (λ (b : Bool). cond b Absent (Whole id)) (eq-eqb id id refl)

disposition_may : Spelled → (id : ℕ) (settled : Bool) (o : Outcome) → id < 2 ^ 32 → MayBeSaid (disposition_said id id settled o)
disposition_may spells id settled o few = record {
  fields = disposition_fields;
  table = refl;
  each = (bool_cell true, (uint_cell id few, (rw (same_last id) refl, (bool_cell settled, (state_cell spells o, (refl, tt))))));
}

-- what is written for an outcome stands in its field
span_is : (o : Outcome) → span_in (span (outcome_span o)) ≡ outcome_span o
unfolding outcome_span
span_is outcome.Accepted = refl
span_is outcome.Rejected = refl
span_is outcome.Released = refl
span_is (outcome.Modified false false) = refl
span_is (outcome.Modified true false) = refl
span_is (outcome.Modified false true) = refl
span_is (outcome.Modified true true) = refl

flag_is : (b : Bool) → flag_in (flag b) ≡ b
flag_is true = refl
flag_is false = refl

module _ (law : TellsLaw) where
  tells : (x : Said) → MayBeSaid x → SaysAndTells x (performative_told x.type x.cells)
  tells x may = record { may = may; tells = λ few. law 0 x [] may (omega arith) few }

  pub opens : Spelled → OpenTells
  opens spells config channel_max text least most few = tells (open_said config channel_max) (open_may spells config channel_max text least most few)

  pub begins : BeginTells
  begins channel terms few window handles = tells (begin_said channel terms) (begin_may channel terms few window handles)

  pub attaches : Spelled → AttachTells
  attaches spells config name longest text few = tells (attach_said longest (attaching_of config name)) (attach_may spells config name longest text few)

  pub flows : FlowTells
  flows next window n w = tells (flow_said next window) (flow_may next window n w)

  pub link_flows : LinkFlowTells
  link_flows next window count credit drain n w c k =
      let x = link_flow_said next window 0 count credit drain in
      record {
        may = link_flow_may next window count credit drain n w c k;
        tells = λ few. law 0 x [] (link_flow_may next window count credit drain n w c k) (omega arith) few
            ∙ ap (λ (b : Bool). Flowed (record { next_incoming_id = next; incoming_window = window; of_link = true; delivery_count = count; link_credit = credit; drain = b; echo = false })) (flag_is drain);
      }

  pub dispositions : Spelled → ((o : Outcome) → outcome_of (outcome_span o) ≡ Some o) → DispositionTells
  dispositions spells found id settled o few = record {
    may = disposition_may spells id settled o few;
    tells = λ short. law 0 (disposition_said id id settled o) [] (disposition_may spells id settled o few) (omega arith) short
        ∙ ap (λ (c : Cell). disposed id (unwrap_or (number_in c) id) (flag_in (flag settled)) (outcome_of (span_in (span (outcome_span o))))) (same_last id)
        ∙ ap (λ (w : List ℕ). disposed id id (flag_in (flag settled)) (outcome_of w)) (span_is o)
        ∙ ap (λ (z : Option Outcome). disposed id id (flag_in (flag settled)) z) (found o);
  }
