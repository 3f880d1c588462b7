-- A body is read exactly where it says a performative.
use Rattle.std.proofs.Common.{◌≡◌, ℕ, ◌-◌, ◌≤◌, ◌&&◌, eqb, List, [], ◌∷◌, ◌++◌, length, drop, Some, None, Result, Ok, Err, refl, sym, ap, subst, ◌∙◌, append_assoc, arith}
use Rattle.std.specs.Prelude.{IfOk, IfErr, IsOkAnd}
use Rattle.std.proofs.lemmas.Bool.{and_parts, eqb-true}
use Rattle.std.proofs.lemmas.List.{append-nil, nil_from_length, length-append}
use Rattle.std.proofs.lemmas.Option.{same_Some, none-some, cond_some}
use Rattle.amqp_types.specs.InHand.{outermost}
use Rattle.amqp_types.specs.Reading.{Part, after, value_of}
use Rattle.amqp_types.specs.Trees.{Tree}
use Rattle.amqp_types.proofs.Octets.{IsBytes}
use Rattle.amqp_types.proofs.Fronts.{without_front}
use Rattle.amqp_types.proofs.Calls.{rest_found}
use Rattle.amqp_types.proofs.Misreads.{value_misread}
use Rattle.amqp_perform.specs.declared.descriptor.Descriptor.{Descriptor}
use Rattle.amqp_perform.specs.declared.fault.BodyFault.{BodyFault}
use Rattle.amqp_perform.specs.declared.performative.Performative.{Performative}
use Rattle.amqp_perform.specs.Bodies.{BodyOf, Body, IsFaultOf}
use Rattle.amqp_perform.specs.Cells.{Cell, ◌>>=◌, where_so}
use Rattle.amqp_perform.specs.Items.{Item, text_of, AreSpelled, SpellsDescribed}
use Rattle.amqp_perform.specs.BodyReading.{ListAt, descriptor_at, list_at, fields_at, described_at, performative_at, body_at, fault_by, fault_of, IsRead}
use Rattle.amqp_perform.specs.Performatives.{type_of, performative_cells}
use Rattle.amqp_perform.specs.Tables.{Field, fields_of}
use Rattle.amqp_perform.proofs.Steps.{bind_some, triple_is}
use Rattle.amqp_perform.proofs.ItemLaws.{DescribesAs, descriptor_found}
use Rattle.amqp_perform.proofs.FieldLaws.{AreItems, all_read, fields_found, fields_again}
use Rattle.amqp_perform.proofs.ListLaws.{BeginsWithList, list_found, described}

abbrev Says : Type 0
Says = Descriptor × List Cell × List ℕ

all_items : (d : Descriptor) (left : ℕ) (bytes : List ℕ) (cells : List Cell) → IsBytes bytes → performative_at d left bytes ≡ Some cells →
    (fs : List Field) × (fields_of d ≡ Some fs) × AreItems fs left bytes cells []
unfolding performative_at
all_items d left bytes cells fits e =
    let a = bind_some (fields_of d) (λ table. fields_at table left bytes >>= λ read. where_so (eqb read.1 0 && eqb (length read.2) 0) read.0) cells e in
    let b = bind_some (fields_at a.0 left bytes) (λ read. where_so (eqb read.1 0 && eqb (length read.2) 0) read.0) cells a.2 in
    let w = cond_some (eqb b.0.1 0 && eqb (length b.0.2) 0) b.0.0 cells b.2 in
    let both = and_parts (eqb b.0.1 0) (eqb (length b.0.2) 0) w.0 in
    let none = nil_from_length b.0.2 (eqb-true (length b.0.2) 0 both.1) in
    let read = all_read (fields_at a.0 left bytes) b.0.0 b.0.1 b.0.2 [] b.1 (eqb-true b.0.1 0 both.0) none in
    (a.0, a.1, subst (λ (cs : List Cell). AreItems a.0 left bytes cs []) w.1 (fields_found a.0 left bytes b.0.0 [] fits read))

-- whichever items they are, so many with these bytes, the list of them is spelled, described as of the type
record IsListed (bytes : List ℕ) (d : Descriptor) (list : ListAt) : Type 0 where
  text : List ℕ
  parts : bytes ≡ text ++ list.behind
  spelled : (xs : List Item) → length xs ≡ list.count → text_of xs ≡ list.items → AreSpelled xs → SpellsDescribed d xs text
  items_fit : IsBytes list.items

listed : (bytes : List ℕ) (d : Descriptor) (rest : List ℕ) (list : ListAt) → DescribesAs bytes d rest → BeginsWithList rest list → IsListed bytes d list
listed bytes d rest list first second = record {
  text = 0 ∷ (first.text ++ second.text);
  parts = first.parts ∙ ap (λ (r : List ℕ). 0 ∷ (first.text ++ r)) second.parts ∙ ap (λ (r : List ℕ). 0 ∷ r) (sym (append_assoc first.text second.text list.behind));
  spelled = λ xs count text all. (first.tree, first.text, second.text, refl, first.spelled, first.describes, second.spelled xs count text all);
  items_fit = second.items_fit;
}

described_found : (bytes : List ℕ) (x : Descriptor × ListAt) → IsBytes bytes → described_at bytes ≡ Some x → IsListed bytes x.0 x.1
unfolding described_at
described_found bytes x fits e =
    let a = bind_some (descriptor_at bytes) (λ d. list_at d.1 >>= λ list. Some (d.0, list)) x e in
    let b = bind_some (list_at a.0.1) (λ list. Some (a.0.0, list)) x a.2 in
    let first = descriptor_found bytes a.0 fits a.1 in
    subst (λ (y : Descriptor × ListAt). IsListed bytes y.0 y.1) (same_Some (a.0.0, b.0) x b.2) (listed bytes a.0.0 a.0.1 b.0 first (list_found a.0.1 b.0 first.rest_fits b.1))

says : (bytes : List ℕ) (d : Descriptor) (list : ListAt) (fs : List Field) (cells : List Cell) → IsListed bytes d list → fields_of d ≡ Some fs → AreItems fs list.count list.items cells [] →
    BodyOf bytes d cells list.behind
says bytes d list fs cells is table are =
    let text : text_of are.items ≡ list.items = sym (are.parts ∙ append-nil (text_of are.items)) in
    (fs, are.items, is.text, table, is.parts, is.spelled are.items are.count text are.spelled, omega (arith, are.deep), are.cells_are)

body_is : (bytes : List ℕ) (x : Says) → IsBytes bytes → body_at bytes ≡ Some x → BodyOf bytes x.0 x.1 x.2
unfolding body_at
body_is bytes x fits e =
    let a = bind_some (described_at bytes) (λ list. performative_at list.0 list.1.count list.1.items >>= λ cells. Some (list.0, cells, list.1.behind)) x e in
    let b = bind_some (performative_at a.0.0 a.0.1.count a.0.1.items) (λ cells. Some (a.0.0, cells, a.0.1.behind)) x a.2 in
    let list = described_found bytes a.0 fits a.1 in
    let fields = all_items a.0.0 a.0.1.count a.0.1.items b.0 list.items_fit b.1 in
    subst (λ (y : Says). BodyOf bytes y.0 y.1 y.2) (same_Some (a.0.0, b.0, a.0.1.behind) x b.2) (says bytes a.0.0 a.0.1 fields.0 b.0 list fields.1 fields.2)

-- what is read of a body is what it says
pub body_found : (bytes : List ℕ) (d : Descriptor) (cells : List Cell) (payload : List ℕ) → IsBytes bytes → body_at bytes ≡ Some (d, cells, payload) → BodyOf bytes d cells payload
body_found bytes d cells payload fits e = body_is bytes (d, cells, payload) fits e

-- and whatever a body says is read
pub body_only : (bytes : List ℕ) (d : Descriptor) (cells : List Cell) (payload : List ℕ) → BodyOf bytes d cells payload → body_at bytes ≡ Some (d, cells, payload)
unfolding body_at described_at performative_at
body_only bytes d cells payload (fields, items, text, table, parts, spelled, deep, are) =
    let list = described d items text payload spelled in
    let read : fields_at fields (length items) (text_of items) ≡ Some (cells, 0, []) =
    ap (fields_at fields (length items)) (sym (append-nil (text_of items))) ∙ fields_again fields items cells [] list.spelled (omega (arith, deep)) are in
    rw (parts, list.head, list.list, table, read) refl

-- Faults. -------------------------------------------------------------------------------------------------------------

-- a body of which nothing is read has the fault that is answered
pub faults : (bytes : List ℕ) → IsBytes bytes → body_at bytes ≡ None → IsFaultOf bytes (fault_of bytes)
unfolding fault_of
faults bytes fits none = by (value_of 32 None bytes) refl
  where
    by : (read : Part Tree) → value_of 32 None bytes ≡ read → IsFaultOf bytes (fault_by (after read))
    by (Ok x) is =
        let s = rest_found 32 bytes x.2 fits (ap after is) in
        record {
          spelled = (s.0, s.1, x.2, s.2, s.4, s.3);
          none = λ d cells payload body. none-some (d, cells, payload) (sym none ∙ body_only bytes d cells payload body);
        }
    by (Err e) is = value_misread 32 (outermost bytes) 1 None bytes e fits is

-- What read_body answers. ---------------------------------------------------------------------------------------------

-- the payload is the end of the bytes
pub payload_behind : (bytes : List ℕ) (d : Descriptor) (cells : List Cell) (payload : List ℕ) → IsBytes bytes → body_at bytes ≡ Some (d, cells, payload)
    → (length payload ≤ length bytes) × (drop (length bytes - length payload) bytes ≡ payload)
payload_behind bytes d cells payload fits e =
    let b = body_found bytes d cells payload fits e in
    (omega (arith, ap length b.4, length-append b.2 payload), without_front bytes b.2 payload b.4)

-- the same of what a call answers
pub read_found : (bytes : List ℕ) (r : Result (Performative × ℕ) BodyFault) → IsBytes bytes → IsRead bytes r → IfOk r (λ x. Body bytes x.0 (drop x.1 bytes))
read_found bytes (Ok x) fits is = body_found bytes (type_of x.0) (performative_cells x.0) (drop x.1 bytes) fits is
read_found bytes (Err e) fits is = tt

-- the same of a call, where a body says something
pub read_only : (bytes : List ℕ) (r : Result (Performative × ℕ) BodyFault) (d : Descriptor) (cells : List Cell) (payload : List ℕ) → IsRead bytes r → BodyOf bytes d cells payload
    → IsOkAnd r (λ x. (type_of x.0 ≡ d) × (performative_cells x.0 ≡ cells) × (drop x.1 bytes ≡ payload))
read_only bytes (Ok x) d cells payload is body =
    triple_is (type_of x.0) d (performative_cells x.0) cells (drop x.1 bytes) payload (sym is ∙ body_only bytes d cells payload body)
read_only bytes (Err e) d cells payload is body = absurd (none-some (d, cells, payload) (sym is.0 ∙ body_only bytes d cells payload body))

-- the same of a call, where it answers a fault
pub read_fault : (bytes : List ℕ) (r : Result (Performative × ℕ) BodyFault) → IsBytes bytes → IsRead bytes r → IfErr r (IsFaultOf bytes)
read_fault bytes (Ok x) fits is = tt
read_fault bytes (Err e) fits is = subst (IsFaultOf bytes) (sym is.1) (faults bytes fits is.0)
