-- Where what a report speaks of is, in the bytes that begin with it.
use Rattle.std.proofs.Common.{◌≡◌, ℕ, ◌+◌, ◌-◌, ◌≤◌, arith, List, ◌∷◌, ◌++◌, length, length-append, take, drop, refl, sym, ap, subst, ◌∙◌, append_assoc}
use Rattle.std.proofs.lemmas.List.{take_at, drop_at, drop-drop}
use Rattle.std.specs.Int.{w16, w32, w64, to_be_bytes}
use Rattle.amqp_spool.specs.declared.batch_head.BatchHead.{BatchHead}
use Rattle.amqp_spool.specs.Batches.{Batch, Follows}
use Rattle.amqp_spool.specs.Entries.{Introduced, Recorded, Entry, Introduction, Record, BeginsEntry, introduction, record_entry, long}
use Rattle.amqp_spool.specs.Heads.{BeginsBatch, batch_front, batch_head}
use Rattle.amqp_spool.proofs.EntryTexts.{from_connection, from_peer, from_container, from_name, from_user, from_kind, introduction_parts, from_tag, from_record, record_parts}
use Rattle.wuleshomia.specs.declared.data.SpoolBatch.{SpoolBatch}
use Rattle.wuleshomia.specs.Spools.{batch_in, HasBatch, introduction_report, record_report, report_of, entry_at, HasEntry}

-- Parts. --------------------------------------------------------------------------------------------------------------

-- a part that begins what is left after so many bytes
part_is : (bytes text tail : List ℕ) (at : ℕ) → drop at bytes ≡ text ++ tail → take (length text) (drop at bytes) ≡ text
part_is bytes text tail at e = ap (λ (l : List ℕ). take (length text) l) e ∙ take_at text tail (length text) refl

-- and what is left after it, and after so many bytes more
behind : (bytes text tail : List ℕ) (at : ℕ) → drop at bytes ≡ text ++ tail → drop (at + length text) bytes ≡ tail
behind bytes text tail at e = sym (drop-drop (length text) at bytes) ∙ ap (λ (l : List ℕ). drop (length text) l) e ∙ drop_at text tail (length text) refl

further : (bytes text tail : List ℕ) (at n : ℕ) → drop at bytes ≡ text ++ tail → drop (at + length text + n) bytes ≡ drop n tail
further bytes text tail at n e = sym (drop-drop n (at + length text) bytes) ∙ ap (λ (l : List ℕ). drop n l) (behind bytes text tail at e)

-- Introductions. ------------------------------------------------------------------------------------------------------

module _ (bytes rest : List ℕ) (i : Introduced) (e : bytes ≡ introduction i ++ rest) where
  all : bytes ≡ 1 ∷ (to_be_bytes w32 i.link ++ from_connection i rest)
  all = e ∙ introduction_parts i rest

  at_peer : drop 14 bytes ≡ i.peer ++ from_container i rest
  at_peer = ap (λ (l : List ℕ). drop 14 l) all

  abbrev container : ℕ
  container = 14 + length i.peer + 1

  at_container : drop container bytes ≡ i.container ++ from_name i rest
  at_container = further bytes i.peer (from_container i rest) 14 1 at_peer

  abbrev name : ℕ
  name = container + length i.container + 1

  at_name : drop name bytes ≡ i.name ++ from_user i rest
  at_name = further bytes i.container (from_name i rest) container 1 at_container

  abbrev user : ℕ
  user = name + length i.name + 1

  at_user : drop user bytes ≡ i.user ++ from_kind i rest
  at_user = further bytes i.name (from_user i rest) name 1 at_name

  abbrev target : ℕ
  target = user + length i.user + 3

  at_target : drop target bytes ≡ i.target ++ rest
  at_target = further bytes i.user (from_kind i rest) user 3 at_user

  at_rest : drop (target + length i.target) bytes ≡ rest
  at_rest = behind bytes i.target rest target at_target

  introduced_long : target + length i.target ≤ length bytes
  introduced_long =
      let parts = ap (λ (l : List ℕ). length l) all in
      omega (
        arith,
        parts,
        length-append (to_be_bytes w32 i.link) (from_connection i rest),
        length-append (to_be_bytes w64 i.connection) (from_peer i rest),
        length-append i.peer (from_container i rest),
        length-append i.container (from_name i rest),
        length-append i.name (from_user i rest),
        length-append i.user (from_kind i rest),
        length-append (long i.target) rest,
        length-append (to_be_bytes w16 (length i.target)) i.target,
      )

  abbrev introduced_with : List ℕ → List ℕ → List ℕ → List ℕ → List ℕ → Entry
  introduced_with peer container name user target =
      Introduction (record { link = i.link; connection = i.connection; peer = peer; container = container; name = name; user = user; kind = i.kind; target = target })

  introduced_same : entry_at bytes (introduction_report i) ≡ Introduction i
  introduced_same =
      let peer_of = take (length i.peer) (drop 14 bytes) in
      let container_of = take (length i.container) (drop container bytes) in
      let name_of = take (length i.name) (drop name bytes) in
      let user_of = take (length i.user) (drop user bytes) in
      let target_of = take (length i.target) (drop target bytes) in
      ap (λ (x : List ℕ). introduced_with x container_of name_of user_of target_of) (part_is bytes i.peer (from_container i rest) 14 at_peer)
      ∙ ap (λ (x : List ℕ). introduced_with i.peer x name_of user_of target_of) (part_is bytes i.container (from_name i rest) container at_container)
      ∙ ap (λ (x : List ℕ). introduced_with i.peer i.container x user_of target_of) (part_is bytes i.name (from_user i rest) name at_name)
      ∙ ap (λ (x : List ℕ). introduced_with i.peer i.container i.name x target_of) (part_is bytes i.user (from_kind i rest) user at_user)
      ∙ ap (λ (x : List ℕ). introduced_with i.peer i.container i.name i.user x) (part_is bytes i.target rest target at_target)

-- Records. ------------------------------------------------------------------------------------------------------------

module _ (bytes rest : List ℕ) (r : Recorded) (e : bytes ≡ record_entry r ++ rest) where
  parts : bytes ≡ 2 ∷ (to_be_bytes w32 r.link ++ from_tag r rest)
  parts = e ∙ record_parts r rest

  at_tag : drop 6 bytes ≡ r.tag ++ from_record r rest
  at_tag = ap (λ (l : List ℕ). drop 6 l) parts

  at_record : drop (6 + length r.tag) bytes ≡ r.«record» ++ rest
  at_record = behind bytes r.tag (from_record r rest) 6 at_tag

  after_record : drop (6 + length r.tag + length r.«record») bytes ≡ rest
  after_record = behind bytes r.«record» rest (6 + length r.tag) at_record

  recorded_long : 6 + length r.tag + length r.«record» ≤ length bytes
  recorded_long =
      let long_parts = ap (λ (l : List ℕ). length l) parts in
      omega (arith, long_parts, length-append (to_be_bytes w32 r.link) (from_tag r rest), length-append r.tag (from_record r rest), length-append r.«record» rest)

  abbrev recorded_with : List ℕ → List ℕ → Entry
  recorded_with tag bytes = Record (record { link = r.link; tag = tag; «record» = bytes })

  recorded_same : entry_at bytes (record_report r) ≡ Record r
  recorded_same =
      ap (λ (x : List ℕ). recorded_with x (take (length r.«record») (drop (6 + length r.tag) bytes))) (part_is bytes r.tag (from_record r rest) 6 at_tag)
      ∙ ap (λ (x : List ℕ). recorded_with r.tag x) (part_is bytes r.«record» rest (6 + length r.tag) at_record)

-- Entries. ------------------------------------------------------------------------------------------------------------

same_begins : (bytes rest left : List ℕ) (e f : Entry) → BeginsEntry bytes e rest → f ≡ e → left ≡ rest → BeginsEntry bytes f left
same_begins bytes rest left e f x same is =
    subst (λ (g : Entry). BeginsEntry bytes g left) (sym same) (subst (λ (l : List ℕ). BeginsEntry bytes e l) (sym is) x)

pub has_entry : (bytes rest : List ℕ) (e : Entry) → BeginsEntry bytes e rest → HasEntry bytes (report_of e)
has_entry bytes rest (Introduction i) x =
    let same = introduced_same bytes rest i x.whole in
    let whole = introduced_long bytes rest i x.whole in
    record {
      begins = same_begins bytes rest _ (Introduction i) _ x same (at_rest bytes rest i x.whole);
      same = ap (λ (e : Entry). report_of e) (sym same);
      within = whole;
      parts = (omega (arith, whole), omega (arith, whole), omega (arith, whole), omega (arith, whole), omega (arith, whole), omega (arith, whole), omega (arith, whole));
    }
has_entry bytes rest (Record r) x =
    let same = recorded_same bytes rest r x.whole in
    let whole = recorded_long bytes rest r x.whole in
    record {
      begins = same_begins bytes rest _ (Record r) _ x same (after_record bytes rest r x.whole);
      same = ap (λ (e : Entry). report_of e) (sym same);
      within = whole;
      parts = (omega (arith, whole), omega (arith, whole), omega (arith, whole), omega (arith, whole), omega (arith, whole), omega (arith, whole), omega (arith, whole));
    }

-- Batches. ------------------------------------------------------------------------------------------------------------

batch_head_long : (secret : List ℕ) (h : BatchHead) (body : List ℕ) → length (batch_head secret h body) ≡ 32
unfolding batch_head batch_front
batch_head_long secret h body = refl

abbrev batch_with : BatchHead → ℕ → List ℕ → Batch
batch_with h size body = record { head = record { size = size; count = h.count; first = h.first; arrived = h.arrived }; body = body }

abbrev batch_report : BatchHead → SpoolBatch
batch_report h = record { len = 32 + h.size; first = h.first; arrived = h.arrived; count = h.count; reserved = 0 }

module _ (secret bytes : List ℕ) (b : Batch) (x : BeginsBatch secret bytes b.head b.body) where
  abbrev front : List ℕ
  front = batch_head secret b.head b.body

  split : bytes ≡ front ++ (b.body ++ x.rest)
  split = x.whole ∙ append_assoc front b.body x.rest

  at_body : drop 32 bytes ≡ b.body ++ x.rest
  at_body = ap (λ (l : List ℕ). drop 32 l) split ∙ drop_at front (b.body ++ x.rest) 32 (batch_head_long secret b.head b.body)

  batch_long : 32 + b.head.size ≤ length bytes
  batch_long =
      let whole = ap (λ (l : List ℕ). length l) split in
      omega (arith, whole, batch_head_long secret b.head b.body, x.is.size, length-append front (b.body ++ x.rest), length-append b.body x.rest)

  size_is : 32 + b.head.size - 32 ≡ b.head.size
  size_is = omega arith

  batch_same : batch_in bytes (batch_report b.head) ≡ b
  batch_same =
      ap (λ (n : ℕ). batch_with b.head n (take n (drop 32 bytes))) size_is
      ∙ ap (λ (l : List ℕ). batch_with b.head b.head.size l) (ap (λ (n : ℕ). take n (drop 32 bytes)) x.is.size ∙ part_is bytes b.body x.rest 32 at_body)

pub has_batch : (secret bytes : List ℕ) (number : ℕ) (b : Batch) → Follows number b → BeginsBatch secret bytes b.head b.body → HasBatch secret number bytes (batch_report b.head)
has_batch secret bytes number b f x =
    let same = batch_same secret bytes b x in
    record {
      follows = subst (λ (c : Batch). Follows number c) (sym same) f;
      begins = subst (λ (c : Batch). BeginsBatch secret bytes c.head c.body) (sym same) x;
      some = omega arith;
      within = batch_long secret bytes b x;
      rest = refl;
    }
