-- The texts of entries, which are read in one way.
use Rattle.std.proofs.Common.{◌≡◌, ℕ, ◌<◌, ◌≤◌, ◌^◌, arith, List, [], ◌∷◌, ◌++◌, length, length-append, get_or, take, drop, refl, sym, ap, ◌∙◌, append_assoc}
use Rattle.std.proofs.lemmas.List.{take_at, drop_at}
use Rattle.std.proofs.lemmas.Nat.{from_be_bytes-to_be_bytes_2, from_be_bytes-to_be_bytes_4, from_be_bytes-to_be_bytes_8}
use Rattle.std.specs.Int.{w16, w32, w64, to_be_bytes, from_be_bytes}
use Rattle.std.specs.List.{flat_map}
use Rattle.amqp_spool.specs.Entries.{Introduced, IsIntroduced, Recorded, IsRecorded, short, long, introduction, record_entry, Entry, Introduction, Record, IsEntry, entry_text, BeginsEntry, AreEntries, IsBody}
use Rattle.amqp_spool.specs.EntryReading.{IsWhole}

-- Parts of a text. ----------------------------------------------------------------------------------------------------

pub same_fronts : (a b c d : List ℕ) → length a ≡ length b → a ++ c ≡ b ++ d → (a ≡ b) × (c ≡ d)
same_fronts a b c d long e = (
  sym (take_at a c (length b) long) ∙ ap (λ (l : List ℕ). take (length b) l) e ∙ take_at b d (length b) refl,
  sym (drop_at a c (length b) long) ∙ ap (λ (l : List ℕ). drop (length b) l) e ∙ drop_at b d (length b) refl,
)

pub same_bytes : (n m : ℕ) (c d : List ℕ) → n ∷ c ≡ m ∷ d → (n ≡ m) × (c ≡ d)
same_bytes n m c d e = (ap (λ (l : List ℕ). get_or l 0 0) e, ap (λ (l : List ℕ). drop 1 l) e)

pub same_words16 : (n m : ℕ) (c d : List ℕ) → n < 2 ^ 16 → m < 2 ^ 16 → to_be_bytes w16 n ++ c ≡ to_be_bytes w16 m ++ d → (n ≡ m) × (c ≡ d)
same_words16 n m c d p q e =
    let x = same_fronts (to_be_bytes w16 n) (to_be_bytes w16 m) c d refl e in
    (sym (from_be_bytes-to_be_bytes_2 n p) ∙ ap (λ (l : List ℕ). from_be_bytes w16 l) x.0 ∙ from_be_bytes-to_be_bytes_2 m q, x.1)

pub same_words32 : (n m : ℕ) (c d : List ℕ) → n < 2 ^ 32 → m < 2 ^ 32 → to_be_bytes w32 n ++ c ≡ to_be_bytes w32 m ++ d → (n ≡ m) × (c ≡ d)
same_words32 n m c d p q e =
    let x = same_fronts (to_be_bytes w32 n) (to_be_bytes w32 m) c d refl e in
    (sym (from_be_bytes-to_be_bytes_4 n p) ∙ ap (λ (l : List ℕ). from_be_bytes w32 l) x.0 ∙ from_be_bytes-to_be_bytes_4 m q, x.1)

pub same_words64 : (n m : ℕ) (c d : List ℕ) → n < 2 ^ 64 → m < 2 ^ 64 → to_be_bytes w64 n ++ c ≡ to_be_bytes w64 m ++ d → (n ≡ m) × (c ≡ d)
same_words64 n m c d p q e =
    let x = same_fronts (to_be_bytes w64 n) (to_be_bytes w64 m) c d refl e in
    (sym (from_be_bytes-to_be_bytes_8 n p) ∙ ap (λ (l : List ℕ). from_be_bytes w64 l) x.0 ∙ from_be_bytes-to_be_bytes_8 m q, x.1)

pub same_shorts : (x y c d : List ℕ) → short x ++ c ≡ short y ++ d → (x ≡ y) × (c ≡ d)
same_shorts x y c d e =
    let p = same_bytes (length x) (length y) (x ++ c) (y ++ d) e in
    same_fronts x y c d p.0 p.1

pub same_longs : (x y c d : List ℕ) → length x < 2 ^ 16 → length y < 2 ^ 16 → long x ++ c ≡ long y ++ d → (x ≡ y) × (c ≡ d)
same_longs x y c d l m e =
    let p = same_words16 (length x) (length y) (x ++ c) (y ++ d) l m (sym (append_assoc (to_be_bytes w16 (length x)) x c) ∙ e ∙ append_assoc (to_be_bytes w16 (length y)) y d) in
    same_fronts x y c d p.0 p.1

-- Introductions. ------------------------------------------------------------------------------------------------------

-- the text of an introduction from a part on, and what is behind it
abbrev pub from_target : Introduced → List ℕ → List ℕ
from_target i r = long i.target ++ r

abbrev pub from_kind : Introduced → List ℕ → List ℕ
from_kind i r = i.kind ∷ from_target i r

abbrev pub from_user : Introduced → List ℕ → List ℕ
from_user i r = short i.user ++ from_kind i r

abbrev pub from_name : Introduced → List ℕ → List ℕ
from_name i r = short i.name ++ from_user i r

abbrev pub from_container : Introduced → List ℕ → List ℕ
from_container i r = short i.container ++ from_name i r

abbrev pub from_peer : Introduced → List ℕ → List ℕ
from_peer i r = short i.peer ++ from_container i r

abbrev pub from_connection : Introduced → List ℕ → List ℕ
from_connection i r = to_be_bytes w64 i.connection ++ from_peer i r

abbrev pub from_link : Introduced → List ℕ → List ℕ
from_link i r = to_be_bytes w32 i.link ++ from_connection i r

eight_parts : (a b c d e f g r : List ℕ) → a ++ b ++ c ++ d ++ e ++ f ++ g ++ r ≡ a ++ (b ++ (c ++ (d ++ (e ++ (f ++ (g ++ r))))))
eight_parts a b c d e f g r = simp append_assoc

pub introduction_parts : (i : Introduced) (r : List ℕ) → introduction i ++ r ≡ 1 ∷ from_link i r
unfolding introduction
introduction_parts i r = eight_parts (1 ∷ to_be_bytes w32 i.link) (to_be_bytes w64 i.connection) (short i.peer) (short i.container) (short i.name) (short i.user) (i.kind ∷ long i.target) r

abbrev introduced_with : ℕ → ℕ → List ℕ → List ℕ → List ℕ → List ℕ → ℕ → List ℕ → Introduced
introduced_with link connection peer container name user kind target =
    record { link = link; connection = connection; peer = peer; container = container; name = name; user = user; kind = kind; target = target }

pub same_introductions : (i j : Introduced) (r s : List ℕ) → IsIntroduced i → IsIntroduced j → introduction i ++ r ≡ introduction j ++ s → (i ≡ j) × (r ≡ s)
same_introductions i j r s is js e =
    let whole = same_bytes 1 1 (from_link i r) (from_link j s) (sym (introduction_parts i r) ∙ e ∙ introduction_parts j s) in
    let link = same_words32 i.link j.link (from_connection i r) (from_connection j s) is.link js.link whole.1 in
    let connection = same_words64 i.connection j.connection (from_peer i r) (from_peer j s) is.connection js.connection link.1 in
    let peer = same_shorts i.peer j.peer (from_container i r) (from_container j s) connection.1 in
    let container = same_shorts i.container j.container (from_name i r) (from_name j s) peer.1 in
    let name = same_shorts i.name j.name (from_user i r) (from_user j s) container.1 in
    let user = same_shorts i.user j.user (from_kind i r) (from_kind j s) name.1 in
    let kind = same_bytes i.kind j.kind (from_target i r) (from_target j s) user.1 in
    let target = same_longs i.target j.target r s (omega (arith, is.target)) (omega (arith, js.target)) kind.1 in (
      ap (λ (x : ℕ). introduced_with x i.connection i.peer i.container i.name i.user i.kind i.target) link.0
          ∙ ap (λ (x : ℕ). introduced_with j.link x i.peer i.container i.name i.user i.kind i.target) connection.0
          ∙ ap (λ (x : List ℕ). introduced_with j.link j.connection x i.container i.name i.user i.kind i.target) peer.0
          ∙ ap (λ (x : List ℕ). introduced_with j.link j.connection j.peer x i.name i.user i.kind i.target) container.0
          ∙ ap (λ (x : List ℕ). introduced_with j.link j.connection j.peer j.container x i.user i.kind i.target) name.0
          ∙ ap (λ (x : List ℕ). introduced_with j.link j.connection j.peer j.container j.name x i.kind i.target) user.0
          ∙ ap (λ (x : ℕ). introduced_with j.link j.connection j.peer j.container j.name j.user x i.target) kind.0
          ∙ ap (λ (x : List ℕ). introduced_with j.link j.connection j.peer j.container j.name j.user j.kind x) target.0,
      target.1,
    )

pub introductions_short : (i : Introduced) → IsIntroduced i → length (introduction i) ≤ 1867
introductions_short i is =
    let text = introduction i in
    let parts = ap (λ (l : List ℕ). length l) (introduction_parts i []) in
    omega (
      arith,
      parts,
      is.peer,
      is.container,
      is.name,
      is.user,
      is.target,
      length-append text [],
      length-append (to_be_bytes w32 i.link) (from_connection i []),
      length-append (to_be_bytes w64 i.connection) (from_peer i []),
      length-append i.peer (from_container i []),
      length-append i.container (from_name i []),
      length-append i.name (from_user i []),
      length-append i.user (from_kind i []),
      length-append (long i.target) [],
      length-append (to_be_bytes w16 (length i.target)) i.target,
    )

-- Records. ------------------------------------------------------------------------------------------------------------

-- a record is whole, and a text is one record at most
pub whole_in : (r : Recorded) → IsRecorded r → IsWhole r.record
whole_in r is = record { message = is.message; small = is.small; front = is.front; long = is.long; whole = is.whole }

abbrev pub from_length : List ℕ → List ℕ → List ℕ
from_length message rest = to_be_bytes w32 (length message) ++ (message ++ rest)

pub whole_parts : (bytes : List ℕ) (is : IsWhole bytes) (rest : List ℕ) → bytes ++ rest ≡ is.front ++ from_length is.message rest
whole_parts bytes is rest =
    let n = to_be_bytes w32 (length is.message) in
    ap (λ (l : List ℕ). l ++ rest) is.whole ∙ append_assoc (is.front ++ n) is.message rest ∙ append_assoc is.front n (is.message ++ rest)

pub same_records : (a b c d : List ℕ) → IsWhole a → IsWhole b → a ++ c ≡ b ++ d → (a ≡ b) × (c ≡ d)
same_records a b c d is js e =
    let all = sym (whole_parts a is c) ∙ e ∙ whole_parts b js d in
    let front = same_fronts is.front js.front (from_length is.message c) (from_length js.message d) (is.long ∙ sym js.long) all in
    let size = same_words32 (length is.message) (length js.message) (is.message ++ c) (js.message ++ d) is.small js.small front.1 in
    let message = same_fronts is.message js.message c d size.0 size.1 in (
      is.whole ∙ ap (λ (l : List ℕ). l ++ to_be_bytes w32 (length is.message) ++ is.message) front.0 ∙ ap (λ (l : List ℕ). js.front ++ to_be_bytes w32 (length l) ++ l) message.0 ∙ sym js.whole,
      message.1,
    )

abbrev pub from_record : Recorded → List ℕ → List ℕ
from_record r rest = r.record ++ rest

abbrev pub from_tag : Recorded → List ℕ → List ℕ
from_tag r rest = short r.tag ++ from_record r rest

three_parts : (a b c r : List ℕ) → a ++ b ++ c ++ r ≡ a ++ (b ++ (c ++ r))
three_parts a b c r = simp append_assoc

pub record_parts : (r : Recorded) (rest : List ℕ) → record_entry r ++ rest ≡ 2 ∷ (to_be_bytes w32 r.link ++ from_tag r rest)
unfolding record_entry
record_parts r rest = three_parts (2 ∷ to_be_bytes w32 r.link) (short r.tag) r.record rest

abbrev recorded_with : ℕ → List ℕ → List ℕ → Recorded
recorded_with link tag bytes = record { link = link; tag = tag; «record» = bytes }

pub same_recordings : (r s : Recorded) (c d : List ℕ) → IsRecorded r → IsRecorded s → record_entry r ++ c ≡ record_entry s ++ d → (r ≡ s) × (c ≡ d)
same_recordings r s c d is js e =
    let whole = same_bytes 2 2 (to_be_bytes w32 r.link ++ from_tag r c) (to_be_bytes w32 s.link ++ from_tag s d) (sym (record_parts r c) ∙ e ∙ record_parts s d) in
    let link = same_words32 r.link s.link (from_tag r c) (from_tag s d) is.link js.link whole.1 in
    let tag = same_shorts r.tag s.tag (from_record r c) (from_record s d) link.1 in
    let bytes = same_records r.record s.record c d (whole_in r is) (whole_in s js) tag.1 in (
      ap (λ (x : ℕ). recorded_with x r.tag r.record) link.0 ∙ ap (λ (x : List ℕ). recorded_with s.link x r.record) tag.0 ∙ ap (λ (x : List ℕ). recorded_with s.link s.tag x) bytes.0,
      bytes.1,
    )

-- Entries. ------------------------------------------------------------------------------------------------------------

-- the first byte says which
other_kind : (i : Introduced) (r : Recorded) (c d : List ℕ) → introduction i ++ c ≡ record_entry r ++ d → ⊥
other_kind i r c d e =
    let first = same_bytes 1 2 (from_link i c) (to_be_bytes w32 r.link ++ from_tag r d) (sym (introduction_parts i c) ∙ e ∙ record_parts r d) in
    omega (arith, first.0)

pub same_entries : (e f : Entry) (c d : List ℕ) → IsEntry e → IsEntry f → entry_text e ++ c ≡ entry_text f ++ d → (e ≡ f) × (c ≡ d)
same_entries (Introduction i) (Introduction j) c d is js e =
    let x = same_introductions i j c d is js e in
    (ap (λ (y : Introduced). Introduction y) x.0, x.1)
same_entries (Introduction i) (Record s) c d is js e = absurd (other_kind i s c d e)
same_entries (Record r) (Introduction j) c d is js e = absurd (other_kind j r d c (sym e))
same_entries (Record r) (Record s) c d is js e =
    let x = same_recordings r s c d is js e in
    (ap (λ (y : Recorded). Record y) x.0, x.1)

pub one_entry : (bytes rest other : List ℕ) (e f : Entry) → BeginsEntry bytes e rest → BeginsEntry bytes f other → (e ≡ f) × (rest ≡ other)
one_entry bytes rest other e f x y = same_entries e f rest other x.is y.is (sym x.whole ∙ y.whole)

-- an entry has a byte
some_byte : (e : Entry) (c : List ℕ) → [] ≡ entry_text e ++ c → ⊥
some_byte (Introduction i) c e = let x = ap (λ (l : List ℕ). length l) (e ∙ introduction_parts i c) in omega (arith, x)
some_byte (Record r) c e = let x = ap (λ (l : List ℕ). length l) (e ∙ record_parts r c) in omega (arith, x)

same_lists_of : (es fs : List Entry) → AreEntries es → AreEntries fs → flat_map entry_text es ≡ flat_map entry_text fs → es ≡ fs
same_lists_of [] [] are others e = refl
same_lists_of [] (f ∷ fs) are others e = absurd (some_byte f (flat_map entry_text fs) e)
same_lists_of (g ∷ es) [] are others e = absurd (some_byte g (flat_map entry_text es) (sym e))
same_lists_of (g ∷ es) (f ∷ fs) are others e =
    let x = same_entries g f (flat_map entry_text es) (flat_map entry_text fs) are.0 others.0 e in
    ap (λ (y : Entry). y ∷ es) x.0 ∙ ap (λ (ys : List Entry). f ∷ ys) (same_lists_of es fs are.1 others.1 x.1)

pub one_list : (body : List ℕ) (es fs : List Entry) → IsBody body es → IsBody body fs → es ≡ fs
one_list body es fs x y = same_lists_of es fs x.are y.are (sym x.whole ∙ y.whole)

-- Writing. ------------------------------------------------------------------------------------------------------------

written : (o l c p q n u t : List ℕ) (k : ℕ) → o ++ 1 ∷ [] ++ l ++ c ++ p ++ q ++ n ++ u ++ k ∷ [] ++ t ≡ o ++ (1 ∷ l ++ c ++ p ++ q ++ n ++ u ++ k ∷ t)
written o l c p q n u t k = simp append_assoc

pub introduction_written : (o : List ℕ) (i : Introduced) → o ++ 1 ∷ [] ++ to_be_bytes w32 i.link ++ to_be_bytes w64 i.connection ++ short i.peer ++ short i.container ++ short i.name ++ short i.user ++ i.kind ∷ [] ++ long i.target ≡ o ++ introduction i
unfolding introduction
introduction_written o i = written o (to_be_bytes w32 i.link) (to_be_bytes w64 i.connection) (short i.peer) (short i.container) (short i.name) (short i.user) (long i.target) i.kind
