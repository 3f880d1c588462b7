-- What bytes that begin with an entry have behind each part of it.
use Rattle.std.proofs.Common.{◌≡◌, ℕ, ◌+◌, ◌<◌, ◌≤◌, ◌^◌, ◌≢◌, arith, List, ◌∷◌, ◌++◌, length, length-append, refl, sym, ap, ◌∙◌, append_assoc}
use Rattle.std.specs.Int.{w32, w64, to_be_bytes}
use Rattle.amqp_spool.specs.Entries.{Introduced, IsIntroduced, Recorded, short, long, Entry, Introduction, Record, BeginsEntry}
use Rattle.amqp_spool.specs.EntryReading.{IsWhole, GoesOnIntroducing, GoesOnRecording}
use Rattle.amqp_spool.proofs.EntryTexts.{same_fronts, same_bytes, same_words32, same_words64, same_shorts, from_link, from_connection, from_peer, from_container, from_name, from_user, from_kind, introduction_parts, from_length, whole_parts, from_tag, record_parts}

-- behind a part that was read
pub behind8 : (bytes a b : List ℕ) (n m : ℕ) → bytes ≡ n ∷ a → bytes ≡ m ∷ b → a ≡ b
behind8 bytes a b n m p q = (same_bytes n m a b (sym p ∙ q)).1

pub behind32 : (bytes a b : List ℕ) (n m : ℕ) → n < 2 ^ 32 → m < 2 ^ 32 → bytes ≡ to_be_bytes w32 n ++ a → bytes ≡ to_be_bytes w32 m ++ b → a ≡ b
behind32 bytes a b n m l k p q = (same_words32 n m a b l k (sym p ∙ q)).1

pub behind64 : (bytes a b : List ℕ) (n m : ℕ) → n < 2 ^ 64 → m < 2 ^ 64 → bytes ≡ to_be_bytes w64 n ++ a → bytes ≡ to_be_bytes w64 m ++ b → a ≡ b
behind64 bytes a b n m l k p q = (same_words64 n m a b l k (sym p ∙ q)).1

pub behind_short : (bytes a b x y : List ℕ) → bytes ≡ short x ++ a → bytes ≡ short y ++ b → a ≡ b
behind_short bytes a b x y p q = (same_shorts x y a b (sym p ∙ q)).1

-- Introductions. ------------------------------------------------------------------------------------------------------

pub introducing : (bytes r : List ℕ) (i : Introduced) → GoesOnIntroducing bytes i r → bytes ≡ from_link i r
introducing bytes r i x = behind8 (1 ∷ bytes) bytes (from_link i r) 1 1 refl (x.whole ∙ introduction_parts i r)

pub introduction_from : (bytes b1 b2 b3 b4 b5 b6 b7 r : List ℕ) (i : Introduced) → IsIntroduced i → bytes ≡ to_be_bytes w32 i.link ++ b1 → b1 ≡ to_be_bytes w64 i.connection ++ b2 → b2 ≡ short i.peer ++ b3 → b3 ≡ short i.container ++ b4
    → b4 ≡ short i.name ++ b5 → b5 ≡ short i.user ++ b6 → b6 ≡ i.kind ∷ b7 → b7 ≡ long i.target ++ r → GoesOnIntroducing bytes i r
introduction_from bytes b1 b2 b3 b4 b5 b6 b7 r i is e0 e1 e2 e3 e4 e5 e6 e7 =
    let kind : b6 ≡ from_kind i r = e6 ∙ ap (λ (l : List ℕ). i.kind ∷ l) e7 in
    let user : b5 ≡ from_user i r = e5 ∙ ap (λ (l : List ℕ). short i.user ++ l) kind in
    let name : b4 ≡ from_name i r = e4 ∙ ap (λ (l : List ℕ). short i.name ++ l) user in
    let container : b3 ≡ from_container i r = e3 ∙ ap (λ (l : List ℕ). short i.container ++ l) name in
    let peer : b2 ≡ from_peer i r = e2 ∙ ap (λ (l : List ℕ). short i.peer ++ l) container in
    let connection : b1 ≡ from_connection i r = e1 ∙ ap (λ (l : List ℕ). to_be_bytes w64 i.connection ++ l) peer in
    let link : bytes ≡ from_link i r = e0 ∙ ap (λ (l : List ℕ). to_be_bytes w32 i.link ++ l) connection in
    record { is = is; whole = ap (λ (l : List ℕ). 1 ∷ l) link ∙ sym (introduction_parts i r) }

-- Records. ------------------------------------------------------------------------------------------------------------

pub recording : (bytes rest : List ℕ) (r : Recorded) → GoesOnRecording bytes r rest → bytes ≡ to_be_bytes w32 r.link ++ from_tag r rest
recording bytes rest r x = behind8 (2 ∷ bytes) bytes (to_be_bytes w32 r.link ++ from_tag r rest) 2 2 refl (x.whole ∙ record_parts r rest)

pub record_from : (bytes b1 b2 rest : List ℕ) (r : Recorded) → r.link < 2 ^ 32 → length r.tag ≤ 32 → IsWhole r.record → bytes ≡ to_be_bytes w32 r.link ++ b1 → b1 ≡ short r.tag ++ b2 → b2 ≡ r.record ++ rest → GoesOnRecording bytes r rest
record_from bytes b1 b2 rest r link tag is e0 e1 e2 =
    let behind : b1 ≡ from_tag r rest = e1 ∙ ap (λ (l : List ℕ). short r.tag ++ l) e2 in
    let all : bytes ≡ to_be_bytes w32 r.link ++ from_tag r rest = e0 ∙ ap (λ (l : List ℕ). to_be_bytes w32 r.link ++ l) behind in
    record {
      is = record { link = link; tag = tag; message = is.message; small = is.small; front = is.front; long = is.long; whole = is.whole };
      whole = ap (λ (l : List ℕ). 2 ∷ l) all ∙ sym (record_parts r rest);
    }

-- A whole record, by its length. --------------------------------------------------------------------------------------

pub to_length : (bytes f b record_ rest : List ℕ) (is : IsWhole record_) → length f ≡ 14 → bytes ≡ f ++ b → bytes ≡ record_ ++ rest → b ≡ from_length is.message rest
to_length bytes f b record_ rest is long p q =
    (same_fronts f is.front b (from_length is.message rest) (long ∙ sym is.long) (sym p ∙ q ∙ whole_parts record_ is rest)).1

-- the message is there
pub has_message : (b c message rest : List ℕ) (n : ℕ) → n < 2 ^ 32 → length message < 2 ^ 32 → b ≡ to_be_bytes w32 n ++ c → b ≡ from_length message rest → n ≤ length c
has_message b c message rest n lt small p q =
    let x = same_words32 n (length message) c (message ++ rest) lt small (sym p ∙ q) in
    let long = ap (λ (l : List ℕ). length l) x.1 in
    omega (arith, x.0, long, length-append message rest)

pub whole_from : (bytes f b1 b2 m b3 w rest : List ℕ) (n : ℕ) → n < 2 ^ 32 → bytes ≡ f ++ b1 → length f ≡ 14 → b1 ≡ to_be_bytes w32 n ++ b2 → b2 ≡ m ++ b3 → length m ≡ n → bytes ≡ w ++ rest → length w ≡ 18 + n → IsWhole w
whole_from bytes f b1 b2 m b3 w rest n lt p long q r len e total =
    let size = to_be_bytes w32 n in
    let cut : bytes ≡ f ++ size ++ m ++ b3 =
    p ∙ ap (λ (l : List ℕ). f ++ l) (q ∙ ap (λ (l : List ℕ). size ++ l) r) ∙ sym (append_assoc f size (m ++ b3)) ∙ sym (append_assoc (f ++ size) m b3) in
    let four : length size ≡ 4 = refl in
    let same = same_fronts w (f ++ size ++ m) rest b3 (omega (arith, total, long, len, four, length-append (f ++ size) m, length-append f size)) (sym e ∙ cut) in
    record { message = m; small = omega (arith, lt, len); front = f; long = long; whole = same.0 ∙ ap (λ (k : ℕ). f ++ to_be_bytes w32 k ++ m) (sym len) }

-- The kind of an entry. -----------------------------------------------------------------------------------------------

pub has_kind : (bytes rest : List ℕ) (e : Entry) → BeginsEntry bytes e rest → ((n : ℕ) (t : List ℕ) → n ≤ 2 → bytes ≡ n ∷ t → ⊥) → ⊥
has_kind bytes rest (Introduction i) x lacks = lacks 1 (from_link i rest) (omega arith) (x.whole ∙ introduction_parts i rest)
has_kind bytes rest (Record r) x lacks = lacks 2 (to_be_bytes w32 r.link ++ from_tag r rest) (omega arith) (x.whole ∙ record_parts r rest)

pub of_kind_1 : (bytes t : List ℕ) (k : ℕ) → bytes ≡ k ∷ t → k ≡ 1 → ((i : Introduced) (rest : List ℕ) → GoesOnIntroducing t i rest → ⊥) → (e : Entry) (rest : List ℕ) → BeginsEntry bytes e rest → ⊥
of_kind_1 bytes t k p one lacks (Introduction i) rest x = lacks i rest (record { is = x.is; whole = ap (λ (n : ℕ). n ∷ t) (sym one) ∙ sym p ∙ x.whole })
of_kind_1 bytes t k p one lacks (Record r) rest x =
    let first = same_bytes k 2 t (to_be_bytes w32 r.link ++ from_tag r rest) (sym p ∙ x.whole ∙ record_parts r rest) in
    omega (arith, first.0, one)

pub of_kind_2 : (bytes t : List ℕ) (k : ℕ) → bytes ≡ k ∷ t → k ≡ 2 → ((r : Recorded) (rest : List ℕ) → GoesOnRecording t r rest → ⊥) → (e : Entry) (rest : List ℕ) → BeginsEntry bytes e rest → ⊥
of_kind_2 bytes t k p two lacks (Introduction i) rest x =
    let first = same_bytes k 1 t (from_link i rest) (sym p ∙ x.whole ∙ introduction_parts i rest) in
    omega (arith, first.0, two)
of_kind_2 bytes t k p two lacks (Record r) rest x = lacks r rest (record { is = x.is; whole = ap (λ (n : ℕ). n ∷ t) (sym two) ∙ sym p ∙ x.whole })

pub of_no_kind : (bytes t : List ℕ) (k : ℕ) → bytes ≡ k ∷ t → k ≢ 1 → k ≢ 2 → (e : Entry) (rest : List ℕ) → BeginsEntry bytes e rest → ⊥
of_no_kind bytes t k p one two (Introduction i) rest x = one (same_bytes k 1 t (from_link i rest) (sym p ∙ x.whole ∙ introduction_parts i rest)).0
of_no_kind bytes t k p one two (Record r) rest x = two (same_bytes k 2 t (to_be_bytes w32 r.link ++ from_tag r rest) (sym p ∙ x.whole ∙ record_parts r rest)).0
