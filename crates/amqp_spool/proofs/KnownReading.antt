-- What a reader has taken of a body, with the senders that were known.
use Rattle.std.proofs.Common.{◌≡◌, ℕ, ◌+◌, ◌<◌, arith, List, [], ◌∷◌, ◌++◌, length, length-append, drop, map, Bool, true, false, Option, Some, None, Result, Ok, Err, refl, sym, ap, ◌∙◌, subst, append_assoc, append-nil}
use Rattle.std.proofs.lemmas.List.Concat.{flat_map-append}
use Rattle.std.specs.List.{flat_map}
use Rattle.std.specs.Option.{is_some, option_map}
use Rattle.std.specs.declared.alloc.AllocError.{AllocError}
use Rattle.std.proofs.Common.{not}
use Rattle.std.proofs.lemmas.Bool.{false≢true}
use Rattle.amqp_spool.specs.declared.entry.Introduction as introduction
use Rattle.std.specs.Prelude.{IfSome}
use Rattle.amqp_spool.specs.declared.entry.Record as recorded
use Rattle.amqp_spool.specs.EntryReading.{introduced_in, recorded_in}
use Rattle.amqp_spool.specs.declared.names.Names as reader
use Rattle.amqp_spool.specs.declared.scanning.Scanned.{Scanned}
use Rattle.amqp_spool.specs.Alone.{ReadsAlone, HasKnown, HasReadAlone, EndsAlone}
use Rattle.amqp_spool.specs.Batches.{Batch, Follows, IsThrough}
use Rattle.amqp_spool.specs.Entries.{Introduced, Recorded, Entry, Introduction, Record, entry_text, AreEntries, IsBody, count_of}
use Rattle.amqp_spool.specs.Heads.{BeginsBatch}
use Rattle.amqp_spool.specs.Names.{Names, nobody, known, after, named}
use Rattle.amqp_spool.specs.NamesRead.{names_of, HasTaken, HasRead, Gives, Ends}
use Rattle.amqp_spool.specs.Sayings.{AreBodies}
use Rattle.amqp_spool.specs.Waitings.{AreKnown}
use Rattle.amqp_spool.proofs.Bodies.{count_append, known_parts, known_append, known_as, bodies_more}
use Rattle.amqp_spool.proofs.EntryLists.{some_bytes}
use Rattle.amqp_spool.proofs.EntryTexts.{same_entries}
use Rattle.amqp_spool.proofs.Naming.{after-append, after_on}
use Rattle.amqp_spool.proofs.NamesRead.{are_both}
use Rattle.amqp_spool.proofs.Through.{begun, one_more}

pub none_counted : (front : List Introduced) → count_of (map Introduction front) ≡ 0
none_counted [] = refl
none_counted (i ∷ front) = none_counted front

nothing_known : (k : Names) (front : List Introduced) → AreKnown (named k (map Introduction front))
nothing_known k [] = tt
nothing_known k (i ∷ front) = nothing_known (known i k) front

-- Introductions alone.
pub taken_known : (old new : reader.Names) (body left : List ℕ) → HasTaken old new body left → HasKnown old new body left 0
taken_known old new body left x =
    record { entries = map Introduction x.front; are = x.are; whole = x.whole; counted = none_counted x.front; known = nothing_known (names_of old) x.front; names = x.names }

-- Introductions, and then a record with a sender.
pub read_known : (old new : reader.Names) (body left : List ℕ) (r : Recorded) (i : Introduced) → HasRead old new body left r → names_of new r.link ≡ Some i → HasKnown old new body left 1
read_known old new body left r i x sender =
    let front = map Introduction x.taken.front in
    record {
      entries = front ++ Record r ∷ [];
      are = are_both front (Record r ∷ []) x.taken.are (x.begins.is, tt);
      whole = x.taken.whole ∙ ap (λ (l : List ℕ). flat_map entry_text front ++ l) (x.begins.whole ∙ ap (λ (l : List ℕ). l ++ left) (sym (append-nil (entry_text (Record r))))) ∙ sym (append_assoc (flat_map entry_text front) (flat_map entry_text (Record r ∷ [])) left)
          ∙ ap (λ (l : List ℕ). l ++ left) (sym (flat_map-append entry_text front (Record r ∷ [])));
      counted = omega (arith, count_append front (Record r ∷ []), none_counted x.taken.front);
      known = known_append (names_of old) front (Record r ∷ []) (nothing_known (names_of old) x.taken.front) ((i, sym (x.taken.names r.link) ∙ sender), tt);
      names = λ link. x.taken.names link ∙ sym (after-append (names_of old) front (Record r ∷ []) link);
    }

-- One after the other.
pub known_then : (a b c : reader.Names) (body mid left : List ℕ) (n m : ℕ) → HasKnown a b body mid n → HasKnown b c mid left m → HasKnown a c body left (n + m)
known_then a b c body mid left n m x y = record {
  entries = x.entries ++ y.entries;
  are = are_both x.entries y.entries x.are y.are;
  whole = x.whole ∙ ap (λ (l : List ℕ). flat_map entry_text x.entries ++ l) y.whole ∙ sym (append_assoc (flat_map entry_text x.entries) (flat_map entry_text y.entries) left) ∙ ap (λ (l : List ℕ). l ++ left) (sym (flat_map-append entry_text x.entries y.entries));
  counted = omega (arith, count_append x.entries y.entries, x.counted, y.counted);
  known = known_append (names_of a) x.entries y.entries x.known (known_as (names_of b) (after (names_of a) x.entries) y.entries x.names y.known);
  names = λ link. y.names link ∙ after_on (names_of b) (after (names_of a) x.entries) y.entries link (x.names link) ∙ sym (after-append (names_of a) x.entries y.entries link);
}

pub nothing_read : (names : reader.Names) (body : List ℕ) → HasKnown names names body body 0
nothing_read names body = record { entries = []; are = tt; whole = refl; counted = refl; known = tt; names = λ link. refl }

-- a whole body
pub all_known : (old new : reader.Names) (body : List ℕ) (count : ℕ) → HasKnown old new body [] count → HasReadAlone old new body count
all_known old new body count x = record {
  entries = x.entries;
  alone = record { is = record { are = x.are; whole = x.whole ∙ append-nil (flat_map entry_text x.entries) }; counted = sym x.counted; known = x.known };
  names = x.names;
}

-- What is left of a body after what was taken.
pub record Left (old new : reader.Names) (body left : List ℕ) (n count : ℕ) : Type 0 where
  pub entries : List Entry
  pub is : IsBody left entries
  pub counted : n + count_of entries ≡ count
  pub known : AreKnown (named (names_of new) entries)

pub what_is_left : (old new : reader.Names) (body left : List ℕ) (n count : ℕ) (es : List Entry) → HasKnown old new body left n → ReadsAlone (names_of old) body count es → Left old new body left n count
what_is_left old new body left n count es x alone =
    let r = cut x.entries es left x.are alone.is.are (sym x.whole ∙ alone.is.whole) in
    record {
      entries = r.0;
      is = record { are = r.2; whole = r.3 };
      counted = omega (arith, alone.counted, ap count_of r.1, count_append x.entries r.0, x.counted);
      known = known_as (after (names_of old) x.entries) (names_of new) r.0 (λ link. sym (x.names link)) ((known_parts (names_of old) x.entries r.0 (subst (λ (l : List Entry). AreKnown (named (names_of old) l)) r.1 alone.known)).1);
    }
  where
    cut : (front es : List Entry) (rest : List ℕ) → AreEntries front → AreEntries es → flat_map entry_text front ++ rest ≡ flat_map entry_text es → (fs : List Entry) × (es ≡ front ++ fs) × AreEntries fs × (rest ≡ flat_map entry_text fs)
    cut [] es rest some are e = (es, refl, are, e)
    cut (f ∷ front) [] rest some are e =
        absurd (omega (arith, ap (λ (l : List ℕ). length l) e, some_bytes f, length-append (flat_map entry_text (f ∷ front)) rest, length-append (entry_text f) (flat_map entry_text front)))
    cut (f ∷ front) (g ∷ es) rest some are e =
        let x = same_entries f g (flat_map entry_text front ++ rest) (flat_map entry_text es) some.0 are.0 (sym (append_assoc (entry_text f) (flat_map entry_text front) rest) ∙ e) in
        let r = cut front es rest some.1 are.1 x.1 in
        (r.0, ap (λ (l : List Entry). g ∷ l) r.1 ∙ ap (λ (h : Entry). h ∷ (front ++ r.0)) (sym x.0), r.2, r.3)

-- Nobody is known on the link of the next record.
pub none_known : (old new : reader.Names) (left : List ℕ) (es : List Entry) (r : Recorded) → Gives old new left es r → AreKnown (named (names_of old) es) → names_of new r.link ≡ None → ⊥
none_known old new left es r x are none =
    let front = map Introduction x.front in
    let parts = known_parts (names_of old) front (Record r ∷ x.rest) (subst (λ (l : List Entry). AreKnown (named (names_of old) l)) x.whole are) in
    let sender = parts.1.0 in
    absurd (grind (arith, sender.1, x.names r.link, none))

pub gives_one : (old new : reader.Names) (left : List ℕ) (es : List Entry) (r : Recorded) → Gives old new left es r → 0 < count_of es
gives_one old new left es r x = omega (arith, ap count_of x.whole, count_append (map Introduction x.front) (Record r ∷ x.rest))

pub ends_none : (old new : reader.Names) (es : List Entry) → Ends old new es → count_of es ≡ 0
ends_none old new es x = ap count_of x.whole ∙ none_counted x.front

-- What a reader says of a link.
pub sender_is : (o : Option introduction.Introduction) (k : Option Introduced) → option_map introduced_in o ≡ k → is_some o ≡ true → (i : Introduced) × (k ≡ Some i)
sender_is (Some x) k is some = (introduced_in x, sym is)
sender_is None k is some = absurd (false≢true some)

pub sender_is_not : (o : Option introduction.Introduction) (k : Option Introduced) → option_map introduced_in o ≡ k → is_some o ≡ false → k ≡ None
sender_is_not (Some x) k is none = absurd (false≢true (sym none))
sender_is_not None k is none = sym is

pub read_some : (old new : reader.Names) (body left : List ℕ) (o : Option recorded.Record) (r : recorded.Record) → o ≡ Some r → IfSome o (λ x. HasRead old new body left (recorded_in x)) → HasRead old new body left (recorded_in r)
read_some old new body left o r is has = subst (λ (p : Option recorded.Record). IfSome p (λ x. HasRead old new body left (recorded_in x))) is has

pub gives_some : (old new : reader.Names) (body left : List ℕ) (o : Option recorded.Record) (r : recorded.Record) → o ≡ Some r → IfSome o (λ x. (es : List Entry) → IsBody body es → Gives old new left es (recorded_in x)) → (es : List Entry) → IsBody body es
    → Gives old new left es (recorded_in r)
gives_some old new body left o r is has = subst (λ (p : Option recorded.Record). IfSome p (λ x. (es : List Entry) → IsBody body es → Gives old new left es (recorded_in x))) is has

pub none_is : (o : Option recorded.Record) (b : Bool) → is_some o ≡ not b → b ≡ true → o ≡ None
none_is None b is true_ = refl
none_is (Some r) b is true_ = absurd (false≢true (sym (is ∙ ap not true_)))

pub some_is : (o : Option recorded.Record) (b : Bool) → is_some o ≡ not b → b ≡ false → (r : recorded.Record) × (o ≡ Some r)
some_is None b is false_ = absurd (false≢true (is ∙ ap not false_))
some_is (Some r) b is false_ = (r, refl)

abbrev flag_in : Result Bool AllocError → Bool
flag_in (Ok b) = b
flag_in (Err e) = false

pub flags : (a b : Bool) → ◌≡◌ {A = Result Bool AllocError} (Ok a) (Ok b) → a ≡ b
flags a b is = ap flag_in is

-- Batches of a segment. -----------------------------------------------------------------------------------------------

-- as far as it was gone through
pub record IsAloneSoFar (names : reader.Names) (secret : List ℕ) (first : ℕ) (bytes : List ℕ) (s : Scanned) : Type 0 where
  pub through : IsThrough secret first bytes s
  pub entries : List Entry
  pub bodies : AreBodies through.batches entries
  pub known : AreKnown (named nobody entries)
  pub names_are : (link : ℕ) → names_of names link ≡ after nobody entries link

pub nothing_alone : (names : reader.Names) (secret : List ℕ) (first : ℕ) (bytes : List ℕ) → ((link : ℕ) → names_of names link ≡ nobody link) → IsAloneSoFar names secret first bytes (record { end = 0; next = first })
unfolding begun
nothing_alone names secret first bytes none = record { through = begun secret first bytes; entries = []; bodies = refl; known = tt; names_are = none }

pub one_more_alone : (old new : reader.Names) (secret : List ℕ) (first : ℕ) (bytes : List ℕ) (s : Scanned) (b : Batch) → IsAloneSoFar old secret first bytes s → Follows s.next b → BeginsBatch secret (drop s.end bytes) b.head b.body → HasReadAlone old new b.body b.head.count
    → IsAloneSoFar new secret first bytes (record { end = s.end + (32 + length b.body); next = s.next + b.head.count })
unfolding one_more
one_more_alone old new secret first bytes s b x f y read = record {
  through = one_more secret first bytes s b x.through f y;
  entries = x.entries ++ read.entries;
  bodies = bodies_more x.through.batches b x.entries read.entries x.bodies read.alone.is read.alone.counted;
  known = known_append nobody x.entries read.entries x.known (known_as (names_of old) (after nobody x.entries) read.entries x.names_are read.alone.known);
  names_are = λ link. read.names link ∙ after_on (names_of old) (after nobody x.entries) read.entries link (x.names_are link) ∙ sym (after-append nobody x.entries read.entries link);
}

-- where no batch follows that reads alone
pub ends_as : (names : reader.Names) (m : Names) (secret : List ℕ) (number : ℕ) (bytes : List ℕ) → ((link : ℕ) → names_of names link ≡ m link) → EndsAlone (names_of names) secret number bytes → EndsAlone m secret number bytes
ends_as names m secret number bytes same ends = λ b es f begins alone.
    ends b es f begins (record { is = alone.is; counted = alone.counted; known = known_as m (names_of names) es (λ link. sym (same link)) alone.known })
