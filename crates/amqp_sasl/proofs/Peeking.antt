-- What peeking shows of a described list, and of its items.
use Rattle.std.proofs.Common.{◌≡◌, ℕ, ◌-◌, ◌≤◌, Bool, false, List, ◌++◌, length, take, drop, None, Ok, refl, sym, ap, subst, ◌∙◌, arith}
use Rattle.std.proofs.lemmas.List.{take_all, drop_at, length-drop}
use Rattle.std.specs.Str.{bytes_eq}
use Rattle.amqp_types.specs.declared.kind.Kind.{Kind}
use Rattle.amqp_types.specs.declared.kind.Kind.TheVariants as kind
use Rattle.amqp_types.specs.declared.peeked.Peek.{Peek}
use Rattle.amqp_types.specs.declared.peeked.Peek.TheVariants as peek
use Rattle.amqp_types.specs.declared.fault.ReadFault.{ReadFault}
use Rattle.amqp_types.specs.Peeks.{IsOutermost, IsUnsigned, IsOther, IsOtherNumber}
use Rattle.amqp_types.specs.Spelling.{Spells, SpellAll}
use Rattle.amqp_types.specs.Trees.{Tree, Number, Octets, ListOf, MapOf, ArrayOf, Described, Trees, none, more, depth_of}
use Rattle.amqp_sasl.specs.Composites.{Shows, AreItems, first_of, others_of, binary_in, text_in, is_code, names, items_of, items_in}
use Rattle.std.specs.Prelude.{Result}
use Rattle.std.specs.Borrow.{Bor}

-- an unsigned number is no null
unsigned_binary : (k : Kind) (n : ℕ) → IsUnsigned k → binary_in (Number k n) ≡ None
unsigned_binary kind.Ubyte n h = refl
unsigned_binary kind.Ushort n h = refl
unsigned_binary kind.Uint n h = refl
unsigned_binary kind.Ulong n h = refl
unsigned_binary _ n h = absurd h

unsigned_text : (k : Kind) (n : ℕ) → IsUnsigned k → text_in (Number k n) ≡ None
unsigned_text kind.Ubyte n h = refl
unsigned_text kind.Ushort n h = refl
unsigned_text kind.Uint n h = refl
unsigned_text kind.Ulong n h = refl
unsigned_text _ n h = absurd h

-- nor is one that has no case of its own
other_binary : (k : Kind) (n : ℕ) → IsOtherNumber k → binary_in (Number k n) ≡ None
other_binary kind.Null n h = absurd h
other_binary _ n h = refl

other_text : (k : Kind) (n : ℕ) → IsOtherNumber k → text_in (Number k n) ≡ None
other_text kind.Null n h = absurd h
other_text _ n h = refl

other_name : (code : ℕ) (name : List ℕ) (k : Kind) (n : ℕ) → IsOtherNumber k → names code name (Number k n) ≡ false
other_name code name kind.Ulong n h = absurd h
other_name code name _ n h = refl

shows_other : (t : Tree) → IsOther t → Shows t peek.Other
shows_other (Number k n) h = record { symbol = refl; binary = other_binary k n h; text = other_text k n h }
shows_other (Octets k octets) h = absurd h
shows_other (ListOf ts) h = absurd h
shows_other (MapOf ps) h = record { symbol = refl; binary = refl; text = refl }
shows_other (ArrayOf ds k ts) h = record { symbol = refl; binary = refl; text = refl }
shows_other (Described d t) h = absurd h

-- a value is what is peeked at
pub shows : (t : Tree) (text : List ℕ) (p : Peek) → IsOutermost t text p → Shows t p
shows t text peek.Null h = subst (λ (u : Tree). Shows u peek.Null) (sym h) (record { symbol = refl; binary = refl; text = refl })
shows t text (peek.Boolean b) h = subst (λ (u : Tree). Shows u (peek.Boolean b)) (sym h) (record { symbol = refl; binary = refl; text = refl })
shows t text (peek.Unsigned k n) h =
    subst (λ (u : Tree). Shows u (peek.Unsigned k n)) (sym h.0) (record { symbol = refl; binary = unsigned_binary k n h.1; text = unsigned_text k n h.1 })
shows t text (peek.String s) h = subst (λ (u : Tree). Shows u (peek.String s)) (sym h.0) (record { symbol = refl; binary = refl; text = refl })
shows t text (peek.Symbol s) h = subst (λ (u : Tree). Shows u (peek.Symbol s)) (sym h.0) (record { symbol = refl; binary = refl; text = refl })
shows t text (peek.Binary s) h = subst (λ (u : Tree). Shows u (peek.Binary s)) (sym h.0) (record { symbol = refl; binary = refl; text = refl })
shows t text (peek.List n items) h = subst (λ (u : Tree). Shows u (peek.List n items)) (sym h.2) (record { symbol = refl; binary = refl; text = refl })
shows t text (peek.Described a b) h = subst (λ (u : Tree). Shows u (peek.Described a b)) (sym h.2) (record { symbol = refl; binary = refl; text = refl })
shows t text peek.Other h = shows_other t h

-- whether a descriptor is this code or this name, by its outermost case
abbrev pub peeked_name : ℕ → List ℕ → Peek → Bool
peeked_name code name (peek.Unsigned k n) = is_code code k n
peeked_name code name (peek.Symbol s) = bytes_eq s.now name
peeked_name code name _ = false

named_other : (code : ℕ) (name : List ℕ) (t : Tree) → IsOther t → names code name t ≡ false
named_other code name (Number k n) h = other_name code name k n h
named_other code name (Octets k octets) h = absurd h
named_other code name (ListOf ts) h = absurd h
named_other code name (MapOf ps) h = refl
named_other code name (ArrayOf ds k ts) h = refl
named_other code name (Described d t) h = absurd h

pub named : (code : ℕ) (name : List ℕ) (t : Tree) (text : List ℕ) (p : Peek) → IsOutermost t text p → names code name t ≡ peeked_name code name p
named code name t text peek.Null h = subst (λ (u : Tree). names code name u ≡ false) (sym h) refl
named code name t text (peek.Boolean b) h = subst (λ (u : Tree). names code name u ≡ false) (sym h) refl
named code name t text (peek.Unsigned k n) h = subst (λ (u : Tree). names code name u ≡ is_code code k n) (sym h.0) refl
named code name t text (peek.String s) h = subst (λ (u : Tree). names code name u ≡ false) (sym h.0) refl
named code name t text (peek.Symbol s) h = subst (λ (u : Tree). names code name u ≡ bytes_eq s.now name) (sym h.0) refl
named code name t text (peek.Binary s) h = subst (λ (u : Tree). names code name u ≡ false) (sym h.0) refl
named code name t text (peek.List n items) h = subst (λ (u : Tree). names code name u ≡ false) (sym h.2) refl
named code name t text (peek.Described a b) h = subst (λ (u : Tree). names code name u ≡ false) (sym h.2) refl
named code name t text peek.Other h = named_other code name t h

pub unnamed : (code : ℕ) (name : List ℕ) (p : Peek) → ((k : Kind) (n : ℕ) → p ≡ peek.Unsigned k n → ⊥) → ((s : Bor (List ℕ)) → p ≡ peek.Symbol s → ⊥) → peeked_name code name p ≡ false
unnamed code name (peek.Unsigned k n) a b = absurd (a k n refl)
unnamed code name (peek.Symbol s) a b = absurd (b s refl)
unnamed code name _ a b = refl

-- what is no list has no items
unlisted_other : (t : Tree) → IsOther t → items_of t ≡ None
unlisted_other (Number k n) h = refl
unlisted_other (Octets k octets) h = absurd h
unlisted_other (ListOf ts) h = absurd h
unlisted_other (MapOf ps) h = refl
unlisted_other (ArrayOf ds k ts) h = refl
unlisted_other (Described d t) h = absurd h

abbrev NoItems : Tree → Type 0
NoItems t = items_of t ≡ None

pub unlisted : (t : Tree) (text : List ℕ) (p : Peek) → IsOutermost t text p → ((n : ℕ) (items : Bor (List ℕ)) → p ≡ peek.List n items → ⊥) → items_of t ≡ None
unlisted t text peek.Null h n = subst NoItems (sym h) refl
unlisted t text (peek.Boolean b) h n = subst NoItems (sym h) refl
unlisted t text (peek.Unsigned k m) h n = subst NoItems (sym h.0) refl
unlisted t text (peek.String s) h n = subst NoItems (sym h.0) refl
unlisted t text (peek.Symbol s) h n = subst NoItems (sym h.0) refl
unlisted t text (peek.Binary s) h n = subst NoItems (sym h.0) refl
unlisted t text (peek.List m items) h n = absurd (n m items refl)
unlisted t text (peek.Described a b) h n = subst NoItems (sym h.2) refl
unlisted t text peek.Other h n = unlisted_other t h

-- what is not described has none either
undescribed_other : (code : ℕ) (name : List ℕ) (t : Tree) → IsOther t → items_in code name t ≡ None
undescribed_other code name (Number k n) h = refl
undescribed_other code name (Octets k octets) h = absurd h
undescribed_other code name (ListOf ts) h = absurd h
undescribed_other code name (MapOf ps) h = refl
undescribed_other code name (ArrayOf ds k ts) h = refl
undescribed_other code name (Described d t) h = absurd h

abbrev NotDescribed : ℕ → List ℕ → Tree → Type 0
NotDescribed code name t = items_in code name t ≡ None

pub undescribed : (code : ℕ) (name : List ℕ) (t : Tree) (text : List ℕ) (p : Peek) → IsOutermost t text p → ((a b : Bor (List ℕ)) → p ≡ peek.Described a b → ⊥) → items_in code name t ≡ None
undescribed code name t text peek.Null h n = subst (NotDescribed code name) (sym h) refl
undescribed code name t text (peek.Boolean b) h n = subst (NotDescribed code name) (sym h) refl
undescribed code name t text (peek.Unsigned k m) h n = subst (NotDescribed code name) (sym h.0) refl
undescribed code name t text (peek.String s) h n = subst (NotDescribed code name) (sym h.0) refl
undescribed code name t text (peek.Symbol s) h n = subst (NotDescribed code name) (sym h.0) refl
undescribed code name t text (peek.Binary s) h n = subst (NotDescribed code name) (sym h.0) refl
undescribed code name t text (peek.List m items) h n = subst (NotDescribed code name) (sym h.2) refl
undescribed code name t text (peek.Described a b) h n = absurd (n a b refl)
undescribed code name t text peek.Other h n = undescribed_other code name t h

-- the first item is spelled at the front, and the others behind it
pub record HasFirst (ts : Trees) (left : ℕ) (bytes : List ℕ) : Type 0 where
  pub text : List ℕ
  pub rest : List ℕ
  pub joined : bytes ≡ text ++ rest
  pub spelled : Spells (first_of ts) text
  pub flat : depth_of (first_of ts) ≤ 0
  pub others : AreItems (others_of ts) (left - 1) rest

pub has_first : (ts : Trees) (left : ℕ) (bytes : List ℕ) → AreItems ts left bytes → (left ≡ 0 → ⊥) → HasFirst ts left bytes
unfolding SpellAll
has_first none left bytes h n = absurd (n h.count)
has_first (more t ts) left bytes h n =
    let s = h.spelled in
    record {
      text = s.0;
      rest = s.1;
      joined = s.2;
      spelled = s.3;
      flat = omega (arith, h.flat);
      others = record { count = omega (arith, h.count); spelled = s.4; flat = omega (arith, h.flat) };
    }

-- what is left once the first item was taken
pub taken_rest : (bytes text rest : List ℕ) (n : ℕ) → bytes ≡ text ++ rest → ◌≡◌ {A = Result ℕ ReadFault} (Ok n) (Ok (length text)) → take (length bytes - n) (drop n bytes) ≡ rest
taken_rest bytes text rest n joined same =
    let len : n ≡ length text = cc in
    let dropped : drop n bytes ≡ rest = ap (drop n) joined ∙ drop_at text rest n (sym len) in
    take_all (length bytes - n) (drop n bytes) (omega (arith, length-drop n bytes)) ∙ dropped
