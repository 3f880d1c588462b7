-- How long an answer to an attach can be.
use Rattle.std.proofs.Common.{arith, ◌≡◌, ℕ, ◌+◌, ◌<◌, ◌≤◌, ◌^◌, Bool, true, false, List, [], ◌∷◌, ◌++◌, length, refl, sym, ap, Option, Some, None, length-append, ltb-false}
use Rattle.std.specs.Prelude.{nat_lt, nat_eq, if◌then◌else◌, bytes_eq, ◌==◌, ◌↔◌, IsTrue, not}
use Rattle.std.specs.List.{concat}
use Rattle.std.proofs.lemmas.Bool.{le-ltb}
use Rattle.std.specs.Int.{bytes_high_first}
use Rattle.amqp_link.specs.Histories.{one_if}
use Rattle.amqp_types.specs.declared.kind.Kind.{Kind}
use Rattle.amqp_types.specs.declared.kind.Kind.TheVariants as kind
use Rattle.amqp_types.specs.declared.shell.Short.{Short}
use Rattle.amqp_types.specs.declared.shell.Short.TheVariants as short
use Rattle.amqp_types.specs.declared.shell.Shell.TheVariants as shell
use Rattle.amqp_types.specs.declared.code.SizeWidth.{SizeWidth}
use Rattle.amqp_types.specs.declared.code.SizeWidth.TheVariants as size
use Rattle.amqp_types.specs.Canonical.{canonical, number_text, short_form, shortest, sized, full_code, full_data, narrowest, is_small}
use Rattle.amqp_types.specs.Kinds.{width}
use Rattle.amqp_types.specs.Trees.{Number, Octets}
use Rattle.amqp_perform.specs.declared.descriptor.Descriptor.TheVariants as of_type
use Rattle.amqp_perform.specs.Frames.{null_text, cell_text, field_texts, before_nulls, trimmed, list_text, described_text, list_frame, FitsFrame}
use Rattle.amqp_perform.specs.Performatives.{span, is_receiver, sender_mode, receiver_mode}
use Rattle.amqp_perform.specs.Tables.{attach_fields, spanned}
use Rattle.amqp_perform.specs.Said.{said_frame}
use Rattle.amqp_session.specs.Frames.{Attaching, attach_said, other_role}

-- a number takes its width, and a code, or less
number_short : (k : Kind) (n : ℕ) (o : Option Short) → length (bytes_high_first (width k) n) ≤ 8 → length (number_text k n o) ≤ 9
number_short k n (Some (short.Code code)) l = omega arith
number_short k n (Some (short.Byte code byte)) l = omega arith
number_short k n None l = omega (arith, l)

-- a ulong takes at most nine bytes
pub ulong_short : (n : ℕ) → length (canonical (Number kind.Ulong n)) ≤ 9
ulong_short n = number_short kind.Ulong n (short_form kind.Ulong n) (let e : length (bytes_high_first 8 n) ≡ 8 = refl in omega (arith, e))

uint_short : (n : ℕ) → length (canonical (Number kind.Uint n)) ≤ 9
uint_short n = number_short kind.Uint n (short_form kind.Uint n) (let e : length (bytes_high_first 4 n) ≡ 4 = refl in omega (arith, e))

boolean_short : (n : ℕ) → length (canonical (Number kind.Boolean n)) ≤ 9
boolean_short n = number_short kind.Boolean n (short_form kind.Boolean n) (let e : length (bytes_high_first 1 n) ≡ 1 = refl in omega (arith, e))

ubyte_short : (n : ℕ) → length (canonical (Number kind.Ubyte n)) ≤ 9
ubyte_short n = number_short kind.Ubyte n (short_form kind.Ubyte n) (let e : length (bytes_high_first 1 n) ≡ 1 = refl in omega (arith, e))

-- a text takes its size, and a code
string_short : (octets : List ℕ) → length (canonical (Octets kind.String octets)) ≤ 5 + length octets
string_short octets = by_width (narrowest (is_small (shell.Octets kind.String) octets))
  where
    by_width : (s : SizeWidth) → length (full_code s kind.String ∷ full_data s (shell.Octets kind.String) octets) ≤ 5 + length octets
    by_width size.One = let e : length (bytes_high_first 1 (length octets)) ≡ 1 = refl in omega (arith, e, length-append (bytes_high_first 1 (length octets)) octets)
    by_width size.Four = let e : length (bytes_high_first 4 (length octets)) ≡ 4 = refl in omega (arith, e, length-append (bytes_high_first 4 (length octets)) octets)

list_short : (n : ℕ) (content : List ℕ) → length (shortest (shell.List n) content) ≤ 9 + length content
list_short n content = by_count (nat_eq n 0)
  where
    by_width : (s : SizeWidth) → length (full_code s kind.List ∷ full_data s (shell.List n) content) ≤ 9 + length content
    by_width size.One =
        let e : length (bytes_high_first 1 (1 + length content)) ≡ 1 = refl in
        let f : length (bytes_high_first 1 n) ≡ 1 = refl in
        omega (arith, e, f, length-append (bytes_high_first 1 (1 + length content)) (bytes_high_first 1 n ++ content), length-append (bytes_high_first 1 n) content)
    by_width size.Four =
        let e : length (bytes_high_first 4 (4 + length content)) ≡ 4 = refl in
        let f : length (bytes_high_first 4 n) ≡ 4 = refl in
        omega (arith, e, f, length-append (bytes_high_first 4 (4 + length content)) (bytes_high_first 4 n ++ content), length-append (bytes_high_first 4 n) content)

    by_count : (b : Bool) → length (if b then 0x45 ∷ [] else sized kind.List (shell.List n) content) ≤ 9 + length content
    by_count true = omega arith
    by_count false = by_width (narrowest (is_small (shell.List n) content))

-- nulls that are left out make it no longer
trimmed_short : (texts : List (List ℕ)) → length (concat (trimmed texts)) ≤ length (concat texts)
trimmed_short [] = omega arith
trimmed_short (text ∷ texts) = before (trimmed texts) (trimmed_short texts)
  where
    before : (rest : List (List ℕ)) → length (concat rest) ≤ length (concat texts) → length (concat (before_nulls text rest)) ≤ length (concat (text ∷ texts))
    before [] l = by_null (bytes_eq text null_text)
      where
        by_null : (b : Bool) → length (concat (if b then [] else text ∷ [])) ≤ length (concat (text ∷ texts))
        by_null true = omega arith
        by_null false = omega (arith, length-append text [], length-append text (concat texts))
    before (next ∷ rest) l = omega (arith, l, length-append text (concat (next ∷ rest)), length-append text (concat texts))

frame_short : (texts : List (List ℕ)) → length (list_frame 0 of_type.Attach texts []) ≤ 20 + length (concat texts)
unfolding list_frame described_text
frame_short texts =
    let body = 0 ∷ (canonical (Number kind.Ulong 0x12) ++ list_text (trimmed texts)) in
    let e : length (bytes_high_first 4 (8 + length (body ++ []))) ≡ 4 = refl in
    let f : length (bytes_high_first 2 0) ≡ 2 = refl in
    omega (
      arith,
      e,
      f,
      length-append (bytes_high_first 4 (8 + length (body ++ [])) ++ (2 ∷ 0 ∷ bytes_high_first 2 0)) (body ++ []),
      length-append (bytes_high_first 4 (8 + length (body ++ []))) (2 ∷ 0 ∷ bytes_high_first 2 0),
      length-append body [],
      length-append (canonical (Number kind.Ulong 0x12)) (list_text (trimmed texts)),
      list_short (length (trimmed texts)) (concat (trimmed texts)),
      trimmed_short texts,
    )

-- texts that are no longer than this, one by one, and so joined
abbrev Within : List (List ℕ) → List ℕ → Type 0
Within [] [] = Unit {0}
Within (text ∷ texts) (most ∷ mosts) = (length text ≤ most) × Within texts mosts
Within texts mosts = ⊥

abbrev total : List ℕ → ℕ
total [] = 0
total (n ∷ ns) = n + total ns

joined : (texts : List (List ℕ)) (mosts : List ℕ) → Within texts mosts → length (concat texts) ≤ total mosts
joined [] [] is = omega arith
joined [] (most ∷ mosts) is = absurd is
joined (text ∷ texts) [] is = absurd is
joined (text ∷ texts) (most ∷ mosts) is = omega (arith, length-append text (concat texts), is.0, joined texts mosts is.1)

-- a field that is a number, null where it is its default
numbered : (b : Bool) (text : List ℕ) → length text ≤ 9 → length (if b then null_text else text) ≤ 9
numbered true text l = omega arith
numbered false text l = l

span_short : (text : List ℕ) → length (cell_text spanned (span text)) ≤ 1 + length text
span_short [] = omega arith
span_short (b ∷ text) = omega arith

-- the answer, with a name and ends that are kept
pub reply_short : (longest : ℕ) (a : Attaching) → length a.name ≤ 255 → length a.source + length a.target ≤ 1024 → length (said_frame 0 (attach_said longest a) []) ≤ 1400
reply_short longest a name ends =
    let one : length null_text ≤ 1 = omega arith in
    let mosts = (5 + length a.name) ∷ 9 ∷ 9 ∷ 9 ∷ 9 ∷ (1 + length a.source) ∷ (1 + length a.target) ∷ 1 ∷ 1 ∷ 1 ∷ 9 ∷ 1 ∷ 1 ∷ 1 ∷ [] in
    let all = joined (field_texts attach_fields (attach_said longest a).cells) mosts (
      string_short a.name,
      (
        uint_short a.handle,
        (
          boolean_short (one_if (is_receiver (other_role a.role))),
          (
            numbered (sender_mode a.snd_settle_mode == 2) (canonical (Number kind.Ubyte (sender_mode a.snd_settle_mode))) (ubyte_short (sender_mode a.snd_settle_mode)),
            (
              numbered (receiver_mode a.rcv_settle_mode == 0) (canonical (Number kind.Ubyte (receiver_mode a.rcv_settle_mode))) (ubyte_short (receiver_mode a.rcv_settle_mode)),
              (span_short a.source, (span_short a.target, (one, (one, (one, (ulong_short longest, (one, (one, (one, tt))))))))),
            ),
          ),
        ),
      ),
    ) in
    omega (arith, frame_short (field_texts attach_fields (attach_said longest a).cells), all, name, ends)

-- whether a text fits, by what writing it answers
pub fits_is : (b : Bool) (text : List ℕ) (room : ℕ) → IsTrue b ↔ FitsFrame text room → length text < 2 ^ 32 → b ≡ not (nat_lt room (length text))
fits_is false text room is short = by_test (nat_lt room (length text)) refl
  where
    by_test : (b : Bool) → nat_lt room (length text) ≡ b → false ≡ not b
    by_test true e = refl
    by_test false e = absurd (let h : false ≡ true = is.1 (ltb-false room (length text) e, short) in cc)
fits_is true text room is short = sym (ap not (le-ltb room (length text) (is.0 refl).0))
