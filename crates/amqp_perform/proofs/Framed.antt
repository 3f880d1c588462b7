-- A canonical frame: its parts, and that it is one frame of the stream.
use Rattle.std.proofs.Common.{◌≡◌, ℕ, ◌+◌, ◌^◌, ◌<◌, ◌≤◌, ◌==◌, ◌&&◌, nat_lt, Bool, true, false, if◌then◌else◌, List, [], ◌∷◌, ◌++◌, length, take, drop, Option, Some, None, refl, sym, ap, subst, ◌∙◌}
use Rattle.std.proofs.Common.{◌-◌, ◌%◌, append_assoc, length-append, arith}
use Rattle.std.proofs.Math.Seq.{drop-append_seam}
use Rattle.std.specs.List.{concat}
use Rattle.std.proofs.lemmas.Bool.{lt-ltb, eqb-true, ne_eqb}
use Rattle.std.proofs.lemmas.List.{append-nil, length-map, length-take-le, nil_from_length}
use Rattle.byteorder.specs.Endian.{big_bytes}
use Rattle.byteorder.specs.Numbers.{big_number-reads_back}
use Rattle.amqp_types.specs.declared.kind.Kind.TheVariants as kind
use Rattle.amqp_types.specs.declared.shell.Shell.TheVariants as shell
use Rattle.amqp_types.specs.Canonical.{canonical, shortest, narrowest, full_code, full_data}
use Rattle.amqp_types.specs.Trees.{Number}
use Rattle.amqp_frame.specs.Units.{IsFrame, size_of, channel_of, body_of}
use Rattle.amqp_perform.specs.declared.descriptor.Descriptor.{Descriptor}
use Rattle.amqp_perform.specs.declared.descriptor.Descriptor.TheVariants as of_type
use Rattle.amqp_perform.specs.Descriptors.{code_of}
use Rattle.amqp_perform.specs.declared.field_text.FieldText.{FieldText}
use Rattle.amqp_perform.specs.declared.performative.Performative.{Performative}
use Rattle.amqp_perform.specs.Frames.{trimmed, list_text, list_head, head_text, frame_text, described_text, list_frame, performative_texts, frame_of, field_spelling, field_spellings, Writes, FitsFrame, IsWritten}
use Rattle.amqp_perform.specs.Performatives.{type_of}
use Rattle.amqp_perform.proofs.Writings.{writes-writes}

-- The parts. ----------------------------------------------------------------------------------------------------------

-- a descriptor is spelled as a small ulong [1.6.6]
code_text : (d : Descriptor) → canonical (Number kind.Ulong (code_of d)) ≡ 0x53 ∷ code_of d ∷ []
code_text of_type.Open = refl
code_text of_type.Begin = refl
code_text of_type.Attach = refl
code_text of_type.Flow = refl
code_text of_type.Transfer = refl
code_text of_type.Disposition = refl
code_text of_type.Detach = refl
code_text of_type.End = refl
code_text of_type.Close = refl
code_text of_type.Error = refl
code_text of_type.Accepted = refl
code_text of_type.Rejected = refl
code_text of_type.Released = refl
code_text of_type.Modified = refl

-- by whether there are no items, few of them, and few bytes
list_by : (none few short : Bool) (n : ℕ) (text : List ℕ) → few ≡ true → (none ≡ true → text ≡ [])
    → (if none then (0x45 ∷ []) else (full_code (narrowest (few && short)) kind.List ∷ full_data (narrowest (few && short)) (shell.List n) text))
    ≡ (if none then (0x45 ∷ [])
    else (if short then (0xc0 ∷ (big_bytes 1 (1 + length text) ++ big_bytes 1 n)) else (0xd0 ∷ (big_bytes 4 (4 + length text) ++ big_bytes 4 n)))) ++ text
list_by none false short n text is empty = absurd cc
list_by true true short n text is empty = ap (λ (t : List ℕ). 0x45 ∷ t) (sym (empty refl))
list_by false true true n text is empty = refl
list_by false true false n text is empty = refl

list_parts : (n : ℕ) (text : List ℕ) → n < 256 → (n ≡ 0 → text ≡ []) → shortest (shell.List n) text ≡ list_head n (length text) ++ text
unfolding list_head
list_parts n text lt empty =
    list_by (n == 0) (nat_lt n 256) (nat_lt (length text) 255) n text (lt-ltb n 256 lt) (λ e. empty (eqb-true n 0 e))

no_texts : (texts : List (List ℕ)) → length texts ≡ 0 → concat texts ≡ []
no_texts texts e = ap concat (nil_from_length texts e)

-- how long the list is
texts_len : (texts : List (List ℕ)) → length texts < 256 → length (list_text texts) ≡ length (list_head (length texts) (length (concat texts))) + length (concat texts)
texts_len texts few = ap length (list_parts (length texts) (concat texts) few (no_texts texts)) ∙ length-append (list_head (length texts) (length (concat texts))) (concat texts)

pub list_len : (values : List FieldText) (content : ℕ) → length values < 256 → content ≡ length (concat (field_spellings values))
    → length (list_text (field_spellings values)) ≡ length (list_head (length values) content) + length (concat (field_spellings values))
list_len values content few is =
    let texts = field_spellings values in
    let count : length texts ≡ length values = length-map values field_spelling in
    texts_len texts (omega arith)
    ∙ ap (λ (n : ℕ). length (list_head n (length (concat texts))) + length (concat texts)) count
    ∙ ap (λ (n : ℕ). length (list_head (length values) n) + length (concat texts)) (sym is)

-- the width of a list's size
pub width_is : (values : List FieldText) (count content width : ℕ) → length values ≡ count → content ≡ length (concat (field_spellings values))
    → ((text : List ℕ) → length text ≡ content → width ≡ length (shortest (shell.List count) text)) → width ≡ length (list_text (field_spellings values))
width_is values count content width few is widths =
    widths (concat (field_spellings values)) (sym is)
    ∙ ap (λ (n : ℕ). length (shortest (shell.List n) (concat (field_spellings values)))) (sym (length-map values field_spelling ∙ few))

-- what describes the list, the list and the payload
body_parts : (d : Descriptor) (texts used : List (List ℕ)) (payload : List ℕ) → trimmed texts ≡ used
    → described_text d texts ++ payload ≡ 0 ∷ 0x53 ∷ code_of d ∷ (list_text used ++ payload)
unfolding described_text
body_parts d texts used payload same =
    ap (λ (code : List ℕ). 0 ∷ ((code ++ list_text (trimmed texts)) ++ payload)) (code_text d)
    ∙ ap (λ (x : List (List ℕ)). 0 ∷ 0x53 ∷ code_of d ∷ (list_text x ++ payload)) same

-- how long a list's frame is
pub frame_len : (channel : ℕ) (d : Descriptor) (texts used : List (List ℕ)) (payload : List ℕ) → trimmed texts ≡ used
    → length (list_frame channel d texts payload) ≡ 11 + length (list_text used) + length payload
unfolding list_frame
frame_len channel d texts used payload same =
    ap (λ (body : List ℕ). length (frame_text channel body)) (body_parts d texts used payload same) ∙ omega (arith, length-append (list_text used) payload)

texts_parts : (channel : ℕ) (d : Descriptor) (texts used : List (List ℕ)) (payload : List ℕ) (len : ℕ) → trimmed texts ≡ used → length used < 256
    → len ≡ 11 + length (list_text used) + length payload
    → list_frame channel d texts payload ≡ ((head_text len channel d ++ list_head (length used) (length (concat used))) ++ concat used) ++ payload
unfolding list_frame head_text
texts_parts channel d texts used payload len same few is =
    let body = 0 ∷ 0x53 ∷ code_of d ∷ (list_text used ++ payload) in
    let size : 8 + length body ≡ len = omega (arith, length-append (list_text used) payload) in
    ap (frame_text channel) (body_parts d texts used payload same)
    ∙ ap (λ (n : ℕ). big_bytes 4 n ++ (2 ∷ 0 ∷ big_bytes 2 channel) ++ body) size
    ∙ ap (λ (list : List ℕ). head_text len channel d ++ (list ++ payload)) (list_parts (length used) (concat used) few (no_texts used))

frame_parts : (channel : ℕ) (d : Descriptor) (texts : List (List ℕ)) (values : List FieldText) (payload : List ℕ) (content len : ℕ)
    → trimmed texts ≡ field_spellings values → length values < 256 → content ≡ length (concat (field_spellings values))
    → len ≡ 11 + length (list_text (field_spellings values)) + length payload
    → list_frame channel d texts payload ≡ ((head_text len channel d ++ list_head (length values) content) ++ concat (field_spellings values)) ++ payload
frame_parts channel d texts values payload content len same few is_content is =
    let used = field_spellings values in
    let count : length used ≡ length values = length-map values field_spelling in
    texts_parts channel d texts used payload len same (omega arith) is
    ∙ ap (λ (n : ℕ). ((head_text len channel d ++ list_head n (length (concat used))) ++ concat used) ++ payload) count
    ∙ ap (λ (n : ℕ). ((head_text len channel d ++ list_head (length values) n) ++ concat used) ++ payload) (sym is_content)

head_len : (len channel : ℕ) (d : Descriptor) → length (head_text len channel d) ≡ 11
unfolding head_text
head_len len channel d = refl

-- the parts, written one behind the other
pub frame_written : (channel : ℕ) (d : Descriptor) (texts : List (List ℕ)) (values : List FieldText) (payload : List ℕ) (content len p q r n : ℕ) (old a b c new : List ℕ)
    → trimmed texts ≡ field_spellings values → length values < 256 → content ≡ length (concat (field_spellings values))
    → len ≡ 11 + length (list_text (field_spellings values)) + length payload → len ≤ length old
    → p ≡ 11 → q ≡ p + length (list_head (length values) content) → r ≡ q + length (concat (field_spellings values)) → n ≡ r + length payload
    → Writes 0 (head_text len channel d) old a → Writes p (list_head (length values) content) a b → Writes q (concat (field_spellings values)) b c → Writes r payload c new
    → (n ≡ length (list_frame channel d texts payload)) × (new ≡ list_frame channel d texts payload ++ drop n old)
frame_written channel d texts values payload content len p q r n old a b c new same few is_content is room ep eq er en w1 w2 w3 w4 =
    let head = head_text len channel d in
    let front = list_head (length values) content in
    let items = concat (field_spellings values) in
    let whole = frame_parts channel d texts values payload content len same few is_content is in
    let lh : length head ≡ 11 = head_len len channel d in
    let l2 : length (head ++ front) ≡ 11 + length front = length-append head front ∙ ap (λ (k : ℕ). k + length front) lh in
    let l3 : length ((head ++ front) ++ items) ≡ 11 + length front + length items = length-append (head ++ front) items ∙ ap (λ (k : ℕ). k + length items) l2 in
    let l4 : length (((head ++ front) ++ items) ++ payload) ≡ 11 + length front + length items + length payload =
    length-append ((head ++ front) ++ items) payload ∙ ap (λ (k : ℕ). k + length payload) l3 in
    let behind : n ≡ 11 + length front + length items + length payload = omega arith in
    let all : 11 + length front + length items + length payload ≤ length old = omega (arith, list_len values content few is_content) in
    let s2 = writes-writes 0 head front old a b (omega arith) w1 (subst (λ (k : ℕ). Writes k front a b) (omega arith) w2) in
    let s3 = writes-writes 0 (head ++ front) items old b c (omega arith) s2 (subst (λ (k : ℕ). Writes k items b c) (omega arith) w3) in
    let s4 = writes-writes 0 ((head ++ front) ++ items) payload old c new (omega arith) s3 (subst (λ (k : ℕ). Writes k payload c new) (omega arith) w4) in (
      behind ∙ sym l4 ∙ ap length (sym whole),
      s4 ∙ ap (λ (k : ℕ). (((head ++ front) ++ items) ++ payload) ++ drop k old) (omega arith) ∙ ap (λ (x : List ℕ). x ++ drop n old) (sym whole),
    )

-- The items first. ----------------------------------------------------------------------------------------------------

-- what stands in front of a few items
front_len : (count content : ℕ) → 0 < count → content < 255 → length (list_head count content) ≡ 3
unfolding list_head
front_len count content some few = rw (ne_eqb count 0 (λ e. omega arith), lt-ltb content 255 few) refl

-- it is one text with the head
pub front_is : (n channel count : ℕ) (d : Descriptor) → 0 < count → count < 256 → 14 ≤ n → n < 256
    → (big_bytes 4 n ++ (2 ∷ 0 ∷ big_bytes 2 channel)) ++ (0 ∷ 0x53 ∷ code_of d ∷ 0xc0 ∷ (n - 14 + 1) ∷ count ∷ []) ≡ head_text n channel d ++ list_head count (n - 14)
unfolding head_text list_head
front_is n channel count d some few least most =
    let size : (1 + (n - 14)) % 256 ≡ n - 14 + 1 = omega arith in
    let items : count % 256 ≡ count = omega arith in
    rw (ne_eqb count 0 (λ e. omega arith), lt-ltb (n - 14) 255 (omega arith), size, items) refl

-- a text is written at its place, and then what stands in front of it
front_last : (at : ℕ) (front text old mid new : List ℕ) → at + length text ≤ length old → length front ≡ at → Writes at text old mid → Writes 0 front mid new
    → new ≡ (front ++ text) ++ drop (at + length text) old
front_last at front text old mid new room e first second =
    let rest = drop (at + length text) old in
    let len : length (take at old) ≡ at = length-take-le at old (omega arith) in
    let kept : drop (0 + length front) mid ≡ text ++ rest =
    ap (λ (x : List ℕ). drop (0 + length front) x) first ∙ ap (λ (n : ℕ). drop n (take at old ++ (text ++ rest))) (omega (arith, e, len)) ∙ drop-append_seam (take at old) (text ++ rest) in
    second ∙ ap (λ (x : List ℕ). front ++ x) kept ∙ sym (append_assoc front text rest)

-- so are the items of a frame
pub items_first : (channel : ℕ) (d : Descriptor) (texts used : List (List ℕ)) (count n : ℕ) (old mid new : List ℕ)
    → trimmed texts ≡ used → length used ≡ count → 0 < count → count < 256 → n ≡ 14 + length (concat used) → n < 256 → n ≤ length old
    → Writes 14 (concat used) old mid → Writes 0 (head_text n channel d ++ list_head count (n - 14)) mid new → IsWritten (list_frame channel d texts []) (Some n) old new
items_first channel d texts used count n old mid new same many some few is short room items_in front_in =
    let items = concat used in
    let head = head_text n channel d in
    let front = list_head (length used) (length items) in
    let behind : n - 14 ≡ length items = omega arith in
    let fronts : head ++ list_head count (n - 14) ≡ head ++ front =
    ap (λ (k : ℕ). head ++ list_head k (n - 14)) (sym many) ∙ ap (λ (k : ℕ). head ++ list_head (length used) k) behind in
    let three : length front ≡ 3 = front_len (length used) (length items) (omega arith) (omega arith) in
    let whole = texts_parts channel d texts used [] n same (omega arith) (omega (arith, texts_len used (omega arith), three)) in
    let fourteen : length (head ++ front) ≡ 14 = length-append head front ∙ omega (arith, head_len n channel d, three) in
    let written = front_last 14 (head ++ front) items old mid new (omega arith) fourteen items_in (subst (λ (x : List ℕ). Writes 0 x mid new) fronts front_in) in
    let frame : list_frame channel d texts [] ≡ (head ++ front) ++ items = whole ∙ append-nil ((head ++ front) ++ items) in
    let len : length (list_frame channel d texts []) ≡ n = ap length frame ∙ length-append (head ++ front) items ∙ omega (arith, fourteen) in record {
      written = (sym len, written ∙ ap (λ (k : ℕ). ((head ++ front) ++ items) ++ drop k old) (sym is) ∙ ap (λ (x : List ℕ). x ++ drop n old) (sym frame));
      fits = (λ _. (omega (arith, len), omega (arith, len)), λ _. refl);
      unchanged = tt;
    }

-- a frame that fits has no more bytes in its values
pub values_fit : (channel : ℕ) (d : Descriptor) (texts : List (List ℕ)) (values : List FieldText) (payload : List ℕ) (room : ℕ)
    → trimmed texts ≡ field_spellings values → length values < 256 → FitsFrame (list_frame channel d texts payload) room
    → (length (concat (field_spellings values)) ≤ room) × (length (concat (field_spellings values)) < 2 ^ 32)
values_fit channel d texts values payload room same few fits =
    let len = frame_len channel d texts (field_spellings values) payload same in
    let list = list_len values (length (concat (field_spellings values))) few refl in
    (omega (arith, fits.0, len, list), omega (arith, fits.1, len, list))

-- nothing is written
pub not_written : (frame : List ℕ) (r : Option ℕ) (old new : List ℕ) → r ≡ None → new ≡ old → (FitsFrame frame (length old) → ⊥) → IsWritten frame r old new
not_written frame None old new none same never = record {
  written = tt;
  fits = (λ some. absurd cc, λ fits. absurd (never fits));
  unchanged = same;
}
not_written frame (Some n) old new none same never = absurd cc

-- the frame of a list, by the spellings of its fields
pub same_texts : (channel : ℕ) (d : Descriptor) (texts others : List (List ℕ)) (payload : List ℕ) (r : Option ℕ) (old new : List ℕ) → texts ≡ others
    → IsWritten (list_frame channel d texts payload) r old new → IsWritten (list_frame channel d others payload) r old new
same_texts channel d texts others payload r old new same w = subst (λ (x : List (List ℕ)). IsWritten (list_frame channel d x payload) r old new) same w

-- what is written of the same performative is the same
pub same_performative : (channel : ℕ) (p q : Performative) (payload : List ℕ) (r : Option ℕ) (old new : List ℕ) → p ≡ q
    → IsWritten (frame_of channel q payload) r old new → IsWritten (frame_of channel p payload) r old new
same_performative channel p q payload r old new same w = subst (λ (x : Performative). IsWritten (frame_of channel x payload) r old new) (sym same) w

-- the list that describes a performative, by the spellings of its fields, is its frame
pub same_list : (channel : ℕ) (d : Descriptor) (p q : Performative) (texts : List (List ℕ)) (payload : List ℕ) (r : Option ℕ) (old new : List ℕ)
    → d ≡ type_of p → p ≡ q → texts ≡ performative_texts q → IsWritten (list_frame channel d texts payload) r old new → IsWritten (frame_of channel p payload) r old new
same_list channel d p q texts payload r old new described same spelled w =
    let typed = subst (λ (x : Descriptor). IsWritten (list_frame channel x texts payload) r old new) (described ∙ ap type_of same) w in
    same_performative channel p q payload r old new same (same_texts channel (type_of q) texts (performative_texts q) payload r old new spelled typed)

-- One frame of the stream. --------------------------------------------------------------------------------------------

-- a frame that is written is one of the stream
pub one_frame : (max channel : ℕ) (body : List ℕ) → channel < 2 ^ 16 → length (frame_text channel body) < 2 ^ 32 → length (frame_text channel body) ≤ max
    → IsFrame max (frame_text channel body) × (channel_of (frame_text channel body) ≡ channel) × (body_of (frame_text channel body) ≡ body)
unfolding size_of channel_of
one_frame max channel body lt few most =
    let frame = frame_text channel body in
    let len : length frame ≡ 8 + length body = omega arith in
    let size : size_of frame ≡ 8 + length body =
    big_number-reads_back 4 (8 + length body) (2 ∷ 0 ∷ (big_bytes 2 channel ++ body)) (omega arith) in (
      record {
        whole = len ∙ sym size;
        sized = record { least = omega arith; most = omega arith };
        placed = record { least = omega arith; within = omega arith };
        typed = refl;
      },
      big_number-reads_back 2 channel body lt,
      refl,
    )
