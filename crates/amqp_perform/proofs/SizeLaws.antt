-- Data that spell a value are as long as the code in front of them says, or the size.
use Rattle.std.proofs.Common.{◌≡◌, ℕ, ◌+◌, ◌^◌, ◌<◌, ◌≤◌, true, List, [], ◌∷◌, ◌++◌, length, Some, None, refl, sym, ap, subst, ◌∙◌, append_assoc, arith, inl, inr}
use Rattle.std.proofs.Math.Dec.{leb}
use Rattle.std.specs.Option.{option_map}
use Rattle.std.specs.Result.{result_ok}
use Rattle.std.proofs.lemmas.Bool.{le-leb}
use Rattle.std.proofs.lemmas.List.{take_at, drop_at, length-append}
use Rattle.std.proofs.lemmas.Option.{same_Some, none-some}
use Rattle.byteorder.specs.Endian.{big_bytes}
use Rattle.byteorder.specs.Numbers.{length-bytes_high_first}
use Rattle.amqp_types.specs.declared.code.Constructor.{Constructor}
use Rattle.amqp_types.specs.declared.code.Constructor.TheVariants as made
use Rattle.amqp_types.specs.declared.code.Form.{Form}
use Rattle.amqp_types.specs.declared.code.Form.TheVariants as form
use Rattle.amqp_types.specs.declared.code.SizeWidth.{SizeWidth}
use Rattle.amqp_types.specs.declared.code.SizeWidth.TheVariants as size
use Rattle.amqp_types.specs.Codes.{find_code}
use Rattle.amqp_types.specs.InHand.{outermost}
use Rattle.amqp_types.specs.Kinds.{width}
use Rattle.amqp_types.specs.Spelling.{size_len, form_len, SpellsNumber, SpellsBlock, Spells}
use Rattle.amqp_types.specs.Trees.{Tree, Number, Octets, ListOf, MapOf, ArrayOf, Described, count_of, pair_count, depth_of}
use Rattle.amqp_types.proofs.Again.{no_zero, same_constructor, same_head}
use Rattle.amqp_types.proofs.Complete.{big_again}
use Rattle.amqp_types.proofs.Peeks.{opens, described_opens, never_empty}
use Rattle.amqp_perform.specs.declared.sizes.Data.{Data}
use Rattle.amqp_perform.specs.declared.sizes.Data.TheVariants.{Fixed, Short, Long}
use Rattle.amqp_perform.specs.BodyReading.{octets_at, short_at, long_at}
use Rattle.amqp_perform.specs.Sizes.{sized_data, data_of, data_at}
use Rattle.amqp_perform.proofs.Behind.{byte_is, big_is}
use Rattle.amqp_perform.proofs.Steps.{behind_size}

-- a size, and as many bytes
abbrev IsSized : SizeWidth → List ℕ → Type 0
IsSized s text = (body : List ℕ) × (length body < 256 ^ size_len s) × (text ≡ big_bytes (size_len s) (length body) ++ body)

abbrev IsMeasured : Data → List ℕ → Type 0
IsMeasured (Fixed n) text = length text ≡ n
IsMeasured Short text = IsSized size.One text
IsMeasured Long text = IsSized size.Four text

sized_is : (s : SizeWidth) (text : List ℕ) → IsSized s text → IsMeasured (sized_data s) text
sized_is size.One text h = h
sized_is size.Four text h = h

number_len : (f : Form) (n number : ℕ) (text : List ℕ) → SpellsNumber f n number text → length text ≡ form_len f n
number_len form.Zero n number text h = ap length h.1
number_len form.One n number text h = ap length h.1
number_len form.OneByte n number text h = ap length h.1
number_len form.OneSigned n number text h = ap length h.3
number_len form.Full n number text h = ap length h.1 ∙ length-bytes_high_first n number

block_sized : (s : SizeWidth) (n : ℕ) (parts text : List ℕ) → SpellsBlock s n parts text → IsSized s text
block_sized s n parts text h =
    let whole = big_bytes (size_len s) n ++ parts in
    let len : length whole ≡ size_len s + length parts = length-append (big_bytes (size_len s) n) parts ∙ ap (λ (k : ℕ). k + length parts) (length-bytes_high_first (size_len s) n) in
    (whole, subst (λ (k : ℕ). k < 256 ^ size_len s) (sym len) h.1, h.2 ∙ ap (λ (k : ℕ). big_bytes (size_len s) k ++ whole) (sym len))

own : (c d : Constructor) (code head : ℕ) (data_ text : List ℕ) → find_code code ≡ Some c → code ∷ data_ ≡ head ∷ text → find_code head ≡ Some d → IsMeasured (data_of d) text →
    IsMeasured (data_of c) data_
own c d code head data_ text found e is measured =
    let same = same_head code head data_ text e in
    let con : c ≡ d = same_constructor code c d found (ap find_code same.0 ∙ is) in
    subst (λ (x : Constructor). IsMeasured (data_of x) data_) (sym con) (subst (λ (x : List ℕ). IsMeasured (data_of d) x) (sym same.1) measured)

measured : (c : Constructor) (t : Tree) (code : ℕ) (data_ : List ℕ) → find_code code ≡ Some c → Spells t (code ∷ data_) → IsMeasured (data_of c) data_
unfolding Spells
measured c (Number k n) code data_ found h = own c (made.Fixed k h.1) code h.0 data_ h.2 found h.4 h.3 (number_len h.1 (width k) n h.2 h.5)
measured c (Octets k octets) code data_ found h = own c (made.Variable k h.1) code h.0 data_ h.2 found h.4 h.3 (sized_is h.1 h.2 (octets, h.5.0, h.5.1))
measured c (ListOf ts) code data_ found (inl h) = own c made.EmptyList code h.0 data_ [] found h.2 h.1 refl
measured c (ListOf ts) code data_ found (inr h) = own c (made.ListIn h.1) code h.0 data_ h.3 found h.5 h.4 (sized_is h.1 h.3 (block_sized h.1 (count_of ts) h.2 h.3 h.6))
measured c (MapOf ps) code data_ found h = own c (made.MapIn h.1) code h.0 data_ h.3 found h.5 h.4 (sized_is h.1 h.3 (block_sized h.1 (pair_count ps) h.2 h.3 h.6))
measured c (ArrayOf ds k ts) code data_ found h =
    own c (made.ArrayIn h.1) code h.0 data_ h.6 found h.8 h.7 (sized_is h.1 h.6 (block_sized h.1 (count_of ts) (h.4 ++ h.2 ∷ h.5) h.6 h.9))
measured c (Described d t) code data_ found h = absurd (no_zero code c found (same_head code 0 data_ (h.0 ++ h.1) h.2).0)

-- data of that length are taken, whatever follows
octets_taken : (n : ℕ) (text rest : List ℕ) → length text ≡ n → octets_at n (text ++ rest) ≡ Some (text, rest)
octets_taken n text rest len =
    let long : leb n (length (text ++ rest)) ≡ true = le-leb n (length (text ++ rest)) (omega (arith, length-append text rest)) in
    rw (long, take_at text rest n len, drop_at text rest n len) refl

short_taken : (body rest : List ℕ) → length body < 256 → short_at (big_bytes 1 (length body) ++ (body ++ rest)) ≡ Some (body, rest)
short_taken body rest lt =
    let bytes = big_bytes 1 (length body) ++ (body ++ rest) in
    let n = sym (byte_is (outermost bytes) bytes) ∙ ap result_ok (big_again (outermost bytes) 1 (length body) (body ++ rest) lt) in
    ap behind_size n ∙ octets_taken (length body) body rest refl

long_taken : (body rest : List ℕ) → length body < 256 ^ 4 → long_at (big_bytes 4 (length body) ++ (body ++ rest)) ≡ Some (body, rest)
long_taken body rest lt =
    let bytes = big_bytes 4 (length body) ++ (body ++ rest) in
    let n = sym (big_is (outermost bytes) 4 bytes) ∙ ap result_ok (big_again (outermost bytes) 4 (length body) (body ++ rest) lt) in
    ap behind_size n ∙ octets_taken (length body) body rest refl

-- data are taken, and what follows them is left
abbrev Leaves : Data → List ℕ → List ℕ → Type 0
Leaves d bytes rest = (body : List ℕ) × (data_at d bytes ≡ Some (body, rest))

taken : (d : Data) (text rest : List ℕ) → IsMeasured d text → Leaves d (text ++ rest) rest
taken (Fixed n) text rest h = (text, octets_taken n text rest h)
taken Short text rest (body, lt, is) = (body, ap (λ (t : List ℕ). short_at (t ++ rest)) is ∙ ap short_at (append_assoc (big_bytes 1 (length body)) body rest) ∙ short_taken body rest lt)
taken Long text rest (body, lt, is) = (body, ap (λ (t : List ℕ). long_at (t ++ rest)) is ∙ ap long_at (append_assoc (big_bytes 4 (length body)) body rest) ∙ long_taken body rest lt)

-- the data of a value, by its code
data_taken : (t : Tree) (code : ℕ) (text rest : List ℕ) → Spells t (code ∷ text) → (code ≡ 0 → ⊥)
    → (d : Data) × (option_map data_of (find_code code) ≡ Some d) × (body : List ℕ) × (data_at d (text ++ rest) ≡ Some (body, rest))
data_taken t code text rest spelled other =
    let o = opens t (code ∷ text) rest code (text ++ rest) spelled refl other in
    let left = taken (data_of o.0) text rest (measured o.0 t code text o.2 spelled) in
    (data_of o.0, ap (option_map data_of) o.2, left.0, left.1)

-- a value's code has its data
pub no_form : (t : Tree) (code : ℕ) (text : List ℕ) → Spells t (code ∷ text) → (code ≡ 0 → ⊥) → None ≡ option_map data_of (find_code code) → ⊥
no_form t code text spelled other none = let d = data_taken t code text [] spelled other in none-some d.0 (none ∙ d.1)

-- and what follows them is left
pub form_left : (t : Tree) (code : ℕ) (text rest bytes : List ℕ) (form : Data) → Spells t (code ∷ text) → (code ≡ 0 → ⊥) → Some form ≡ option_map data_of (find_code code) → bytes ≡ text ++ rest
    → (body : List ℕ) × (data_at form bytes ≡ Some (body, rest))
form_left t code text rest bytes form spelled other is parts =
    let d = data_taken t code text rest spelled other in
    (d.2, ap (λ (f : Data). data_at f bytes) (same_Some form d.0 (is ∙ d.1)) ∙ ap (data_at d.0) parts ∙ d.3)

-- Values. -------------------------------------------------------------------------------------------------------------

-- no value is spelled by nothing
pub not_empty : (t : Tree) (text rest bytes : List ℕ) → Spells t text → bytes ≡ text ++ rest → length bytes ≡ 0 → ⊥
not_empty t text rest bytes spelled parts none = never_empty t text rest spelled (sym (ap length parts) ∙ none)

-- a value by its code and its data
pub coded : (t : Tree) (text rest bytes : List ℕ) (code : ℕ) (after : List ℕ) → Spells t text → bytes ≡ text ++ rest → bytes ≡ code ∷ after → (code ≡ 0 → ⊥)
    → (data_ : List ℕ) × Spells t (code ∷ data_) × (after ≡ data_ ++ rest)
coded t text rest bytes code after spelled parts is other =
    let o = opens t text rest code after spelled (sym is ∙ parts) other in
    (o.1, subst (λ (b : List ℕ). Spells t b) o.3 spelled, o.4)

-- a described one by what describes it and what it describes, each a level less deep
pub record IsDescribedBy (depth : ℕ) (after rest : List ℕ) : Type 0 where
  pub first : List ℕ
  pub second : List ℕ
  pub descriptor : Tree
  pub described : Tree
  pub parts : after ≡ first ++ (second ++ rest)
  pub spelled : Spells descriptor first
  pub deep : depth_of descriptor + 1 ≤ depth
  pub others : Spells described second
  pub others_deep : depth_of described + 1 ≤ depth

-- where a value begins with 00 it is one
pub described : (t : Tree) (text rest bytes : List ℕ) (code : ℕ) (after : List ℕ) (depth : ℕ) → Spells t text → depth_of t ≤ depth → bytes ≡ text ++ rest → bytes ≡ code ∷ after → code ≡ 0 →
    IsDescribedBy depth after rest
described t text rest bytes code after depth spelled deep parts is zero =
    let o = described_opens t text rest code after spelled (sym is ∙ parts) zero in
    let deeper : depth_of (Described o.0 o.1) ≤ depth = subst (λ (u : Tree). depth_of u ≤ depth) o.4 deep in
    record {
      first = o.2;
      second = o.3;
      descriptor = o.0;
      described = o.1;
      parts = o.6;
      spelled = o.7;
      deep = omega (arith, deeper);
      others = o.8;
      others_deep = omega (arith, deeper);
    }
