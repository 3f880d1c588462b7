-- From the grammar to the outermost case.
use Rattle.std.proofs.Common.{◌≡◌, ℕ, zero, suc, ◌+◌, ◌^◌, ◌<◌, ◌≤◌, ◌⊎◌, cond, eqb, false, true, List, [], ◌∷◌, ◌++◌, length, take, drop, Some, Ok, Err, Result, refl, sym, ap, subst, ◌∙◌}
use Rattle.std.proofs.Common.{append_assoc, arith, inl, inr}
use Rattle.std.proofs.lemmas.List.{length-append, take_at, drop_at}
use Rattle.byteorder.specs.Endian.{big_bytes}
use Rattle.amqp_types.specs.declared.kind.Kind.{Kind}
use Rattle.amqp_types.specs.declared.kind.Kind.TheVariants as kind
use Rattle.amqp_types.specs.declared.code.Form.{Form}
use Rattle.amqp_types.specs.declared.code.Form.TheVariants as form
use Rattle.amqp_types.specs.declared.code.SizeWidth.{SizeWidth}
use Rattle.amqp_types.specs.declared.code.SizeWidth.TheVariants as size
use Rattle.amqp_types.specs.declared.code.Constructor.{Constructor}
use Rattle.amqp_types.specs.declared.code.Constructor.TheVariants.{Fixed, Variable, EmptyList, ListIn, MapIn, ArrayIn}
use Rattle.amqp_types.specs.declared.fault.ReadFault.{ReadFault}
use Rattle.amqp_types.specs.declared.window.Window.{Window}
use Rattle.amqp_types.specs.Codes.{find_code, kind_of, HasRoom}
use Rattle.amqp_types.specs.Kinds.{width, is_container}
use Rattle.amqp_types.specs.Peeks.{IsUnsigned, IsOtherNumber, IsOther}
use Rattle.amqp_types.specs.Reading.{Block, octets_at, big_at, number_at, block_at, count_at, allowed}
use Rattle.amqp_types.specs.Spelling.{size_len, SpellsNumber, SpellsOctets, SpellsBlock, Spells, SpellAll, IsNumberOf, AreOctetsOf}
use Rattle.amqp_types.specs.Trees.{Tree, Number, Octets, ListOf, MapOf, ArrayOf, Described, Trees, none, Pairs, count_of, depth_of}
use Rattle.amqp_types.proofs.Again.{no_zero, same_constructor, same_head, may_stand, block_again, count_again}
use Rattle.amqp_types.proofs.Complete.{octets_again, big_again, number_again}
use Rattle.amqp_types.proofs.Depths.{depth_within}

same_ok : {A : Type 0} (a b : A) → ◌≡◌ {A = Result A ReadFault} (Ok a) (Ok b) → a ≡ b
same_ok a b e = cc

-- an answer is no fault
pub no_ok : {A : Type 0} (e : ReadFault) (a : A) → ◌≡◌ {A = Result A ReadFault} (Err e) (Ok a) → ⊥
no_ok e a h = absurd cc

-- ---- data behind a constructor

-- what spells a value behind its code
abbrev pub SpellsBehind : Constructor → Tree → List ℕ → Type 0
SpellsBehind (Fixed k f) t data_ = (n : ℕ) × (t ≡ Number k n) × SpellsNumber f (width k) n data_ × IsNumberOf k n
SpellsBehind (Variable k s) t data_ = (octets : List ℕ) × (t ≡ Octets k octets) × SpellsOctets s octets data_ × AreOctetsOf k octets
SpellsBehind EmptyList t data_ = (t ≡ ListOf none) × (data_ ≡ [])
SpellsBehind (ListIn s) t data_ = (ts : Trees) × (parts : List ℕ) × (t ≡ ListOf ts) × SpellsBlock s (count_of ts) parts data_ × SpellAll ts parts
SpellsBehind (MapIn s) t data_ = (ps : Pairs) × (t ≡ MapOf ps)
SpellsBehind (ArrayIn s) t data_ = (ds : Trees) × (k : Kind) × (ts : Trees) × (t ≡ ArrayOf ds k ts)

own_behind : (c d : Constructor) (t : Tree) (code own : ℕ) (data_ text : List ℕ) → find_code code ≡ Some c → code ∷ data_ ≡ own ∷ text → find_code own ≡ Some d → SpellsBehind d t text →
    SpellsBehind c t data_
own_behind c d t code own data_ text found e is spelled =
    let same = same_head code own data_ text e in
    let con : c ≡ d = same_constructor code c d found (ap find_code same.0 ∙ is) in
    subst (λ (x : Constructor). SpellsBehind x t data_) (sym con) (subst (λ (x : List ℕ). SpellsBehind d t x) (sym same.1) spelled)

-- a spelling is its code and what is behind it
pub behind : (c : Constructor) (t : Tree) (code : ℕ) (data_ : List ℕ) → find_code code ≡ Some c → Spells t (code ∷ data_) → SpellsBehind c t data_
unfolding Spells
behind c (Number k n) code data_ found h = own_behind c (Fixed k h.1) (Number k n) code h.0 data_ h.2 found h.4 h.3 (n, refl, h.5, h.6)
behind c (Octets k octets) code data_ found h = own_behind c (Variable k h.1) (Octets k octets) code h.0 data_ h.2 found h.4 h.3 (octets, refl, h.5, h.6)
behind c (ListOf ts) code data_ found (inl h) = own_behind c EmptyList (ListOf ts) code h.0 data_ [] found h.2 h.1 (ap ListOf h.3, refl)
behind c (ListOf ts) code data_ found (inr h) = own_behind c (ListIn h.1) (ListOf ts) code h.0 data_ h.3 found h.5 h.4 (ts, h.2, refl, h.6, h.7)
behind c (MapOf ps) code data_ found h = own_behind c (MapIn h.1) (MapOf ps) code h.0 data_ h.3 found h.5 h.4 (ps, refl)
behind c (ArrayOf ds k ts) code data_ found h = own_behind c (ArrayIn h.1) (ArrayOf ds k ts) code h.0 data_ h.6 found h.8 h.7 (ds, k, ts, refl)
behind c (Described d t) code data_ found h = absurd (no_zero code c found (same_head code 0 data_ (h.0 ++ h.1) h.2).0)

-- a map or an array is none of the other cases
pub map_or_array : (c : Constructor) (t : Tree) (code : ℕ) (data_ : List ℕ) → ((s : SizeWidth) × (c ≡ MapIn s)) ⊎ ((s : SizeWidth) × (c ≡ ArrayIn s)) → find_code code ≡ Some c →
    Spells t (code ∷ data_) → IsOther t
map_or_array c t code data_ (inl is) found spelled =
    let h = behind (MapIn is.0) t code data_ (found ∙ ap Some is.1) spelled in
    subst (λ (x : Tree). IsOther x) (sym h.1) tt
map_or_array c t code data_ (inr is) found spelled =
    let h = behind (ArrayIn is.0) t code data_ (found ∙ ap Some is.1) spelled in
    subst (λ (x : Tree). IsOther x) (sym h.3) tt

-- ---- numbers

number_read : (w : Window) (k : Kind) (f : Form) (bytes : List ℕ) (t : Tree) (data_ rest : List ℕ) (h : SpellsBehind (Fixed k f) t data_) → bytes ≡ data_ ++ rest →
    number_at w k f bytes ≡ Ok (h.0, rest)
number_read w k f bytes t data_ rest h parts = ap (number_at w k f) parts ∙ number_again w k f h.0 data_ rest h.2 h.3

-- no number that is spelled fails
pub no_number_err : (w : Window) (k : Kind) (f : Form) (bytes : List ℕ) (e : ReadFault) → number_at w k f bytes ≡ Err e → (t : Tree) (data_ rest : List ℕ) → SpellsBehind (Fixed k f) t data_ →
    bytes ≡ data_ ++ rest → ⊥
no_number_err w k f bytes e read t data_ rest h parts = no_ok e (h.0, rest) (sym read ∙ number_read w k f bytes t data_ rest h parts)

-- a number that is read is the one that is spelled
pub number_is : (w : Window) (k : Kind) (f : Form) (bytes : List ℕ) (n : ℕ) (after : List ℕ) → number_at w k f bytes ≡ Ok (n, after) → (t : Tree) (data_ rest : List ℕ) →
    SpellsBehind (Fixed k f) t data_ → bytes ≡ data_ ++ rest → (t ≡ Number k n) × IsNumberOf k n
number_is w k f bytes n after read t data_ rest h parts =
    let same : n ≡ h.0 = ap (λ (x : ℕ × List ℕ). x.0) (same_ok (n, after) (h.0, rest) (sym read ∙ number_read w k f bytes t data_ rest h parts)) in
    (h.1 ∙ ap (Number k) (sym same), subst (λ (m : ℕ). IsNumberOf k m) (sym same) h.3)

-- the only number of no bytes
null_is : (f : Form) (n : ℕ) (data_ : List ℕ) → HasRoom f 0 → SpellsNumber f 0 n data_ → n ≡ 0
null_is form.Zero n data_ room h = h.0
null_is form.One n data_ room h = absurd (omega arith)
null_is form.OneByte n data_ room h = absurd (omega arith)
null_is form.OneSigned n data_ room h = absurd (omega arith)
null_is form.Full n data_ room h = omega (arith, h.0)

-- a null is the case Null
pub null_case : (k : Kind) (f : Form) (t : Tree) (data_ : List ℕ) → k ≡ kind.Null → HasRoom f (width k) → SpellsBehind (Fixed k f) t data_ → t ≡ Number kind.Null 0
null_case k f t data_ is room h =
    let room_is = subst (λ (j : Kind). HasRoom f (width j)) is room in
    let spelled = subst (λ (j : Kind). SpellsNumber f (width j) h.0 data_) is h.2 in
    h.1 ∙ ap (λ (j : Kind). Number j h.0) is ∙ ap (Number kind.Null) (null_is f h.0 data_ room_is spelled)

truth : (n : ℕ) → n < 2 → n ≡ cond (eqb n 1) 1 0
truth zero h = refl
truth (suc zero) h = refl
truth (suc (suc n)) h = absurd (omega arith)

-- a boolean is its case
pub boolean_case : (k : Kind) (t : Tree) (n : ℕ) → k ≡ kind.Boolean → (t ≡ Number k n) × IsNumberOf k n → t ≡ Number kind.Boolean (cond (eqb n 1) 1 0)
boolean_case k t n is h =
    let lt : n < 2 = subst (λ (j : Kind). IsNumberOf j n) is h.1 in
    h.0 ∙ ap (λ (j : Kind). Number j n) is ∙ ap (Number kind.Boolean) (truth n lt)

other_number : (k : Kind) → (k ≡ kind.Null → ⊥) → (k ≡ kind.Boolean → ⊥) → (k ≡ kind.Ubyte → ⊥) → (k ≡ kind.Ushort → ⊥) → (k ≡ kind.Uint → ⊥) → (k ≡ kind.Ulong → ⊥) → IsOtherNumber k
other_number kind.Null null boolean ubyte ushort uint ulong = absurd (null refl)
other_number kind.Boolean null boolean ubyte ushort uint ulong = absurd (boolean refl)
other_number kind.Ubyte null boolean ubyte ushort uint ulong = absurd (ubyte refl)
other_number kind.Ushort null boolean ubyte ushort uint ulong = absurd (ushort refl)
other_number kind.Uint null boolean ubyte ushort uint ulong = absurd (uint refl)
other_number kind.Ulong null boolean ubyte ushort uint ulong = absurd (ulong refl)
other_number _ null boolean ubyte ushort uint ulong = tt

-- a kind without a case of its own is Other
pub other_case : (k : Kind) (f : Form) (t : Tree) (data_ : List ℕ) → (k ≡ kind.Null → ⊥) → (k ≡ kind.Boolean → ⊥) → (k ≡ kind.Ubyte → ⊥) → (k ≡ kind.Ushort → ⊥) → (k ≡ kind.Uint → ⊥) →
    (k ≡ kind.Ulong → ⊥) → SpellsBehind (Fixed k f) t data_ → IsOther t
other_case k f t data_ null boolean ubyte ushort uint ulong h =
    subst (λ (x : Tree). IsOther x) (sym h.1) (other_number k null boolean ubyte ushort uint ulong)

-- the four kinds of unsigned numbers
pub unsigned_kind : (k : Kind) → (k ≡ kind.Ubyte) ⊎ ((k ≡ kind.Ushort) ⊎ ((k ≡ kind.Uint) ⊎ (k ≡ kind.Ulong))) → IsUnsigned k
unsigned_kind k (inl e) = subst (λ (j : Kind). IsUnsigned j) (sym e) tt
unsigned_kind k (inr (inl e)) = subst (λ (j : Kind). IsUnsigned j) (sym e) tt
unsigned_kind k (inr (inr (inl e))) = subst (λ (j : Kind). IsUnsigned j) (sym e) tt
unsigned_kind k (inr (inr (inr e))) = subst (λ (j : Kind). IsUnsigned j) (sym e) tt

-- ---- bytes

few : (s : SizeWidth) (n : ℕ) → n < 256 ^ size_len s → n < 2 ^ 32
few size.One n lt = omega arith
few size.Four n lt = lt

size_read : (w : Window) (k : Kind) (s : SizeWidth) (bytes : List ℕ) (t : Tree) (data_ rest : List ℕ) (h : SpellsBehind (Variable k s) t data_) → bytes ≡ data_ ++ rest →
    big_at w (size_len s) bytes ≡ Ok (length h.0, h.0 ++ rest)
size_read w k s bytes t data_ rest h parts =
    let front = big_bytes (size_len s) (length h.0) in
    ap (big_at w (size_len s)) (parts ∙ ap (λ (x : List ℕ). x ++ rest) h.2.1 ∙ append_assoc front h.0 rest) ∙ big_again w (size_len s) (length h.0) (h.0 ++ rest) h.2.0

-- no size that is spelled fails
pub no_size_err : (w : Window) (k : Kind) (s : SizeWidth) (bytes : List ℕ) (e : ReadFault) → big_at w (size_len s) bytes ≡ Err e → (t : Tree) (data_ rest : List ℕ) →
    SpellsBehind (Variable k s) t data_ → bytes ≡ data_ ++ rest → ⊥
no_size_err w k s bytes e read t data_ rest h parts = no_ok e _ (sym read ∙ size_read w k s bytes t data_ rest h parts)

octets_read : (w : Window) (k : Kind) (s : SizeWidth) (bytes : List ℕ) (n : ℕ) (tail : List ℕ) → big_at w (size_len s) bytes ≡ Ok (n, tail) →
    (t : Tree) (data_ rest : List ℕ) (h : SpellsBehind (Variable k s) t data_) → bytes ≡ data_ ++ rest → octets_at w n tail ≡ Ok (h.0, rest)
octets_read w k s bytes n tail counted t data_ rest h parts =
    let read = same_ok (n, tail) (length h.0, h.0 ++ rest) (sym counted ∙ size_read w k s bytes t data_ rest h parts) in
    ap (λ (x : ℕ × List ℕ). octets_at w x.0 x.1) read ∙ octets_again w (length h.0) h.0 rest refl

-- nor do the bytes behind it
pub no_octets_err : (w : Window) (k : Kind) (s : SizeWidth) (bytes : List ℕ) (n : ℕ) (tail : List ℕ) (e : ReadFault) → big_at w (size_len s) bytes ≡ Ok (n, tail) → octets_at w n tail ≡ Err e →
    (t : Tree) (data_ rest : List ℕ) → SpellsBehind (Variable k s) t data_ → bytes ≡ data_ ++ rest → ⊥
no_octets_err w k s bytes n tail e counted taken t data_ rest h parts = no_ok e _ (sym taken ∙ octets_read w k s bytes n tail counted t data_ rest h parts)

-- the bytes that are read are those of the value
pub octets_are : (k j : Kind) → k ≡ j → (w : Window) (s : SizeWidth) (bytes : List ℕ) (n : ℕ) (tail octets after : List ℕ) → big_at w (size_len s) bytes ≡ Ok (n, tail) →
    octets_at w n tail ≡ Ok (octets, after)
    → (t : Tree) (data_ rest : List ℕ) → SpellsBehind (Variable k s) t data_ → bytes ≡ data_ ++ rest → (t ≡ Octets j octets) × AreOctetsOf j octets × (length octets < 2 ^ 32)
octets_are k j is w s bytes n tail octets after counted taken t data_ rest h parts =
    let read = octets_read w k s bytes n tail counted t data_ rest h parts in
    let same : octets ≡ h.0 = ap (λ (x : List ℕ × List ℕ). x.0) (same_ok (octets, after) (h.0, rest) (sym taken ∙ read)) in
    let own : (t ≡ Octets k octets) × AreOctetsOf k octets × (length octets < 2 ^ 32) =
    subst (λ (x : List ℕ). (t ≡ Octets k x) × AreOctetsOf k x × (length x < 2 ^ 32)) (sym same) (h.1, h.3, few s (length h.0) h.2.0) in
    subst (λ (i : Kind). (t ≡ Octets i octets) × AreOctetsOf i octets × (length octets < 2 ^ 32)) is own

-- ---- lists

-- the block of a list is read, and its count and its items' spellings
pub list_block : (w : Window) (s : SizeWidth) (bytes : List ℕ) (t : Tree) (data_ rest : List ℕ) (h : SpellsBehind (ListIn s) t data_) → bytes ≡ data_ ++ rest
    → (within : Window) × (block_at w s (size_len s) bytes ≡ Ok (record { within = within; body = big_bytes (size_len s) (count_of h.0) ++ h.1; behind = rest }))
list_block w s bytes t data_ rest h parts =
    let b = block_again w s (size_len s) (count_of h.0) h.1 data_ rest h.3 (omega arith) in
    (b.0, ap (block_at w s (size_len s)) parts ∙ b.1)

-- nor does a list's block
pub no_block_err : (w : Window) (s : SizeWidth) (bytes : List ℕ) (e : ReadFault) → block_at w s (size_len s) bytes ≡ Err e → (t : Tree) (data_ rest : List ℕ) → SpellsBehind (ListIn s) t data_ →
    bytes ≡ data_ ++ rest → ⊥
no_block_err w s bytes e read t data_ rest h parts =
    let b = list_block w s bytes t data_ rest h parts in
    no_ok e _ (sym read ∙ b.1)

-- the count of a list that is spelled
pub list_count : (w : Window) (s : SizeWidth) (bytes : List ℕ) (b : Block) → block_at w s (size_len s) bytes ≡ Ok b → (t : Tree) (data_ rest : List ℕ) (h : SpellsBehind (ListIn s) t data_) →
    bytes ≡ data_ ++ rest
    → count_at b.within s false b.body ≡ Ok (count_of h.0, h.1)
list_count w s bytes b read t data_ rest h parts =
    let found = list_block w s bytes t data_ rest h parts in
    let body : b.body ≡ big_bytes (size_len s) (count_of h.0) ++ h.1 = ap (λ (x : Block). x.body) (same_ok b _ (sym read ∙ found.1)) in
    ap (count_at b.within s false) body ∙ count_again b.within s false (count_of h.0) h.1 h.3.0 (λ e. absurd (let f : false ≡ true = e in cc))

-- it does not fail
pub no_count_err : (w : Window) (s : SizeWidth) (bytes : List ℕ) (b : Block) (e : ReadFault) → block_at w s (size_len s) bytes ≡ Ok b → count_at b.within s false b.body ≡ Err e →
    (t : Tree) (data_ rest : List ℕ) → SpellsBehind (ListIn s) t data_ → bytes ≡ data_ ++ rest → ⊥
no_count_err w s bytes b e read counted t data_ rest h parts = no_ok e _ (sym counted ∙ list_count w s bytes b read t data_ rest h parts)

-- a list is the case List, with its count and items
pub list_case : (w : Window) (s : SizeWidth) (bytes : List ℕ) (b : Block) (n : ℕ) (items : List ℕ) → block_at w s (size_len s) bytes ≡ Ok b → count_at b.within s false b.body ≡ Ok (n, items) →
    (t : Tree) (code : ℕ) (data_ rest : List ℕ) → SpellsBehind (ListIn s) t data_ → bytes ≡ data_ ++ rest
    → (ts : Trees) × (head : List ℕ) × (t ≡ ListOf ts) × (n ≡ count_of ts) × (◌≡◌ {A = List ℕ} (code ∷ data_) (head ++ items)) × SpellAll ts items
list_case w s bytes b n items read counted t code data_ rest h parts =
    let same = same_ok (n, items) (count_of h.0, h.1) (sym counted ∙ list_count w s bytes b read t data_ rest h parts) in
    let items_is : items ≡ h.1 = ap (λ (x : ℕ × List ℕ). x.1) same in
    let whole = big_bytes (size_len s) (size_len s + length h.1) in
    let count = big_bytes (size_len s) (count_of h.0) in
    let text : data_ ≡ (whole ++ count) ++ items = h.3.2 ∙ sym (append_assoc whole count h.1) ∙ ap (λ (x : List ℕ). (whole ++ count) ++ x) (sym items_is) in
    (h.0, code ∷ (whole ++ count), h.2, ap (λ (x : ℕ × List ℕ). x.0) same, ap (λ (x : List ℕ). code ∷ x) text, subst (λ (x : List ℕ). SpellAll h.0 x) (sym items_is) h.4)

-- so is an empty one
pub empty_case : (t : Tree) (code : ℕ) (data_ : List ℕ) → SpellsBehind EmptyList t data_
    → (ts : Trees) × (head : List ℕ) × (t ≡ ListOf ts) × (0 ≡ count_of ts) × (◌≡◌ {A = List ℕ} (code ∷ data_) (head ++ [])) × SpellAll ts []
unfolding Spells
empty_case t code data_ h = (none, code ∷ [], h.0, refl, ap (λ (x : List ℕ). code ∷ x) h.1, refl)

-- ---- described values

-- a depth as large as the length is enough to skip a value
pub skip_ends : (bytes : List ℕ) (r : Result ℕ ReadFault) → ((t : Tree) (text rest : List ℕ) → Spells t text → depth_of t ≤ length bytes → bytes ≡ text ++ rest → r ≡ Ok (length text))
    → (t : Tree) (text rest : List ℕ) → Spells t text → bytes ≡ text ++ rest → r ≡ Ok (length text)
skip_ends bytes r only t text rest h parts =
    only t text rest h (omega (arith, ap length parts, length-append text rest, depth_within t text h)) parts

-- where as many bytes are in front as the first of two texts has
pub two_parts : (n : ℕ) (bytes first tail front back : List ℕ) → ◌≡◌ {A = Result ℕ ReadFault} (Ok n) (Ok (length first)) → bytes ≡ first ++ tail → front ≡ take n bytes → back ≡ drop n bytes →
    (front ≡ first) × (back ≡ tail)
two_parts n bytes first tail front back is parts f b =
    let len : length first ≡ n = sym (same_ok n (length first) is) in
    (f ∙ ap (take n) parts ∙ take_at first tail n len, b ∙ ap (drop n) parts ∙ drop_at first tail n len)

-- ---- any value, by its code

-- the code is a constructor's, and its data follow
abbrev pub Opened : List ℕ → List ℕ → ℕ → List ℕ → Type 0
Opened text rest code after = (c : Constructor) × (data_ : List ℕ) × (find_code code ≡ Some c) × (text ≡ code ∷ data_) × (after ≡ data_ ++ rest)

opened : (text rest : List ℕ) (code : ℕ) (after : List ℕ) (own : ℕ) (c : Constructor) (data_ : List ℕ) → code ∷ after ≡ text ++ rest → find_code own ≡ Some c → text ≡ own ∷ data_ →
    Opened text rest code after
opened text rest code after own c data_ e found is =
    let same = same_head code own after (data_ ++ rest) (e ∙ ap (λ (b : List ℕ). b ++ rest) is) in
    (c, data_, ap find_code same.0 ∙ found, is ∙ ap (λ (x : ℕ). x ∷ data_) (sym same.0), same.1)

-- a spelled value that is not described opens with a code
pub opens : (t : Tree) (text rest : List ℕ) (code : ℕ) (after : List ℕ) → Spells t text → code ∷ after ≡ text ++ rest → (code ≡ 0 → ⊥) → Opened text rest code after
unfolding Spells
opens (Number k n) text rest code after h e nz = opened text rest code after h.0 (Fixed k h.1) h.2 e h.3 h.4
opens (Octets k octets) text rest code after h e nz = opened text rest code after h.0 (Variable k h.1) h.2 e h.3 h.4
opens (ListOf ts) text rest code after (inl h) e nz = opened text rest code after h.0 EmptyList [] e h.1 h.2
opens (ListOf ts) text rest code after (inr h) e nz = opened text rest code after h.0 (ListIn h.1) h.3 e h.4 h.5
opens (MapOf ps) text rest code after h e nz = opened text rest code after h.0 (MapIn h.1) h.3 e h.4 h.5
opens (ArrayOf ds k ts) text rest code after h e nz = opened text rest code after h.0 (ArrayIn h.1) h.6 e h.7 h.8
opens (Described d t) text rest code after h e nz = absurd (nz (same_head code 0 after ((h.0 ++ h.1) ++ rest) (e ∙ ap (λ (b : List ℕ). b ++ rest) h.2)).0)

-- only a described value begins with 00
abbrev pub IsDescribed : Tree → List ℕ → List ℕ → List ℕ → Type 0
IsDescribed t text rest after = (d u : Tree) × (first second : List ℕ) × (t ≡ Described d u) × (text ≡ 0 ∷ (first ++ second)) × (after ≡ first ++ (second ++ rest)) × Spells d first × Spells u second

not_zero : (text rest : List ℕ) (code : ℕ) (after : List ℕ) (own : ℕ) (c : Constructor) (data_ : List ℕ) → code ∷ after ≡ text ++ rest → find_code own ≡ Some c → text ≡ own ∷ data_ → code ≡ 0 → ⊥
not_zero text rest code after own c data_ e found is z = no_zero own c found (sym (same_head code own after (data_ ++ rest) (e ∙ ap (λ (b : List ℕ). b ++ rest) is)).0 ∙ z)

-- a described one opens with 00
pub described_opens : (t : Tree) (text rest : List ℕ) (code : ℕ) (after : List ℕ) → Spells t text → code ∷ after ≡ text ++ rest → code ≡ 0 → IsDescribed t text rest after
unfolding Spells
described_opens (Number k n) text rest code after h e z = absurd (not_zero text rest code after h.0 (Fixed k h.1) h.2 e h.3 h.4 z)
described_opens (Octets k octets) text rest code after h e z = absurd (not_zero text rest code after h.0 (Variable k h.1) h.2 e h.3 h.4 z)
described_opens (ListOf ts) text rest code after (inl h) e z = absurd (not_zero text rest code after h.0 EmptyList [] e h.1 h.2 z)
described_opens (ListOf ts) text rest code after (inr h) e z = absurd (not_zero text rest code after h.0 (ListIn h.1) h.3 e h.4 h.5 z)
described_opens (MapOf ps) text rest code after h e z = absurd (not_zero text rest code after h.0 (MapIn h.1) h.3 e h.4 h.5 z)
described_opens (ArrayOf ds k ts) text rest code after h e z = absurd (not_zero text rest code after h.0 (ArrayIn h.1) h.6 e h.7 h.8 z)
described_opens (Described d t) text rest code after h e z =
    let same = same_head code 0 after ((h.0 ++ h.1) ++ rest) (e ∙ ap (λ (b : List ℕ). b ++ rest) h.2) in
    (d, t, h.0, h.1, refl, h.2, same.1 ∙ append_assoc h.0 h.1 rest, h.3, h.4)

-- a constructor that a spelling has may stand where depth is left
pub allowed_is : (at code : ℕ) (c : Constructor) → find_code code ≡ Some c → allowed at true (find_code code) ≡ Ok c
allowed_is at code c found = ap (allowed at true) found ∙ may_stand (is_container (kind_of c)) true at c (λ _. refl) refl

-- a constructor of a spelled value is allowed
pub no_allowed_err : (at code : ℕ) (c : Constructor) (e : ReadFault) → find_code code ≡ Some c → allowed at true (find_code code) ≡ Err e → ⊥
no_allowed_err at code c e found read = no_ok e c (sym read ∙ allowed_is at code c found)

-- and it is the one of its code
pub constructor_is : (at code : ℕ) (c d : Constructor) → find_code code ≡ Some c → allowed at true (find_code code) ≡ Ok d → c ≡ d
constructor_is at code c d found read = same_ok c d (sym (allowed_is at code c found) ∙ read)

-- no value is spelled by no bytes
pub never_empty : (t : Tree) (text rest : List ℕ) → Spells t text → length (text ++ rest) ≡ 0 → ⊥
unfolding Spells
never_empty (Number k n) text rest h e = absurd (omega (arith, e, length-append text rest, ap length h.4))
never_empty (Octets k octets) text rest h e = absurd (omega (arith, e, length-append text rest, ap length h.4))
never_empty (ListOf ts) text rest (inl h) e = absurd (omega (arith, e, length-append text rest, ap length h.2))
never_empty (ListOf ts) text rest (inr h) e = absurd (omega (arith, e, length-append text rest, ap length h.5))
never_empty (MapOf ps) text rest h e = absurd (omega (arith, e, length-append text rest, ap length h.5))
never_empty (ArrayOf ds k ts) text rest h e = absurd (omega (arith, e, length-append text rest, ap length h.8))
never_empty (Described d t) text rest h e = absurd (omega (arith, e, length-append text rest, ap length h.2))
