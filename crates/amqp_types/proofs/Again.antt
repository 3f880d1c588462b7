-- What is spelled is read, whatever follows, where the depth and the nodes suffice.
use Rattle.std.proofs.Common.{◌≡◌, ℕ, zero, suc, ◌+◌, ◌-◌, ◌*◌, ◌/◌, ◌%◌, ◌^◌, ◌<◌, ◌≤◌, ◌⊎◌, max, Bool, true, false, cond, eqb, ◌&&◌, not, is_some, ◌==◌, List, [], ◌∷◌, ◌++◌, length, Option, Some}
use Rattle.std.proofs.Common.{None, Ok, refl, sym, ap, subst, ◌∙◌, append_assoc, arith, inl, inr}
use Rattle.std.proofs.lemmas.Bool.{le-ltb, ne_eqb, and_parts}
use Rattle.std.proofs.lemmas.List.{append-nil, length-append, append_cancel_right}
use Rattle.byteorder.specs.Endian.{big_bytes}
use Rattle.byteorder.specs.Numbers.{length-bytes_high_first}
use Rattle.amqp_types.specs.declared.kind.Kind.{Kind}
use Rattle.amqp_types.specs.declared.code.SizeWidth.{SizeWidth}
use Rattle.amqp_types.specs.declared.code.Constructor.{Constructor}
use Rattle.amqp_types.specs.declared.code.Constructor.TheVariants.{Fixed, Variable, EmptyList, ListIn, MapIn, ArrayIn}
use Rattle.amqp_types.specs.declared.fault.ReadFault.TheVariants.{BadSize, NoMemory}
use Rattle.amqp_types.specs.declared.window.Window.{Window}
use Rattle.std.specs.Map.{lookup}
use Rattle.amqp_types.specs.Codes.{constructors, find_code, kind_of}
use Rattle.amqp_types.specs.Kinds.{is_container}
use Rattle.amqp_types.specs.Trees.{Tree, Number, Octets, ListOf, MapOf, ArrayOf, Described, Trees, none, more, Pairs, no_pair, pair, count_of, pair_count, IsLawful, AreLawful, ArePairsLawful}
use Rattle.amqp_types.specs.Trees.{depth_of, depth_of_all, depth_of_pairs, nodes_in, nodes_in_all, nodes_in_pairs}
use Rattle.amqp_types.specs.Images.{has_key}
use Rattle.amqp_types.specs.Spelling.{size_len, SpellsBlock, Spells, SpellAll, SpellDescriptors, SpellItems, SpellPairs}
use Rattle.amqp_types.specs.InHand.{Budget, place}
use Rattle.amqp_types.specs.Reading.{Part, charge, behind, block_at, count_at, trees_at, distinct, pairs_at, allowed, head_at, list_at, map_at, array_at, item_by, described_at}
use Rattle.amqp_types.specs.Reading.{value_by, level_by, inside}
use Rattle.amqp_types.proofs.Complete.{octets_again, big_again, number_again, sized_again}
use Rattle.amqp_types.proofs.ImageLaws.{AreNew, keys_new}
use Rattle.amqp_types.specs.Misreading.{IsCounted, Enough, spend}

-- ---- budgets

-- nodes that are left may be charged
pub charged : (budget : Budget) (n at : ℕ) → Enough budget n → charge budget n at ≡ Ok (spend budget n)
charged None n at h = refl
charged (Some b) n at h = rw (le-ltb b n h) refl

spend_spend : (budget : Budget) (m n : ℕ) → spend (spend budget m) n ≡ spend budget (m + n)
spend_spend None m n = refl
spend_spend (Some b) m n = let e : b - m - n ≡ b - (m + n) = omega arith in ap (λ (k : ℕ). Some k) e

-- what is left behind them
pub behind_spend : (budget : Budget) (m : ℕ) → behind budget (spend budget m) ≡ spend budget m
behind_spend None m = refl
behind_spend (Some b) m = refl

enough_less : (budget : Budget) (m n : ℕ) → m ≤ n → Enough budget n → Enough budget m
enough_less None m n le h = tt
enough_less (Some b) m n le h = omega arith

enough_rest : (budget : Budget) (m n : ℕ) → Enough budget (m + n) → Enough (spend budget m) n
enough_rest None m n h = tt
enough_rest (Some b) m n h = omega arith

counted_spend : (budget : Budget) (m : ℕ) → IsCounted (spend budget m) → IsCounted budget
counted_spend None m c = c
counted_spend (Some b) m c = tt

spend_zero : (budget : Budget) → spend budget 0 ≡ budget
spend_zero None = refl
spend_zero (Some b) = let e : b - 0 ≡ b = omega arith in ap (λ (k : ℕ). Some k) e

-- ---- blocks

-- a block that is spelled is read so
pub block_again : (w : Window) (s : SizeWidth) (least n : ℕ) (parts text rest : List ℕ) → SpellsBlock s n parts text → least ≤ size_len s + length parts
    → (within : Window) × (block_at w s least (text ++ rest) ≡ Ok (record { within = within; body = big_bytes (size_len s) n ++ parts; behind = rest }))
unfolding block_at
block_again w s least n parts text rest h le =
    let body = big_bytes (size_len s) n ++ parts in
    let size = size_len s + length parts in
    let regrouped : text ++ rest ≡ big_bytes (size_len s) size ++ (body ++ rest) = ap (λ (t : List ℕ). t ++ rest) h.2 ∙ append_assoc (big_bytes (size_len s) size) body rest in
    let len : length body ≡ size = length-append (big_bytes (size_len s) n) parts ∙ ap (λ (k : ℕ). k + length parts) (length-bytes_high_first (size_len s) n) in
    let bytes = text ++ rest in (
      record { short = BadSize (place w (big_bytes (size_len s) size ++ (body ++ rest))); end = place w rest },
      rw (regrouped, big_again w (size_len s) size (body ++ rest) h.1, le-ltb size least le, octets_again w size body rest len) refl,
    )

-- so is a count
pub count_again : (w : Window) (s : SizeWidth) (paired : Bool) (n : ℕ) (parts : List ℕ) → n < 256 ^ size_len s → (paired ≡ true → n % 2 ≡ 0) →
    count_at w s paired (big_bytes (size_len s) n ++ parts) ≡ Ok (n, parts)
unfolding count_at
count_again w s true n parts lt even =
    let e = even refl in
    let odd : eqb (n % 2) 1 ≡ false = ne_eqb (n % 2) 1 (omega arith) in
    rw (big_again w (size_len s) n parts lt, odd) refl
count_again w s false n parts lt even = rw (big_again w (size_len s) n parts lt) refl

-- ---- what is to be shown of each value

-- a spelled value is read again, alone and as an item of an array
pub record IsAgain (t : Tree) : Type 0 where
  pub value : (depth : ℕ) (w : Window) (due : ℕ) (budget : Budget) (text rest : List ℕ) → Spells t text → depth_of t ≤ depth → Enough budget (due + nodes_in t) → (IsCounted budget → IsLawful t)
      → value_by (inside depth) w due budget (text ++ rest) ≡ Ok (t, spend budget (due + nodes_in t), rest)
  pub item : (c : Constructor) (element depth : ℕ) (w : Window) (budget : Budget) (text rest : List ℕ) → find_code element ≡ Some c → Spells t (element ∷ text) → depth_of t ≤ depth →
      Enough budget (nodes_in t) → (IsCounted budget → IsLawful t)
      → item_by (inside depth) c w budget (text ++ rest) ≡ Ok (t, spend budget (nodes_in t), rest)

abbrev AllAgain : Trees → Type 0
AllAgain none = Unit {0}
AllAgain (more t ts) = IsAgain t × AllAgain ts

abbrev PairsAgain : Pairs → Type 0
PairsAgain no_pair = Unit {0}
PairsAgain (pair k v ps) = IsAgain k × IsAgain v × PairsAgain ps

-- no constructor has the code 00
pub no_zero : (element : ℕ) (c : Constructor) → find_code element ≡ Some c → element ≡ 0 → ⊥
no_zero zero c e z = absurd cc
no_zero (suc element) c e z = omega arith

-- a constructor that may stand where it does is allowed there
pub may_stand : (b h : Bool) (at : ℕ) (c : Constructor) → (b ≡ true → h ≡ true) → b ≡ is_container (kind_of c) → allowed at h (Some c) ≡ Ok c
may_stand true h at c p e = rw (← e, p refl) refl
may_stand false h at c p e = rw (← e) refl

-- a value that isn't described, by its constructor and its data
value_from_item : (t : Tree) (c : Constructor) (code depth : ℕ) (w : Window) (due : ℕ) (budget : Budget) (text rest : List ℕ) → find_code code ≡ Some c →
    (is_container (kind_of c) ≡ true → is_some (inside depth) ≡ true) → Enough budget due
    → item_by (inside depth) c w (spend budget due) (text ++ rest) ≡ Ok (t, spend (spend budget due) (nodes_in t), rest)
    → value_by (inside depth) w due budget (code ∷ (text ++ rest)) ≡ Ok (t, spend budget (due + nodes_in t), rest)
unfolding value_by
value_from_item t c code depth w due budget text rest is holds enough item =
    let at = place w (code ∷ (text ++ rest)) in
    let may : allowed at (is_some (inside depth)) (Some c) ≡ Ok c = may_stand (is_container (kind_of c)) (is_some (inside depth)) at c holds refl in
    rw (ne_eqb code 0 (no_zero code c is), is, may, charged budget due at enough, item, spend_spend budget due (nodes_in t)) refl

-- a container's depth is one more than what is in it
inner_level : (depth need : ℕ) → need + 1 ≤ depth → (d : ℕ) × (depth ≡ suc d) × (need ≤ d)
inner_level zero need h = absurd (omega arith)
inner_level (suc d) need h = (d, refl, omega arith)

value_of_all : ℕ → Window → Budget → List ℕ → Part Tree
value_of_all depth w = value_by (inside depth) w 0

list_again : (ts : Trees) → AllAgain ts → (depth : ℕ) (w : Window) (budget : Budget) (text rest : List ℕ) → SpellAll ts text → depth_of_all ts ≤ depth → Enough budget (nodes_in_all ts) →
    (IsCounted budget → AreLawful ts)
    → trees_at (λ within. value_by (inside depth) within 0) (count_of ts) w budget (text ++ rest) ≡ Ok (ts, spend budget (nodes_in_all ts), rest)
unfolding trees_at Spells
list_again none all depth w budget text rest h deep enough lawful = rw (h, spend_zero budget) refl
list_again (more t ts) all depth w budget text rest h deep enough lawful =
    let one = λ (within : Window). value_by (inside depth) within 0 in
    let n : count_of ts + 1 ≡ suc (count_of ts) = omega arith in
    let regrouped : text ++ rest ≡ h.0 ++ (h.1 ++ rest) = ap (λ (b : List ℕ). b ++ rest) h.2 ∙ append_assoc h.0 h.1 rest in
    let first = all.0.value depth w 0 budget h.0 (h.1 ++ rest) h.3 (omega arith) (enough_less budget (0 + nodes_in t) (nodes_in t + nodes_in_all ts) (omega arith) enough) (λ c. (lawful c).0) in
    let zero_off : 0 + nodes_in t ≡ nodes_in t = omega arith in
    let others = list_again ts all.1 depth w (spend budget (nodes_in t)) h.1 rest h.4 (omega arith) (enough_rest budget (nodes_in t) (nodes_in_all ts) enough)
    (λ c. (lawful (counted_spend budget (nodes_in t) c)).1) in
    rw (n, regrouped, first, zero_off, behind_spend budget (nodes_in t), others, spend_spend budget (nodes_in t) (nodes_in_all ts)) refl

items_again : (c : Constructor) (element : ℕ) → find_code element ≡ Some c → (ts : Trees) → AllAgain ts → (depth : ℕ) (w : Window) (budget : Budget) (text rest : List ℕ) →
    SpellItems element ts text → depth_of_all ts ≤ depth → Enough budget (nodes_in_all ts) → (IsCounted budget → AreLawful ts)
    → trees_at (item_by (inside depth) c) (count_of ts) w budget (text ++ rest) ≡ Ok (ts, spend budget (nodes_in_all ts), rest)
unfolding trees_at Spells
items_again c element is none all depth w budget text rest h deep enough lawful = rw (h, spend_zero budget) refl
items_again c element is (more t ts) all depth w budget text rest h deep enough lawful =
    let n : count_of ts + 1 ≡ suc (count_of ts) = omega arith in
    let regrouped : text ++ rest ≡ h.0 ++ (h.1 ++ rest) = ap (λ (b : List ℕ). b ++ rest) h.2 ∙ append_assoc h.0 h.1 rest in
    let first = all.0.item c element depth w budget h.0 (h.1 ++ rest) is h.3 (omega arith) (enough_less budget (nodes_in t) (nodes_in t + nodes_in_all ts) (omega arith) enough) (λ c. (lawful c).0) in
    let others = items_again c element is ts all.1 depth w (spend budget (nodes_in t)) h.1 rest h.4 (omega arith) (enough_rest budget (nodes_in t) (nodes_in_all ts) enough)
    (λ c. (lawful (counted_spend budget (nodes_in t) c)).1) in
    rw (n, regrouped, first, behind_spend budget (nodes_in t), others, spend_spend budget (nodes_in t) (nodes_in_all ts)) refl

is_new : {A : Type 0} (budget : Budget) (seen : Trees) (key : Tree) (at : ℕ) (x : A) → (IsCounted budget → has_key key seen ≡ false) → distinct budget seen key at x ≡ Ok x
is_new None seen key at x h = refl
is_new (Some b) seen key at x h = rw (h tt) refl

abbrev halved : Pairs → ℕ
halved no_pair = 0
halved (pair k v ps) = halved ps + 1

halved-is : (ps : Pairs) → pair_count ps ≡ 2 * halved ps
halved-is no_pair = refl
halved-is (pair k v ps) = let h = halved-is ps in omega arith

pairs_again : (ps : Pairs) → PairsAgain ps → (seen : Trees) (depth : ℕ) (w : Window) (budget : Budget) (text rest : List ℕ) → SpellPairs ps text → depth_of_pairs ps ≤ depth →
    Enough budget (nodes_in_pairs ps) → (IsCounted budget → ArePairsLawful ps × AreNew seen ps)
    → pairs_at (level_by (inside depth)) seen (halved ps) w budget (text ++ rest) ≡ Ok (ps, spend budget (nodes_in_pairs ps), rest)
unfolding pairs_at Spells
pairs_again no_pair all seen depth w budget text rest h deep enough lawful = rw (h, spend_zero budget) refl
pairs_again (pair k v ps) all seen depth w budget text rest h deep enough lawful =
    let n : halved ps + 1 ≡ suc (halved ps) = omega arith in
    let tail = h.1 ++ (h.2 ++ rest) in
    let regrouped : text ++ rest ≡ h.0 ++ tail = ap (λ (b : List ℕ). b ++ rest) h.3 ∙ append_assoc h.0 (h.1 ++ h.2) rest ∙ ap (λ (b : List ℕ). h.0 ++ b) (append_assoc h.1 h.2 rest) in
    let first = all.0.value depth w 0 budget h.0 tail h.4 (omega arith) (enough_less budget (0 + nodes_in k) (nodes_in k + nodes_in v + nodes_in_pairs ps) (omega arith) enough)
    (λ c. (lawful c).0.0) in
    let zero_k : 0 + nodes_in k ≡ nodes_in k = omega arith in
    let zero_v : 0 + nodes_in v ≡ nodes_in v = omega arith in
    let left = spend budget (nodes_in k) in
    let enough_k : Enough left (nodes_in v + nodes_in_pairs ps) = enough_rest budget (nodes_in k) (nodes_in v + nodes_in_pairs ps) (enough_less budget _ _ (omega arith) enough) in
    let second = all.1.value depth w 0 left h.1 (h.2 ++ rest) h.5 (omega arith) (enough_less left (0 + nodes_in v) (nodes_in v + nodes_in_pairs ps) (omega arith) enough_k)
    (λ c. (lawful (counted_spend budget (nodes_in k) c)).0.1) in
    let last = spend left (nodes_in v) in
    let counted : IsCounted last → IsCounted budget = λ c. counted_spend budget (nodes_in k) (counted_spend left (nodes_in v) c) in
    let others = pairs_again ps all.2 (more k seen) depth w last h.2 rest h.6 (omega arith) (enough_rest left (nodes_in v) (nodes_in_pairs ps) enough_k)
    (λ c. ((lawful (counted c)).0.3, (lawful (counted c)).1.1)) in
    let new = is_new {A = Tree × Budget × List ℕ} budget seen k (place w (h.0 ++ tail)) (k, left, tail) (λ c. (lawful c).1.0) in
    let both : behind budget (spend left (nodes_in v)) ≡ last = ap (behind budget) (spend_spend budget (nodes_in k) (nodes_in v)) ∙ behind_spend budget (nodes_in k + nodes_in v)
    ∙ sym (spend_spend budget (nodes_in k) (nodes_in v)) in
    let total : spend last (nodes_in_pairs ps) ≡ spend budget (nodes_in k + nodes_in v + nodes_in_pairs ps) = ap (λ (b : Budget). spend b (nodes_in_pairs ps))
    (spend_spend budget (nodes_in k) (nodes_in v)) ∙ spend_spend budget (nodes_in k + nodes_in v) (nodes_in_pairs ps) in
    rw (n, regrouped, first, zero_k, new, behind_spend budget (nodes_in k), second, zero_v, both, others, total) refl

head_again : (ds : Trees) → AllAgain ds → (c : Constructor) (element fuel depth : ℕ) (w : Window) (budget : Budget) (head rest : List ℕ) → count_of ds + 1 ≤ fuel → find_code element ≡ Some c →
    (is_container (kind_of c) ≡ true → is_some (inside depth) ≡ true)
    → SpellDescriptors ds head → depth_of_all ds ≤ depth → Enough budget (count_of ds + nodes_in_all ds) → (IsCounted budget → AreLawful ds)
    → head_at fuel (level_by (inside depth)) w budget (head ++ element ∷ rest) ≡ Ok (record { descriptors = ds; constructor = c }, spend budget (count_of ds + nodes_in_all ds), rest)
unfolding head_at Spells
head_again ds all c element zero depth w budget head rest le is holds h deep enough lawful = absurd (omega arith)
head_again none all c element (suc fuel) depth w budget head rest le is holds h deep enough lawful =
    let at = place w (element ∷ rest) in
    rw (h, ne_eqb element 0 (no_zero element c is), is, may_stand (is_container (kind_of c)) (is_some (inside depth)) at c holds refl, spend_zero budget) refl
head_again (more d ds) all c element (suc fuel) depth w budget head rest le is holds h deep enough lawful =
    let tail = h.1 ++ element ∷ rest in
    let regrouped : head ++ element ∷ rest ≡ 0 ∷ (h.0 ++ tail) = ap (λ (b : List ℕ). b ++ element ∷ rest) h.2 ∙ ap (λ (b : List ℕ). 0 ∷ b) (append_assoc h.0 h.1 (element ∷ rest)) in
    let paid = charged budget 1 (place w (0 ∷ (h.0 ++ tail))) (enough_less budget 1 (count_of ds + 1 + (nodes_in d + nodes_in_all ds)) (omega arith) enough) in
    let left = spend budget 1 in
    let enough_left : Enough left (nodes_in d + (count_of ds + nodes_in_all ds)) = enough_rest budget 1 (nodes_in d + (count_of ds + nodes_in_all ds)) (enough_less budget _ _ (omega arith) enough) in
    let first = all.0.value depth w 0 left h.0 tail h.3 (omega arith) (enough_less left (0 + nodes_in d) (nodes_in d + (count_of ds + nodes_in_all ds)) (omega arith) enough_left)
    (λ c. (lawful (counted_spend budget 1 c)).0) in
    let zero_off : 0 + nodes_in d ≡ nodes_in d = omega arith in
    let last = spend left (nodes_in d) in
    let others = head_again ds all.1 c element fuel depth w last h.1 rest (omega arith) is holds h.4 (omega arith) (enough_rest left (nodes_in d) (count_of ds + nodes_in_all ds) enough_left)
    (λ c. (lawful (counted_spend budget 1 (counted_spend left (nodes_in d) c))).1) in
    let kept : behind budget last ≡ last = ap (behind budget) (spend_spend budget 1 (nodes_in d)) ∙ behind_spend budget (1 + nodes_in d) ∙ sym (spend_spend budget 1 (nodes_in d)) in
    let total : spend last (count_of ds + nodes_in_all ds) ≡ spend budget (count_of ds + 1 + (nodes_in d + nodes_in_all ds)) =
    ap (λ (b : Budget). spend b (count_of ds + nodes_in_all ds)) (spend_spend budget 1 (nodes_in d)) ∙ spend_spend budget (1 + nodes_in d) (count_of ds + nodes_in_all ds)
    ∙ ap (λ (k : ℕ). spend budget k) (omega arith) in
    rw (regrouped, paid, first, zero_off, kept, others, total) refl

-- a code has one constructor
pub same_constructor : (element : ℕ) (a b : Constructor) → find_code element ≡ Some a → find_code element ≡ Some b → a ≡ b
same_constructor element a b p q = some (sym p ∙ q)
  where
    some : Some a ≡ Some b → a ≡ b
    some e = cc

-- two lists are the same in their heads and behind them
pub same_head : (a b : ℕ) (xs ys : List ℕ) → a ∷ xs ≡ b ∷ ys → (a ≡ b) × (xs ≡ ys)
same_head a b xs ys e = (cc, cc)

-- what an item is behind its constructor, whatever stands in front of the data
scalar_again : (t : Tree) (code depth : ℕ) (c : Constructor) (w : Window) (budget : Budget) (rest : List ℕ) (read : Part Tree) → nodes_in t ≡ 0 → read ≡ Ok (t, budget, rest) →
    read ≡ Ok (t, spend budget (nodes_in t), rest)
scalar_again t code depth c w budget rest read n e = e ∙ ap (λ (b : Budget). Ok (t, b, rest)) (sym (ap (spend budget) n ∙ spend_zero budget))

number_item : (k : Kind) (n : ℕ) (c : Constructor) (element depth : ℕ) (w : Window) (budget : Budget) (text rest : List ℕ) → find_code element ≡ Some c → Spells (Number k n) (element ∷ text)
    → item_by (inside depth) c w budget (text ++ rest) ≡ Ok (Number k n, spend budget 0, rest)
unfolding item_by Spells
number_item k n c element depth w budget text rest is h =
    let same = same_head element h.0 text h.2 h.4 in
    let con : c ≡ Fixed k h.1 = same_constructor element c (Fixed k h.1) is (ap find_code same.0 ∙ h.3) in
    rw (con, same.1, number_again w k h.1 n h.2 rest h.5 h.6, spend_zero budget) refl

octets_item : (k : Kind) (octets : List ℕ) (c : Constructor) (element depth : ℕ) (w : Window) (budget : Budget) (text rest : List ℕ) → find_code element ≡ Some c →
    Spells (Octets k octets) (element ∷ text)
    → item_by (inside depth) c w budget (text ++ rest) ≡ Ok (Octets k octets, spend budget 0, rest)
unfolding item_by Spells
octets_item k octets c element depth w budget text rest is h =
    let same = same_head element h.0 text h.2 h.4 in
    let con : c ≡ Variable k h.1 = same_constructor element c (Variable k h.1) is (ap find_code same.0 ∙ h.3) in
    rw (con, same.1, sized_again w k h.1 octets h.2 rest h.5 h.6, spend_zero budget) refl

-- ---- containers

list_at_again : (ts : Trees) → AllAgain ts → (d : ℕ) (w : Window) (s : SizeWidth) (budget : Budget) (parts text rest : List ℕ) → SpellsBlock s (count_of ts) parts text → SpellAll ts parts →
    depth_of_all ts ≤ d
    → Enough budget (count_of ts + nodes_in_all ts) → (IsCounted budget → AreLawful ts)
    → list_at (level_by (inside d)) w s budget (text ++ rest) ≡ Ok (ListOf ts, spend budget (count_of ts + nodes_in_all ts), rest)
unfolding list_at
list_at_again ts all d w s budget parts text rest h spelled deep enough lawful =
    let b = block_again w s (size_len s) (count_of ts) parts text rest h (omega arith) in
    let count = count_again b.0 s false (count_of ts) parts h.0 (λ e. absurd (let f : false ≡ true = e in cc)) in
    let paid = charged budget (count_of ts) (place b.0 (big_bytes (size_len s) (count_of ts) ++ parts)) (enough_less budget _ _ (omega arith) enough) in
    let left = spend budget (count_of ts) in
    let items : trees_at (λ within. value_by (inside d) within 0) (count_of ts) b.0 left parts ≡ Ok (ts, spend left (nodes_in_all ts), []) =
    ap (trees_at (λ within. value_by (inside d) within 0) (count_of ts) b.0 left) (sym (append-nil parts)) ∙ list_again ts all d b.0 left parts [] spelled deep
    (enough_rest budget (count_of ts) (nodes_in_all ts) enough) (λ c. lawful (counted_spend budget (count_of ts) c)) in
    rw (b.1, count, paid, items, spend_spend budget (count_of ts) (nodes_in_all ts)) refl

map_at_again : (ps : Pairs) → PairsAgain ps → (d : ℕ) (w : Window) (s : SizeWidth) (budget : Budget) (parts text rest : List ℕ) → SpellsBlock s (pair_count ps) parts text → SpellPairs ps parts →
    depth_of_pairs ps ≤ d
    → Enough budget (pair_count ps + nodes_in_pairs ps) → (IsCounted budget → ArePairsLawful ps × AreNew none ps)
    → map_at (level_by (inside d)) w s budget (text ++ rest) ≡ Ok (MapOf ps, spend budget (pair_count ps + nodes_in_pairs ps), rest)
unfolding map_at
map_at_again ps all d w s budget parts text rest h spelled deep enough lawful =
    let even = halved-is ps in
    let half : pair_count ps / 2 ≡ halved ps = omega arith in
    let b = block_again w s (size_len s) (pair_count ps) parts text rest h (omega arith) in
    let count = count_again b.0 s true (pair_count ps) parts h.0 (λ _. omega arith) in
    let paid = charged budget (pair_count ps) (place b.0 (big_bytes (size_len s) (pair_count ps) ++ parts)) (enough_less budget _ _ (omega arith) enough) in
    let left = spend budget (pair_count ps) in
    let entries : pairs_at (level_by (inside d)) none (halved ps) b.0 left parts ≡ Ok (ps, spend left (nodes_in_pairs ps), []) =
    ap (pairs_at (level_by (inside d)) none (halved ps) b.0 left) (sym (append-nil parts)) ∙ pairs_again ps all none d b.0 left parts [] spelled deep
    (enough_rest budget (pair_count ps) (nodes_in_pairs ps) enough) (λ c. lawful (counted_spend budget (pair_count ps) c)) in
    rw (b.1, count, paid, half, entries, spend_spend budget (pair_count ps) (nodes_in_pairs ps)) refl

descriptors_long : (ds : Trees) (head : List ℕ) → SpellDescriptors ds head → count_of ds ≤ length head
unfolding Spells
descriptors_long none head h = omega arith
descriptors_long (more d ds) head h =
    let rest = descriptors_long ds h.1 h.4 in
    omega (arith, ap length h.2, length-append h.0 h.1, rest)

-- with a level of depth left a container may stand there
pub inside_holds : (n : ℕ) → 1 ≤ n → is_some (inside n) ≡ true
unfolding inside
inside_holds zero h = absurd (omega arith)
inside_holds (suc n) h = refl

array_at_again : (ds : Trees) (k : Kind) (ts : Trees) → AllAgain ds → AllAgain ts → (d : ℕ) (w : Window) (s : SizeWidth) (c : Constructor) (element : ℕ) (budget : Budget)
    (head parts text rest : List ℕ)
    → SpellsBlock s (count_of ts) (head ++ element ∷ parts) text → SpellDescriptors ds head → find_code element ≡ Some c → kind_of c ≡ k → SpellItems element ts parts
    → depth_of (ArrayOf ds k ts) ≤ suc d → Enough budget (nodes_in (ArrayOf ds k ts)) → (IsCounted budget → AreLawful ds × AreLawful ts)
    → array_at (level_by (inside d)) w s budget (text ++ rest) ≡ Ok (ArrayOf ds k ts, spend budget (nodes_in (ArrayOf ds k ts)), rest)
unfolding array_at
array_at_again ds k ts all_ds all_ts d w s c element budget head parts text rest h descriptors is kind_is spelled deep enough lawful =
    let whole = head ++ element ∷ parts in
    let long = descriptors_long ds head descriptors in
    let len : length whole ≡ length head + (length parts + 1) = length-append head (element ∷ parts) ∙ omega arith in
    let b = block_again w s (size_len s + 1) (count_of ts) whole text rest h (omega (arith, len)) in
    let count = count_again b.0 s false (count_of ts) whole h.0 (λ e. absurd (let f : false ≡ true = e in cc)) in
    let paid = charged budget (count_of ts) (place b.0 (big_bytes (size_len s) (count_of ts) ++ whole)) (enough_less budget _ _ (omega arith) enough) in
    let left = spend budget (count_of ts) in
    let enough_left : Enough left (count_of ds + nodes_in_all ds + nodes_in_all ts) = enough_rest budget (count_of ts) (count_of ds + nodes_in_all ds + nodes_in_all ts)
    (enough_less budget _ _ (omega arith) enough) in
    let stands : is_container (kind_of c) ≡ true → is_some (inside d) ≡ true = λ e. inside_holds d (deep_item (is_container k) (depth_of_all ds) (depth_of_all ts) d deep
    (subst (λ (j : Kind). is_container j ≡ true) kind_is e)) in
    let first : head_at (length whole) (level_by (inside d)) b.0 left whole ≡ Ok (record { descriptors = ds; constructor = c }, spend left (count_of ds + nodes_in_all ds), parts) =
    head_again ds all_ds c element (length whole) d b.0 left head parts (omega (arith, len)) is stands descriptors (deep_ds (is_container k) (depth_of_all ds) (depth_of_all ts) d deep)
    (enough_less left _ _ (omega arith) enough_left) (λ q. (lawful (counted_spend budget (count_of ts) q)).0) in
    let last = spend left (count_of ds + nodes_in_all ds) in
    let kept : behind budget last ≡ last = ap (behind budget) (spend_spend budget (count_of ts) (count_of ds + nodes_in_all ds)) ∙ behind_spend budget (count_of ts + (count_of ds + nodes_in_all ds))
    ∙ sym (spend_spend budget (count_of ts) (count_of ds + nodes_in_all ds)) in
    let items : trees_at (item_by (inside d) c) (count_of ts) b.0 last parts ≡ Ok (ts, spend last (nodes_in_all ts), []) =
    ap (trees_at (item_by (inside d) c) (count_of ts) b.0 last) (sym (append-nil parts)) ∙ items_again c element is ts all_ts d b.0 last parts [] spelled
    (deep_ts (is_container k) (depth_of_all ds) (depth_of_all ts) d deep) (enough_rest left (count_of ds + nodes_in_all ds) (nodes_in_all ts) enough_left)
    (λ q. (lawful (counted_spend budget (count_of ts) (counted_spend left (count_of ds + nodes_in_all ds) q))).1) in
    let total : spend last (nodes_in_all ts) ≡ spend budget (nodes_in (ArrayOf ds k ts)) =
    ap (λ (l : Budget). spend l (nodes_in_all ts)) (spend_spend budget (count_of ts) (count_of ds + nodes_in_all ds)) ∙ spend_spend budget (count_of ts + (count_of ds + nodes_in_all ds))
    (nodes_in_all ts) in
    rw (b.1, count, paid, first, kept, items, total, kind_is) refl
  where
    deep_item : (b : Bool) (m n d : ℕ) → max m (max (cond b 1 0) n) + 1 ≤ suc d → b ≡ true → 1 ≤ d
    deep_item true m n d h e = omega arith
    deep_item false m n d h e = absurd cc

    deep_ds : (b : Bool) (m n d : ℕ) → max m (max (cond b 1 0) n) + 1 ≤ suc d → m ≤ d
    deep_ds true m n d h = omega arith
    deep_ds false m n d h = omega arith

    deep_ts : (b : Bool) (m n d : ℕ) → max m (max (cond b 1 0) n) + 1 ≤ suc d → n ≤ d
    deep_ts true m n d h = omega arith
    deep_ts false m n d h = omega arith

list_item : (ts : Trees) → AllAgain ts → (c : Constructor) (element depth : ℕ) (w : Window) (budget : Budget) (text rest : List ℕ) → find_code element ≡ Some c →
    Spells (ListOf ts) (element ∷ text) → depth_of_all ts + 1 ≤ depth
    → Enough budget (count_of ts + nodes_in_all ts) → (IsCounted budget → AreLawful ts)
    → item_by (inside depth) c w budget (text ++ rest) ≡ Ok (ListOf ts, spend budget (count_of ts + nodes_in_all ts), rest)
unfolding item_by inside Spells
list_item ts all c element zero w budget text rest is h deep enough lawful = absurd (omega arith)
list_item ts all c element (suc d) w budget text rest is (inl h) deep enough lawful =
    let same = same_head element h.0 text [] h.2 in
    let con : c ≡ EmptyList = same_constructor element c EmptyList is (ap find_code same.0 ∙ h.1) in
    rw (con, same.1, h.3, spend_zero budget) refl
list_item ts all c element (suc d) w budget text rest is (inr h) deep enough lawful =
    let same = same_head element h.0 text h.3 h.5 in
    let con : c ≡ ListIn h.1 = same_constructor element c (ListIn h.1) is (ap find_code same.0 ∙ h.4) in
    rw (con, same.1) (list_at_again ts all d w h.1 budget h.2 h.3 rest h.6 h.7 (omega arith) enough lawful)

map_item : (ps : Pairs) → PairsAgain ps → (c : Constructor) (element depth : ℕ) (w : Window) (budget : Budget) (text rest : List ℕ) → find_code element ≡ Some c →
    Spells (MapOf ps) (element ∷ text) → depth_of_pairs ps + 1 ≤ depth
    → Enough budget (pair_count ps + nodes_in_pairs ps) → (IsCounted budget → ArePairsLawful ps × AreNew none ps)
    → item_by (inside depth) c w budget (text ++ rest) ≡ Ok (MapOf ps, spend budget (pair_count ps + nodes_in_pairs ps), rest)
unfolding item_by inside Spells
map_item ps all c element zero w budget text rest is h deep enough lawful = absurd (omega arith)
map_item ps all c element (suc d) w budget text rest is h deep enough lawful =
    let same = same_head element h.0 text h.3 h.5 in
    let con : c ≡ MapIn h.1 = same_constructor element c (MapIn h.1) is (ap find_code same.0 ∙ h.4) in
    rw (con, same.1) (map_at_again ps all d w h.1 budget h.2 h.3 rest h.6 h.7 (omega arith) enough lawful)

array_item : (ds : Trees) (k : Kind) (ts : Trees) → AllAgain ds → AllAgain ts → (c : Constructor) (element depth : ℕ) (w : Window) (budget : Budget) (text rest : List ℕ) →
    find_code element ≡ Some c → Spells (ArrayOf ds k ts) (element ∷ text)
    → depth_of (ArrayOf ds k ts) ≤ depth → Enough budget (nodes_in (ArrayOf ds k ts)) → (IsCounted budget → AreLawful ds × AreLawful ts)
    → item_by (inside depth) c w budget (text ++ rest) ≡ Ok (ArrayOf ds k ts, spend budget (nodes_in (ArrayOf ds k ts)), rest)
unfolding item_by inside Spells
array_item ds k ts all_ds all_ts c element zero w budget text rest is h deep enough lawful = absurd (omega arith)
array_item ds k ts all_ds all_ts c element (suc d) w budget text rest is h deep enough lawful =
    let same = same_head element h.0 text h.6 h.8 in
    let con : c ≡ ArrayIn h.1 = same_constructor element c (ArrayIn h.1) is (ap find_code same.0 ∙ h.7) in
    rw (con, same.1) (array_at_again ds k ts all_ds all_ts d w h.1 h.3 h.2 budget h.4 h.5 h.6 rest h.9 h.10 h.11 h.12 h.13 deep enough lawful)

described_value : (d t : Tree) → IsAgain d → IsAgain t → (depth : ℕ) (w : Window) (due : ℕ) (budget : Budget) (text rest : List ℕ) → Spells (Described d t) text → depth_of (Described d t) ≤ depth →
    Enough budget (due + nodes_in (Described d t)) → (IsCounted budget → IsLawful d × IsLawful t)
    → value_by (inside depth) w due budget (text ++ rest) ≡ Ok (Described d t, spend budget (due + nodes_in (Described d t)), rest)
unfolding value_by described_at inside Spells
described_value d t again_d again_t zero w due budget text rest h deep enough lawful = absurd (omega arith)
described_value d t again_d again_t (suc depth) w due budget text rest h deep enough lawful =
    let tail = h.0 ++ (h.1 ++ rest) in
    let regrouped : text ++ rest ≡ 0 ∷ tail = ap (λ (b : List ℕ). b ++ rest) h.2 ∙ ap (λ (b : List ℕ). 0 ∷ b) (append_assoc h.0 h.1 rest) in
    let paid = charged budget (due + 2) (place w (0 ∷ tail)) (enough_less budget _ _ (omega arith) enough) in
    let left = spend budget (due + 2) in
    let enough_left : Enough left (nodes_in d + nodes_in t) = enough_rest budget (due + 2) (nodes_in d + nodes_in t) (enough_less budget _ _ (omega arith) enough) in
    let first = again_d.value depth w 0 left h.0 (h.1 ++ rest) h.3 (omega arith) (enough_less left (0 + nodes_in d) (nodes_in d + nodes_in t) (omega arith) enough_left)
    (λ c. (lawful (counted_spend budget (due + 2) c)).0) in
    let zero_d : 0 + nodes_in d ≡ nodes_in d = omega arith in
    let zero_t : 0 + nodes_in t ≡ nodes_in t = omega arith in
    let last = spend left (nodes_in d) in
    let kept : behind budget last ≡ last = ap (behind budget) (spend_spend budget (due + 2) (nodes_in d)) ∙ behind_spend budget (due + 2 + nodes_in d)
    ∙ sym (spend_spend budget (due + 2) (nodes_in d)) in
    let second = again_t.value depth w 0 last h.1 rest h.4 (omega arith) (enough_less last (0 + nodes_in t) (nodes_in t) (omega arith) (enough_rest left (nodes_in d) (nodes_in t) enough_left))
    (λ c. (lawful (counted_spend budget (due + 2) (counted_spend left (nodes_in d) c))).1) in
    let total : spend last (nodes_in t) ≡ spend budget (due + (2 + nodes_in d + nodes_in t)) =
    ap (λ (l : Budget). spend l (nodes_in t)) (spend_spend budget (due + 2) (nodes_in d)) ∙ spend_spend budget (due + 2 + nodes_in d) (nodes_in t) ∙ ap (λ (k : ℕ). spend budget k) (omega arith) in
    rw (regrouped, paid, first, zero_d, kept, second, zero_t, total) refl

-- ---- every value

item_value : (t : Tree) (c : Constructor) (code depth : ℕ) (w : Window) (due : ℕ) (budget : Budget) (text rest : List ℕ) → find_code code ≡ Some c → (is_container (kind_of c) ≡ true → 1 ≤ depth) →
    Enough budget (due + nodes_in t)
    → item_by (inside depth) c w (spend budget due) (text ++ rest) ≡ Ok (t, spend (spend budget due) (nodes_in t), rest)
    → value_by (inside depth) w due budget (code ∷ (text ++ rest)) ≡ Ok (t, spend budget (due + nodes_in t), rest)
item_value t c code depth w due budget text rest is deep enough item =
    value_from_item t c code depth w due budget text rest is (λ e. inside_holds depth (deep e)) (enough_less budget due (due + nodes_in t) (omega arith) enough) item

-- an item's data are read behind its constructor, so the value is, where its constructor is no container's or depth is left
from_item : (t : Tree) → ((text : List ℕ) → Spells t text → (code : ℕ) × (c : Constructor) × (data_ : List ℕ) × (text ≡ code ∷ data_) × (find_code code ≡ Some c) ×
    (is_container (kind_of c) ≡ true → 1 ≤ depth_of t))
    → ((c : Constructor) (element depth : ℕ) (w : Window) (budget : Budget) (text rest : List ℕ) → find_code element ≡ Some c → Spells t (element ∷ text) → depth_of t ≤ depth →
    Enough budget (nodes_in t) → (IsCounted budget → IsLawful t)
    → item_by (inside depth) c w budget (text ++ rest) ≡ Ok (t, spend budget (nodes_in t), rest))
    → IsAgain t
from_item t opens item = record {
  value = λ depth w due budget text rest h deep enough lawful.
      let o = opens text h in
      let bytes : text ++ rest ≡ o.0 ∷ (o.2 ++ rest) = ap (λ (b : List ℕ). b ++ rest) o.3 in
      rw bytes (item_value t o.1 o.0 depth w due budget o.2 rest o.4 (λ e. let one = o.5 e in omega arith) enough
      (item o.1 o.0 depth w (spend budget due) o.2 rest o.4 (subst (λ (b : List ℕ). Spells t b) o.3 h) deep (enough_rest budget due (nodes_in t) enough) (λ c. lawful (counted_spend budget due c))));
  item = item;
}

-- whether each row of a table passes
abbrev passed : (Constructor → Bool) → List (ℕ × Constructor) → Bool
passed p [] = true
passed p (row ∷ rows) = p row.1 && passed p rows

either : (b : Bool) (x : Constructor) (o : Option Constructor) (c : Constructor) → cond b (Some x) o ≡ Some c → (x ≡ c) ⊎ (o ≡ Some c)
either true x o c e = inl cc
either false x o c e = inr e

-- each row of the table has what the test asks
rows_pass : (p : Constructor → Bool) (code : ℕ) (c : Constructor) (rows : List (ℕ × Constructor)) → passed p rows ≡ true → lookup (λ d. code == d) rows ≡ Some c → p c ≡ true
rows_pass p code c [] all e = absurd cc
rows_pass p code c (row ∷ rows) all e =
    let both = and_parts (p row.1) (passed p rows) all in
    elim (either (code == row.0) row.1 (lookup (λ d. code == d) rows) c e) [
      | inl same ↦ subst (λ (k : Constructor). p k ≡ true) same both.0
      | inr later ↦ rows_pass p code c rows both.1 later
    ]

-- a fixed-width or variable-width row is of no container's kind
abbrev no_container : Constructor → Bool
no_container (Fixed k f) = not (is_container k)
no_container (Variable k s) = not (is_container k)
no_container _ = true

plain_row : (code : ℕ) (c : Constructor) → find_code code ≡ Some c → no_container c ≡ true
plain_row code c e = rows_pass no_container code c constructors refl e

not_both : (b : Bool) → not b ≡ true → b ≡ true → ⊥
not_both true n e = let h : false ≡ true = n in cc
not_both false n e = let h : false ≡ true = e in cc

number_value : (k : Kind) (n : ℕ) → IsAgain (Number k n)
unfolding Spells
number_value k n = from_item (Number k n)
    (λ text h. (h.0, Fixed k h.1, h.2, h.4, h.3, λ e. absurd (not_both (is_container k) (plain_row h.0 (Fixed k h.1) h.3) e)))
    (λ c element depth w budget text rest is h deep enough lawful. number_item k n c element depth w budget text rest is h)

octets_value : (k : Kind) (octets : List ℕ) → IsAgain (Octets k octets)
unfolding Spells
octets_value k octets = from_item (Octets k octets)
    (λ text h. (h.0, Variable k h.1, h.2, h.4, h.3, λ e. absurd (not_both (is_container k) (plain_row h.0 (Variable k h.1) h.3) e)))
    (λ c element depth w budget text rest is h deep enough lawful. octets_item k octets c element depth w budget text rest is h)

list_opens : (ts : Trees) (text : List ℕ) → Spells (ListOf ts) text → (code : ℕ) × (c : Constructor) × (data_ : List ℕ) × (text ≡ code ∷ data_) × (find_code code ≡ Some c) ×
    (is_container (kind_of c) ≡ true → 1 ≤ depth_of (ListOf ts))
unfolding Spells
list_opens ts text (inl h) = (h.0, EmptyList, [], h.2, h.1, λ _. omega arith)
list_opens ts text (inr h) = (h.0, ListIn h.1, h.3, h.5, h.4, λ _. omega arith)

list_value : (ts : Trees) → AllAgain ts → IsAgain (ListOf ts)
list_value ts all = from_item (ListOf ts) (list_opens ts) (λ c element depth w budget text rest is h deep enough lawful. list_item ts all c element depth w budget text rest is h deep enough lawful)

map_value : (ps : Pairs) → PairsAgain ps → IsAgain (MapOf ps)
unfolding Spells
map_value ps all = from_item (MapOf ps)
    (λ text h. (h.0, MapIn h.1, h.3, h.5, h.4, λ _. omega arith))
    (λ c element depth w budget text rest is h deep enough lawful. map_item ps all c element depth w budget text rest is h deep enough (λ q. (lawful q, keys_new ps h.2 h.7 (lawful q))))

array_value : (ds : Trees) (k : Kind) (ts : Trees) → AllAgain ds → AllAgain ts → IsAgain (ArrayOf ds k ts)
unfolding Spells
array_value ds k ts all_ds all_ts = from_item (ArrayOf ds k ts)
    (λ text h. (h.0, ArrayIn h.1, h.6, h.8, h.7, λ _. omega arith))
    (λ c element depth w budget text rest is h deep enough lawful. array_item ds k ts all_ds all_ts c element depth w budget text rest is h deep enough (λ q. ((lawful q).0, (lawful q).1)))

described_opens_none : (d t : Tree) (element : ℕ) (c : Constructor) (text : List ℕ) → find_code element ≡ Some c → Spells (Described d t) (element ∷ text) → ⊥
unfolding Spells
described_opens_none d t element c text is h = no_zero element c is (same_head element 0 text (h.0 ++ h.1) h.2).0

described_again : (d t : Tree) → IsAgain d → IsAgain t → IsAgain (Described d t)
described_again d t again_d again_t = record {
  value = λ depth w due budget text rest h deep enough lawful. described_value d t again_d again_t depth w due budget text rest h deep enough lawful;
  item = λ c element depth w budget text rest is h deep enough lawful. absurd (described_opens_none d t element c text is h);
}

mutual
  again : (t : Tree) → IsAgain t
  again (Number k n) = number_value k n
  again (Octets k octets) = octets_value k octets
  again (ListOf ts) = list_value ts (agains ts)
  again (MapOf ps) = map_value ps (pairs_agains ps)
  again (ArrayOf ds k ts) = array_value ds k ts (agains ds) (agains ts)
  again (Described d t) = described_again d t (again d) (again t)

  agains : (ts : Trees) → AllAgain ts
  agains none = tt
  agains (more t ts) = (again t, agains ts)

  pairs_agains : (ps : Pairs) → PairsAgain ps
  pairs_agains no_pair = tt
  pairs_agains (pair k v ps) = (again k, again v, pairs_agains ps)

-- ---- the laws

-- an item is read behind its constructor
pub item_again : (t : Tree) (c : Constructor) (element depth : ℕ) (w : Window) (budget : Budget) (text rest : List ℕ) → find_code element ≡ Some c → Spells t (element ∷ text) → depth_of t ≤ depth →
    Enough budget (nodes_in t) → (IsCounted budget → IsLawful t)
    → item_by (inside depth) c w budget (text ++ rest) ≡ Ok (t, spend budget (nodes_in t), rest)
item_again t c element depth w budget text rest = (again t).item c element depth w budget text rest

-- what is spelled is read, whatever follows, where depth and nodes suffice and keys, where they are compared, differ
pub value_again : (t : Tree) (depth : ℕ) (w : Window) (due : ℕ) (budget : Budget) (text rest : List ℕ) → Spells t text → depth_of t ≤ depth → Enough budget (due + nodes_in t) →
    (IsCounted budget → IsLawful t)
    → value_by (inside depth) w due budget (text ++ rest) ≡ Ok (t, spend budget (due + nodes_in t), rest)
value_again t depth w due budget text rest = (again t).value depth w due budget text rest

ok_same : (a b : Tree × Budget × List ℕ) → ◌≡◌ {A = Part Tree} (Ok a) (Ok b) → a ≡ b
ok_same a b e = cc

-- no spelling begins another, and no bytes spell two values
pub one_spelling : (t u : Tree) (a b x y : List ℕ) → Spells t a → Spells u b → a ++ x ≡ b ++ y → (a ≡ b) × (t ≡ u)
one_spelling t u a b x y p q e =
    let depth = max (depth_of t) (depth_of u) in
    let w : Window = record { short = NoMemory; end = 0 } in
    let first = value_again t depth w 0 None a x p (omega arith) tt (λ c. absurd c) in
    let second = value_again u depth w 0 None b y q (omega arith) tt (λ c. absurd c) in
    let same = ok_same (t, None, x) (u, None, y) (sym first ∙ ap (value_by (inside depth) w 0 None) e ∙ second) in
    let rest : x ≡ y = ap (λ (r : Tree × Budget × List ℕ). r.2) same in
    (append_cancel_right a b y (subst (λ (r : List ℕ). a ++ r ≡ b ++ y) rest e), ap (λ (r : Tree × Budget × List ℕ). r.0) same)
