-- A list is read exactly where it is spelled.
use Rattle.std.proofs.Common.{◌≡◌, ℕ, false, true, List, [], ◌∷◌, ◌++◌, length, Option, Some, None, Result, Ok, Err, refl, sym, ap, subst, ◌∙◌, append_assoc, arith, inl, inr}
use Rattle.std.specs.Result.{result_ok}
use Rattle.std.proofs.lemmas.List.{append-nil, nil_from_length}
use Rattle.std.proofs.lemmas.Option.{same_Some}
use Rattle.byteorder.specs.Endian.{big_bytes}
use Rattle.amqp_types.specs.declared.code.Constructor.{Constructor}
use Rattle.amqp_types.specs.declared.code.Constructor.TheVariants.{Fixed, Variable, EmptyList, ListIn, MapIn, ArrayIn}
use Rattle.amqp_types.specs.declared.code.SizeWidth.{SizeWidth}
use Rattle.amqp_types.specs.declared.fault.ReadFault.{ReadFault}
use Rattle.amqp_types.specs.Codes.{find_code}
use Rattle.amqp_types.specs.InHand.{outermost}
use Rattle.amqp_types.specs.Reading.{block_at, count_at}
use Rattle.amqp_types.specs.Spelling.{size_len, SpellsBlock}
use Rattle.amqp_types.proofs.Octets.{IsBytes, IsBytes-rest}
use Rattle.amqp_types.proofs.Compounds.{block_sound, count_sound, block_text}
use Rattle.amqp_types.proofs.Again.{block_again, count_again}
use Rattle.amqp_perform.specs.declared.descriptor.Descriptor.{Descriptor}
use Rattle.amqp_perform.specs.Cells.{◌>>=◌}
use Rattle.amqp_perform.specs.Items.{Item, text_of, AreSpelled, SpellsList, SpellsDescribed}
use Rattle.amqp_perform.specs.BodyReading.{ListAt, descriptor_at, block_in, list_by, list_at}
use Rattle.amqp_perform.proofs.Steps.{bind_some}
use Rattle.amqp_perform.proofs.ItemLaws.{descriptor_again}

ok_only : {A : Type 0} (r : Result A ReadFault) (x : A) → result_ok r ≡ Some x → r ≡ Ok x
ok_only (Ok y) x e = ap (λ y. Ok y) (same_Some y x e)
ok_only (Err d) x e = absurd cc

-- whichever items they are, so many with these bytes, the list of them is spelled
pub record BeginsWithList (bytes : List ℕ) (list : ListAt) : Type 0 where
  pub text : List ℕ
  pub parts : bytes ≡ text ++ list.behind
  pub spelled : (xs : List Item) → length xs ≡ list.count → text_of xs ≡ list.items → AreSpelled xs → SpellsList xs text
  pub items_fit : IsBytes list.items

-- a block, and what follows it
record IsBlockAt (s : SizeWidth) (bytes : List ℕ) (list : ListAt) : Type 0 where
  text : List ℕ
  parts : bytes ≡ text ++ list.behind
  spelled : SpellsBlock s list.count list.items text
  items_fit : IsBytes list.items

block_found : (s : SizeWidth) (bytes : List ℕ) (list : ListAt) → IsBytes bytes → block_in s bytes ≡ Some list → IsBlockAt s bytes list
block_found s bytes list fits e =
    let a = bind_some (result_ok (block_at (outermost bytes) s (size_len s) bytes)) (λ block. result_ok (count_at block.within s false block.body) >>= λ count. Some
    (record { count = count.0; items = count.1; behind = block.behind })) list e in
    let b = bind_some (result_ok (count_at a.0.within s false a.0.body)) (λ count. Some (record { count = count.0; items = count.1; behind = a.0.behind })) list a.2 in
    let block = block_sound (outermost bytes) s (size_len s) bytes a.0 fits (ok_only (block_at (outermost bytes) s (size_len s) bytes) a.0 a.1) in
    let count = count_sound a.0.within s false a.0.body b.0 block.fits (ok_only (count_at a.0.within s false a.0.body) b.0 b.1) in
    let body : a.0.body ≡ big_bytes (size_len s) b.0.0 ++ (b.0.1 ++ []) = count.0.parts ∙ ap (λ (p : List ℕ). big_bytes (size_len s) b.0.0 ++ p) (sym (append-nil b.0.1)) in
    subst (λ (l : ListAt). IsBlockAt s bytes l) (same_Some (record { count = b.0.0; items = b.0.1; behind = a.0.behind }) list b.2) (record {
      text = big_bytes (size_len s) (length a.0.body) ++ a.0.body;
      parts = block.takes.parts;
      spelled = block_text s (size_len s) b.0.0 bytes a.0 b.0.1 [] block count.1 body refl;
      items_fit = count.0.rest_fits;
    })

by_found : (code : ℕ) (c : Option Constructor) (bytes : List ℕ) (list : ListAt) → IsBytes bytes → find_code code ≡ c → list_by c bytes ≡ Some list → BeginsWithList (code ∷ bytes) list
by_found code None bytes list fits is e = absurd cc
by_found code (Some (Fixed k f)) bytes list fits is e = absurd cc
by_found code (Some (Variable k s)) bytes list fits is e = absurd cc
by_found code (Some (MapIn s)) bytes list fits is e = absurd cc
by_found code (Some (ArrayIn s)) bytes list fits is e = absurd cc
by_found code (Some EmptyList) bytes list fits is e =
    subst (λ (l : ListAt). BeginsWithList (code ∷ bytes) l) (same_Some (record { count = 0; items = []; behind = bytes }) list e) (record {
      text = code ∷ [];
      parts = refl;
      spelled = λ xs len text all. inl (code, is, refl, nil_from_length xs len);
      items_fit = λ i. omega arith;
    })
by_found code (Some (ListIn s)) bytes list fits is e =
    let b = block_found s bytes list fits e in
    record {
      text = code ∷ b.text;
      parts = ap (λ (r : List ℕ). code ∷ r) b.parts;
      spelled = λ xs len text all. inr (code, s, b.text, is, refl, rw (len, text) b.spelled, all);
      items_fit = b.items_fit;
    }

-- a list that is read stands there
pub list_found : (bytes : List ℕ) (list : ListAt) → IsBytes bytes → list_at bytes ≡ Some list → BeginsWithList bytes list
unfolding list_at
list_found [] list fits e = absurd cc
list_found (code ∷ bytes) list fits e = by_found code (find_code code) bytes list (IsBytes-rest code bytes fits) refl e

-- one that is spelled is read so
pub list_again : (xs : List Item) (text rest : List ℕ) → SpellsList xs text → list_at (text ++ rest) ≡ Some (record { count = length xs; items = text_of xs; behind = rest })
unfolding list_at
list_again xs text rest (inl h) = rw (h.2, h.1, h.3) refl
list_again xs text rest (inr h) =
    let s = h.1 in
    let bytes = h.2 ++ rest in
    let b = block_again (outermost bytes) s (size_len s) (length xs) (text_of xs) h.2 rest h.5 (omega arith) in
    let count = count_again b.0 s false (length xs) (text_of xs) h.5.0 (λ e. absurd (let f : false ≡ true = e in cc)) in
    rw (h.4, h.3, b.1, count) refl

-- the items of a spelled list are spelled
items_spelled : (xs : List Item) (text : List ℕ) → SpellsList xs text → AreSpelled xs
items_spelled xs text (inl h) = rw h.3 tt
items_spelled xs text (inr h) = h.6

-- Described lists. ----------------------------------------------------------------------------------------------------

-- the items of a list that is read
abbrev pub list_of_items : List Item → List ℕ → ListAt
list_of_items items rest = record { count = length items; items = text_of items; behind = rest }

-- what describes a list, the list, and what follows both
pub described_parts : (text first second rest : List ℕ) → text ≡ 0 ∷ (first ++ second) → text ++ rest ≡ 0 ∷ (first ++ (second ++ rest))
described_parts text first second rest joined = ap (λ (b : List ℕ). b ++ rest) joined ∙ ap (λ (b : List ℕ). 0 ∷ b) (append_assoc first second rest)

-- a described list is read as its descriptor and its items
pub record IsDescribed (d : Descriptor) (items : List Item) (text rest : List ℕ) : Type 0 where
  pub second : List ℕ
  pub head : descriptor_at (text ++ rest) ≡ Some (d, second)
  pub list : list_at second ≡ Some (list_of_items items rest)
  pub spelled : AreSpelled items

-- a described list that is spelled is read so
pub described : (d : Descriptor) (items : List Item) (text rest : List ℕ) → SpellsDescribed d items text → IsDescribed d items text rest
described d items text rest (t, first, second, joined, spelled, describes, list) = record {
  second = second ++ rest;
  head = ap descriptor_at (described_parts text first second rest joined) ∙ descriptor_again t d first (second ++ rest) spelled describes;
  list = list_again items second rest list;
  spelled = items_spelled items second list;
}
