-- Texts put into a buffer, one behind the other.
use Rattle.std.proofs.Common.{◌≡◌, ℕ, ◌+◌, ◌<◌, ◌≤◌, List, ◌∷◌, ◌++◌, length, get_or, take, drop, [], refl, sym, ap, subst, ◌∙◌, append_assoc, arith}
use Rattle.std.proofs.Math.Seq.{take-append-add, drop-append-add, take-append_seam}
use Rattle.std.specs.List.{concat}
use Rattle.std.proofs.lemmas.List.{append-nil, get_or-map, length-map, drop-drop, length-append, length-take-le, length-drop, take-append-drop, at_drop_more, at_drop_all}
use Rattle.amqp_perform.specs.declared.field_text.FieldText.{FieldText}
use Rattle.amqp_perform.specs.declared.field_text.FieldText.TheVariants as value
use Rattle.amqp_perform.specs.Frames.{Writes, field_spelling, field_spellings, number_values}

-- the buffer keeps its length
pub writes-length : (at : ℕ) (text old new : List ℕ) → at + length text ≤ length old → Writes at text old new → length new ≡ length old
writes-length at text old new fits w =
    ap length w ∙ length-append (take at old) (text ++ drop (at + length text) old)
    ∙ omega (arith, length-take-le at old (omega arith), length-append text (drop (at + length text) old), length-drop (at + length text) old)

front_at : (at : ℕ) (front a rest : List ℕ) → length front ≡ at → take (at + length a) (front ++ (a ++ rest)) ≡ front ++ a
front_at at front a rest e =
    ap (λ (n : ℕ). take (n + length a) (front ++ (a ++ rest))) (sym e) ∙ take-append-add front (a ++ rest) (length a) ∙ ap (λ (x : List ℕ). front ++ x) (take-append_seam a rest)

behind_at : (at n : ℕ) (front a rest : List ℕ) → length front ≡ at → drop (at + length a + n) (front ++ (a ++ rest)) ≡ drop n rest
behind_at at n front a rest e =
    ap (λ (m : ℕ). drop m (front ++ (a ++ rest))) (omega (arith, e)) ∙ drop-append-add front (a ++ rest) (length a + n) ∙ drop-append-add a rest n

-- what is put behind what was put is put with it
pub writes-writes : (at : ℕ) (a b old mid new : List ℕ) → at + length a + length b ≤ length old → Writes at a old mid → Writes (at + length a) b mid new → Writes at (a ++ b) old new
writes-writes at a b old mid new fits first second =
    let front = take at old in
    let rest = drop (at + length a) old in
    let e : length front ≡ at = length-take-le at old (omega arith) in
    second
    ∙ ap (λ (m : List ℕ). take (at + length a) m ++ (b ++ drop (at + length a + length b) m)) first
    ∙ ap (λ (x : List ℕ). x ++ (b ++ drop (at + length a + length b) (front ++ (a ++ rest)))) (front_at at front a rest e)
    ∙ ap (λ (x : List ℕ). (front ++ a) ++ (b ++ x)) (behind_at at (length b) front a rest e ∙ drop-drop (length b) (at + length a) old)
    ∙ append_assoc front a (b ++ drop (at + length a + length b) old)
    ∙ ap (λ (x : List ℕ). front ++ x) (sym (append_assoc a b (drop (at + length a + length b) old)))
    ∙ ap (λ (n : ℕ). front ++ ((a ++ b) ++ drop n old)) (omega (arith, length-append a b))

-- four texts put one behind the other, from the front
pub four_writes : (a b c d old s1 s2 s3 new : List ℕ) → 0 + length a + length b + length c + length d ≤ length old → Writes 0 a old s1 → Writes (0 + length a) b s1 s2
    → Writes (0 + length a + length b) c s2 s3 → Writes (0 + length a + length b + length c) d s3 new → Writes 0 (a ++ (b ++ (c ++ d))) old new
four_writes a b c d old s1 s2 s3 new fits w1 w2 w3 w4 =
    let n1 : length s1 ≡ length old = writes-length 0 a old s1 (omega arith) w1 in
    let n2 : length s2 ≡ length s1 = writes-length (0 + length a) b s1 s2 (omega (arith, n1)) w2 in
    let last = writes-writes (0 + length a + length b) c d s2 s3 new (omega (arith, n1, n2)) w3 w4 in
    let behind = writes-writes (0 + length a) b (c ++ d) s1 s2 new (omega (arith, n1, length-append c d)) w2 last in
    writes-writes 0 a (b ++ (c ++ d)) old s1 new (omega (arith, length-append b (c ++ d), length-append c d)) w1 behind

-- one more text behind those before it
text_more : (at end next : ℕ) (before text old out mid : List ℕ) → end ≡ at + length before → at + length before + length text ≤ length old → Writes at before old out
    → next ≡ end + length text → Writes end text out mid → (next ≡ at + length (before ++ text)) × Writes at (before ++ text) old mid
text_more at end next before text old out mid place room first behind second = (
  omega (arith, length-append before text),
  writes-writes at before text old out mid room first (subst (λ (n : ℕ). Writes n text out mid) place second),
)

grouped : (a b c d e : List ℕ) → (((a ++ b) ++ c) ++ d) ++ e ≡ concat (a ∷ b ∷ c ∷ d ∷ e ∷ [])
grouped a b c d e =
    let flat : (((a ++ b) ++ c) ++ d) ++ e ≡ a ++ (b ++ (c ++ (d ++ e))) = simp append_assoc in
    flat ∙ ap (λ (x : List ℕ). a ++ (b ++ (c ++ (d ++ x)))) (sym (append-nil e))

-- five texts put one behind the other
pub five_texts : (a b c d e : List ℕ) (at n1 n2 n3 n4 n5 : ℕ) (old o1 o2 o3 o4 o5 : List ℕ) → at + length (concat (a ∷ b ∷ c ∷ d ∷ e ∷ [])) ≤ length old
    → n1 ≡ at + length a → Writes at a old o1 → n2 ≡ n1 + length b → Writes n1 b o1 o2 → n3 ≡ n2 + length c → Writes n2 c o2 o3
    → n4 ≡ n3 + length d → Writes n3 d o3 o4 → n5 ≡ n4 + length e → Writes n4 e o4 o5
    → (n5 ≡ at + length (concat (a ∷ b ∷ c ∷ d ∷ e ∷ []))) × Writes at (concat (a ∷ b ∷ c ∷ d ∷ e ∷ [])) old o5
five_texts a b c d e at n1 n2 n3 n4 n5 old o1 o2 o3 o4 o5 room e1 w1 e2 w2 e3 w3 e4 w4 e5 w5 =
    let same = grouped a b c d e in
    let l2 = length-append a b in
    let l3 = length-append (a ++ b) c in
    let l4 = length-append ((a ++ b) ++ c) d in
    let l5 = length-append (((a ++ b) ++ c) ++ d) e in
    let all : at + length ((((a ++ b) ++ c) ++ d) ++ e) ≤ length old = subst (λ (x : List ℕ). at + length x ≤ length old) (sym same) room in
    let s2 = text_more at n1 n2 a b old o1 o2 e1 (omega (arith, all, l2, l3, l4, l5)) w1 e2 w2 in
    let s3 = text_more at n2 n3 (a ++ b) c old o2 o3 s2.0 (omega (arith, all, l3, l4, l5)) s2.1 e3 w3 in
    let s4 = text_more at n3 n4 ((a ++ b) ++ c) d old o3 o4 s3.0 (omega (arith, all, l4, l5)) s3.1 e4 w4 in
    let s5 = text_more at n4 n5 (((a ++ b) ++ c) ++ d) e old o4 o5 s4.0 (omega (arith, all, l5)) s4.1 e5 w5 in
    (s5.0 ∙ ap (λ (x : List ℕ). at + length x) same, subst (λ (x : List ℕ). Writes at x old o5) same s5.1)

-- The spellings of values. --------------------------------------------------------------------------------------------

-- the spellings of fields, joined
abbrev pub joined : List FieldText → List ℕ
joined values = concat (field_spellings values)

-- one more value is written: the others, once they are written, are written with all before them
pub values_more : (values : List FieldText) (i : ℕ) (d : FieldText) (at end next : ℕ) (old out mid : List ℕ) → i < length values
    → end + length (joined (drop i values)) ≡ at + length (joined values) → length out ≡ length old → at + length (joined values) ≤ length old
    → next ≡ end + length (field_spelling (get_or values i d)) → Writes end (field_spelling (get_or values i d)) out mid
    → ((new : List ℕ) → Writes end (joined (drop i values)) out new → Writes at (joined values) old new)
    → (next + length (joined (drop (i + 1) values)) ≡ at + length (joined values)) × (length mid ≡ length old)
    × ((new : List ℕ) → Writes next (joined (drop (i + 1) values)) mid new → Writes at (joined values) old new)
values_more values i d at end next old out mid lt place same room behind w rest =
    let text = field_spelling (get_or values i d) in
    let others = joined (drop (i + 1) values) in
    let parts : joined (drop i values) ≡ text ++ others = at_drop_more joined values i d lt in
    let len : length (joined (drop i values)) ≡ length text + length others = ap length parts ∙ length-append text others in (
      omega arith,
      writes-length end text out mid (omega arith) w ∙ same,
      λ new w2. rest new (subst (λ (t : List ℕ). Writes end t out new) (sym parts) (writes-writes end text others out mid new (omega arith) w (subst (λ (n : ℕ). Writes n others mid new) behind w2))),
    )

-- nothing is left to be written
pub values_end : (values : List FieldText) (i at : ℕ) (out : List ℕ) → length values ≤ i → Writes at (joined (drop i values)) out out
values_end values i at out le =
    subst (λ (t : List ℕ). Writes at t out out) (sym (at_drop_all joined values i le)) (sym (take-append-drop at out) ∙ ap (λ (n : ℕ). take at out ++ drop n out) (omega arith))

-- Numbers. ------------------------------------------------------------------------------------------------------------

number_at : (numbers : List ℕ) (i : ℕ) → i < length numbers → get_or (number_values numbers) i (value.Uint 0) ≡ value.Uint (get_or numbers i 0)
number_at numbers i lt = get_or-map (λ n. value.Uint n) numbers i 0 (value.Uint 0) lt

-- what is left of numbers from a place on
number_first : (numbers : List ℕ) (i : ℕ) → i < length numbers
    → joined (drop i (number_values numbers)) ≡ field_spelling (value.Uint (get_or numbers i 0)) ++ joined (drop (i + 1) (number_values numbers))
number_first numbers i lt =
    at_drop_more joined (number_values numbers) i (value.Uint 0) (omega (arith, lt, length-map numbers (λ n. value.Uint n)))
    ∙ ap (λ (v : FieldText). field_spelling v ++ joined (drop (i + 1) (number_values numbers))) (number_at numbers i lt)

-- there is room for the next number
pub number_fits : (numbers : List ℕ) (i at end : ℕ) (old out : List ℕ) → i < length numbers → end + length (joined (drop i (number_values numbers))) ≡ at + length (joined (number_values numbers))
    → length out ≡ length old → at + length (joined (number_values numbers)) ≤ length old → end + length (field_spelling (value.Uint (get_or numbers i 0))) ≤ length out
number_fits numbers i at end old out lt place same room =
    omega (arith, ap length (number_first numbers i lt), length-append (field_spelling (value.Uint (get_or numbers i 0))) (joined (drop (i + 1) (number_values numbers))), place, same, room)

-- one more number is written
pub number_more : (numbers : List ℕ) (i at end next : ℕ) (old out mid : List ℕ) → i < length numbers
    → end + length (joined (drop i (number_values numbers))) ≡ at + length (joined (number_values numbers)) → length out ≡ length old → at + length (joined (number_values numbers)) ≤ length old
    → next ≡ end + length (field_spelling (value.Uint (get_or numbers i 0))) → Writes end (field_spelling (value.Uint (get_or numbers i 0))) out mid
    → ((new : List ℕ) → Writes end (joined (drop i (number_values numbers))) out new → Writes at (joined (number_values numbers)) old new)
    → (next + length (joined (drop (i + 1) (number_values numbers))) ≡ at + length (joined (number_values numbers))) × (length mid ≡ length old)
    × ((new : List ℕ) → Writes next (joined (drop (i + 1) (number_values numbers))) mid new → Writes at (joined (number_values numbers)) old new)
number_more numbers i at end next old out mid lt place same room behind w rest =
    let e = number_at numbers i lt in
    values_more (number_values numbers) i (value.Uint 0) at end next old out mid (omega (arith, lt, length-map numbers (λ n. value.Uint n))) place same room
    (behind ∙ ap (λ (v : FieldText). end + length (field_spelling v)) (sym e)) (subst (λ (v : FieldText). Writes end (field_spelling v) out mid) (sym e) w) rest

-- no number is left
pub numbers_none : (numbers : List ℕ) (i : ℕ) → length numbers ≤ i → joined (drop i (number_values numbers)) ≡ []
numbers_none numbers i le = at_drop_all joined (number_values numbers) i (omega (arith, le, length-map numbers (λ n. value.Uint n)))

-- seven numbers are written
pub seven_written : (numbers : List ℕ) (at n1 n2 n3 n4 n5 n6 n7 : ℕ) (old o1 o2 o3 o4 o5 o6 o7 : List ℕ) → length numbers ≡ 7 → at + length (joined (number_values numbers)) ≤ length old
    → n1 ≡ at + length (field_spelling (value.Uint (get_or numbers 0 0))) → Writes at (field_spelling (value.Uint (get_or numbers 0 0))) old o1
    → n2 ≡ n1 + length (field_spelling (value.Uint (get_or numbers 1 0))) → Writes n1 (field_spelling (value.Uint (get_or numbers 1 0))) o1 o2
    → n3 ≡ n2 + length (field_spelling (value.Uint (get_or numbers 2 0))) → Writes n2 (field_spelling (value.Uint (get_or numbers 2 0))) o2 o3
    → n4 ≡ n3 + length (field_spelling (value.Uint (get_or numbers 3 0))) → Writes n3 (field_spelling (value.Uint (get_or numbers 3 0))) o3 o4
    → n5 ≡ n4 + length (field_spelling (value.Uint (get_or numbers 4 0))) → Writes n4 (field_spelling (value.Uint (get_or numbers 4 0))) o4 o5
    → n6 ≡ n5 + length (field_spelling (value.Uint (get_or numbers 5 0))) → Writes n5 (field_spelling (value.Uint (get_or numbers 5 0))) o5 o6
    → n7 ≡ n6 + length (field_spelling (value.Uint (get_or numbers 6 0))) → Writes n6 (field_spelling (value.Uint (get_or numbers 6 0))) o6 o7
    → (n7 ≡ at + length (joined (number_values numbers))) × (length o7 ≡ length old) × Writes at (joined (number_values numbers)) old o7
seven_written numbers at n1 n2 n3 n4 n5 n6 n7 old o1 o2 o3 o4 o5 o6 o7 seven room e1 w1 e2 w2 e3 w3 e4 w4 e5 w5 e6 w6 e7 w7 =
    let a = number_more numbers 0 at at n1 old old o1 (omega arith) refl refl room e1 w1 (λ new w. w) in
    let b = number_more numbers 1 at n1 n2 old o1 o2 (omega arith) a.0 a.1 room e2 w2 a.2 in
    let c = number_more numbers 2 at n2 n3 old o2 o3 (omega arith) b.0 b.1 room e3 w3 b.2 in
    let d = number_more numbers 3 at n3 n4 old o3 o4 (omega arith) c.0 c.1 room e4 w4 c.2 in
    let e = number_more numbers 4 at n4 n5 old o4 o5 (omega arith) d.0 d.1 room e5 w5 d.2 in
    let f = number_more numbers 5 at n5 n6 old o5 o6 (omega arith) e.0 e.1 room e6 w6 e.2 in
    let g = number_more numbers 6 at n6 n7 old o6 o7 (omega arith) f.0 f.1 room e7 w7 f.2 in
    let none = numbers_none numbers 7 (omega arith) in
    (omega (arith, g.0, ap length none), g.1, g.2 o7 (values_end (number_values numbers) 7 n7 o7 (omega (arith, seven, length-map numbers (λ n. value.Uint n)))))
