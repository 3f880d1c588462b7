use Rattle.std.proofs.Common.{rules, arith, ◌≡◌, ℕ, ◌+◌, ◌≤◌, List, ◌++◌, length, take, drop, sym, ap, ◌∙◌}
use Rattle.std.specs.Prelude.{min}
use Rattle.std.proofs.lemmas.List.{places, same_lists, take-take, take-append-le}
use Rattle.amqp_dump.proofs.page.Page.put_front.Goals as goal

joined : (len m : ℕ) (bytes text : List ℕ) → len ≤ length bytes → m ≤ length text → take (len + m) (take len bytes ++ text) ≡ take len bytes ++ take m text
joined len m bytes text have few = same_lists _ _ (search (rules, places)) (λ i d j. grind (arith, places))

parted : (end len : ℕ) (bytes text : List ℕ) → end ≤ len → len ≤ length bytes → drop end (take len bytes ++ text) ≡ drop end (take len bytes) ++ text
parted end len bytes text within have = same_lists _ _ (search (rules, places)) (λ i d j. grind (arith, places))

all_of : (l : ℕ) (text : List ℕ) → take (min l (length text)) text ≡ take l text
all_of l text = same_lists _ _ (search (rules, places)) (λ i d j. grind (arith, places))

-- Behind the first bytes stand those of the text that count.
extended : (len end l room : ℕ) (before bytes out behind text : List ℕ) → end ≤ len → len ≤ length bytes → len + length text ≤ room → len + length text ≤ length out → take (len + length text) out ≡ take len bytes ++ text →
    take len bytes ≡ take len before → drop end (take (len + min l (length text)) (take room (out ++ behind))) ≡ drop end (take len before) ++ take l text
extended len end l room before bytes out behind text within have fits long put kept =
    let m = min l (length text) in
    let few : m ≤ length text = first_of (search rules, grind arith) in
    ap (λ (xs : List ℕ). drop end xs)
    (take-take (len + m) room (out ++ behind) (omega (arith, few, fits))
    ∙ take-append-le (len + m) out behind (omega (arith, few, long))
    ∙ sym (take-take (len + m) (len + length text) out (omega (arith, few)))
    ∙ ap (λ (xs : List ℕ). take (len + m) xs) put
    ∙ joined len m bytes text have few)
    ∙ parted end len bytes (take m text) within have
    ∙ ap (λ (xs : List ℕ). drop end xs ++ take m text) kept
    ∙ ap (λ (xs : List ℕ). drop end (take len before) ++ xs) (all_of l text)

pub returns-clause-put : goal.returns-clause-put
returns-clause-put c =
    let len = c.self.inside.len in
    let text = c.args.text.now in
    let bytes = c.has_room.new.bytes in
    let out = c.put_at.new.out in
    let fits : len + length text ≤ length bytes.items = c.has_room.ensures.room c.if-not-has_room.false in
    let same : length out ≡ length bytes.items = c.put_at.auto.out ∙ ap (λ (x : List ℕ). length x) c.as_mut_slice.ensures.value in
    let put : take (len + length text) out ≡ take len bytes.items ++ text = c.put_at.ensures.put ∙ ap (λ (x : List ℕ). take len x ++ text) c.as_mut_slice.ensures.value in
    λ all. rw (← c.self.view_is) (
      all,
      rw c.min.ensures (extended len c.self.inside.end c.args.len bytes.len c.self.inside.bytes.items bytes.items out (drop (length out) bytes.items) text c.self.invariant.0
          (omega (arith, fits)) (omega (arith, fits, c.as_mut_slice.ensures.len, same)) (omega (arith, fits, same)) put (c.has_room.ensures.kept len (omega arith))),
    )
