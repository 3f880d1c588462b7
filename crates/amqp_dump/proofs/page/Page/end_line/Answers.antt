use Rattle.std.proofs.Common.{◌≡◌, ℕ, ◌+◌, ◌≤◌, List, [], ◌∷◌, ◌++◌, length, take, drop, sym, ap, ◌∙◌, append_assoc, arith}
use Rattle.std.proofs.lemmas.List.{take-take, take-append-le, take-append-drop}
use Rattle.amqp_dump.proofs.page.Page.end_line.Goals as goal

-- Behind the first bytes stands a newline: they are the whole lines, and what was put behind these.
line : (len end room : ℕ) (before bytes out behind : List ℕ) → end ≤ len → len + 1 ≤ room → len + 1 ≤ length out → take (len + 1) out ≡ take len bytes ++ 10 ∷ [] → take len bytes ≡ take len before →
    take (len + 1) (take room (out ++ behind)) ≡ take end before ++ (drop end (take len before) ++ 10 ∷ [])
line len end room before bytes out behind within fits long put kept =
    take-take (len + 1) room (out ++ behind) fits
    ∙ take-append-le (len + 1) out behind long
    ∙ put
    ∙ ap (λ (x : List ℕ). x ++ 10 ∷ []) (kept ∙ sym (take-append-drop end (take len before)) ∙ ap (λ (x : List ℕ). x ++ drop end (take len before)) (take-take end len before within))
    ∙ append_assoc (take end before) (drop end (take len before)) (10 ∷ [])

pub returns-clause-whole : goal.returns-clause-whole
returns-clause-whole c =
    let len = c.self.inside.len in
    let bytes = c.has_room.new.bytes in
    let out = c.put_at.new.out in
    let fits : len + 1 ≤ length bytes.items = c.has_room.ensures.room c.if-not-has_room.false in
    let same : length out ≡ length bytes.items = c.put_at.auto.out ∙ ap (λ (x : List ℕ). length x) c.as_mut_slice.ensures.value in
    let put : take (len + 1) out ≡ take len bytes.items ++ 10 ∷ [] = c.put_at.ensures.put ∙ ap (λ (x : List ℕ). take len x ++ 10 ∷ []) c.as_mut_slice.ensures.value in
    rw (← c.self.view_is) (line len c.self.inside.end bytes.len c.self.inside.bytes.items bytes.items out (drop (length out) bytes.items) c.self.invariant.0
    (omega (arith, fits, c.as_mut_slice.ensures.len, same)) (omega (arith, fits, same)) put (c.has_room.ensures.kept len (omega arith)))
