-- Segments back to the floor, as they were gone through.
use Rattle.std.proofs.Common.{◌≡◌, ◌⊎◌, inl, inr, ⊎_elim, ℕ, suc, ◌+◌, ◌≤◌, ◌<◌, arith, List, [], ◌∷◌, ◌++◌, length, length-append, append_assoc, take, drop, refl, sym, ap, ◌∙◌, subst}
use Rattle.std.specs.Prelude.{get_or}
use Rattle.std.proofs.lemmas.List.{take-append-drop, length-take-le}
use Rattle.amqp_spool.specs.declared.head.Head.{Head}
use Rattle.amqp_spool.specs.declared.segments.Named.{Named}
use Rattle.amqp_spool.specs.Folders.{Segment, State, content}
use Rattle.amqp_spool.specs.Reads.{AreNamed, HasNames, BeginsWith, AreBack}
use Rattle.amqp_spool.proofs.Back.{name_at}

-- If all is there after the segment of this index, which has this head, all is there after the newest.
abbrev pub GoesBackTo : Head → Head → ℕ → State → Type 0
GoesBackTo newest head index t = (front rest : List Segment) → t.segments ≡ front ++ rest → length front ≡ index + 1 → AreBack t.floor head rest → (s : Segment) (ss : List Segment) → t.segments ≡ s ∷ ss → AreBack t.floor newest ss

abbrev others : List Segment → List Segment
others [] = []
others (s ∷ ss) = ss

pub back_begun : (newest : Head) (t : State) → GoesBackTo newest newest 0 t
back_begun newest t = by
  where
    by : (front rest : List Segment) → t.segments ≡ front ++ rest → length front ≡ 1 → AreBack t.floor newest rest → (s : Segment) (ss : List Segment) → t.segments ≡ s ∷ ss → AreBack t.floor newest ss
    by [] rest whole one are s ss is = absurd (omega (arith, one))
    by (f ∷ []) rest whole one are s ss is = subst (λ (l : List Segment). AreBack t.floor newest l) (ap others (sym whole ∙ is)) are
    by (f ∷ g ∷ front) rest whole one are s ss is = absurd (omega (arith, one))

-- the last of some
last_of : (xs : List Segment) → 0 < length xs → (front : List Segment) × (s : Segment) × (xs ≡ front ++ s ∷ [])
last_of [] some = absurd (omega (arith, some))
last_of (x ∷ []) some = ([], x, refl)
last_of (x ∷ y ∷ xs) some = let r = last_of (y ∷ xs) (omega arith) in (x ∷ r.0, r.1, ap (λ (l : List Segment). x ∷ l) r.2)

pub back_more : (newest head older : Head) (index : ℕ) (ns : List Named) (named : Named) (t : State) → HasNames ns t → named ≡ get_or ns (index + 1) named → BeginsWith (index + 1) older t → named.first ≡ head.before → head.counted ≤ named.bytes → older.first ≡ named.first
    → older.spool ≡ head.spool → GoesBackTo newest head index t → GoesBackTo newest older (index + 1) t
back_more newest head older index ns named t names at begins before counted first spool to = λ front rest whole long are s ss is.
    let last = last_of front (omega (arith, long)) in
    let o = last.1 in
    let split : t.segments ≡ last.0 ++ o ∷ rest = whole ∙ ap (λ (l : List Segment). l ++ rest) last.2 ∙ append_assoc last.0 (o ∷ []) rest in
    let placed : length last.0 ≡ index + 1 = omega (arith, long, ap (λ (l : List Segment). length l) last.2, length-append last.0 (o ∷ [])) in
    let n = name_at ns last.0 o rest (subst (λ (l : List Segment). AreNamed ns l) split names) in
    let same : named ≡ n.0 = at ∙ ap (λ (k : ℕ). get_or ns k named) (sym placed) ∙ n.2 named in
    let named_first : named.first ≡ o.first = ap (λ (x : Named). x.first) same ∙ n.3 in
    let named_long : named.bytes ≡ length (content o) = ap (λ (x : Named). x.bytes) same ∙ n.4 in
    to last.0 (o ∷ rest) split placed (inr (older, begins last.0 o rest split placed, sym named_first ∙ before, omega (arith, counted, named_long), first ∙ named_first, spool, are)) s ss is

long_names : (ns : List Named) (ss : List Segment) → AreNamed ns ss → length ns ≡ length ss
long_names [] [] are = refl
long_names (n ∷ ns) (s ∷ ss) are = ap suc (long_names ns ss are.2)
long_names [] (s ∷ ss) are = absurd are
long_names (n ∷ ns) [] are = absurd are

ends_back : (floor : ℕ) (head : Head) (rest : List Segment) → head.first ≤ floor + 1 → AreBack floor head rest
ends_back floor head [] low = low
ends_back floor head (s ∷ ss) low = inl low

pub back_ends : (newest head : Head) (index : ℕ) (ns : List Named) (t : State) → HasNames ns t → (index ≡ 0) ⊎ (index < length ns) → head.first ≤ t.floor + 1 → GoesBackTo newest head index t → (s : Segment) (ss : List Segment) → t.segments ≡ s ∷ ss → AreBack t.floor newest ss
back_ends newest head index ns t names placed low to s ss is =
    let long : length ns ≡ length t.segments = long_names ns t.segments names in
    let within : index + 1 ≤ length t.segments = ⊎_elim (λ (none : index ≡ 0). omega (arith, none, ap (λ (l : List Segment). length l) is)) (λ (less : index < length ns). omega (arith, less, long)) placed in
    to (take (index + 1) t.segments) (drop (index + 1) t.segments) (sym (take-append-drop (index + 1) t.segments)) (length-take-le (index + 1) t.segments within) (ends_back t.floor head (drop (index + 1) t.segments) low) s ss is
