-- What goes to a sink, write by write.
use Rattle.std.proofs.Common.{arith, refl, sym, ap, ◌∙◌, ◌≡◌, ◌≤◌, ◌<◌, ◌+◌, ◌-◌, ◌^◌, ◌++◌, min, ℕ, List, [], Option, None, Some, length, take, drop, append_assoc, append-nil, take-append-drop}
use Rattle.std.proofs.lemmas.List.{drop-drop, length-drop}
use Rattle.std.proofs.KnownBytes.{Appends-nil, Appends-trans}
use Rattle.std.specs.Io.KnownBytes.{Appends, Keeps}
use Rattle.amqp_gateway.specs.Outlets.{OutletState, WritesOn, waiting}

pub on_here : (s : OutletState) → WritesOn s s
on_here s = ([], Appends-nil s.sink, refl)

kept_appends : (a b : Option (List ℕ)) → Keeps a b → Appends a b []
kept_appends None b k = tt
kept_appends (Some x) None k = absurd k
kept_appends (Some x) (Some y) k = k ∙ sym (append-nil x)

-- more of it went
on_by : (a b c : OutletState) (more : List ℕ) → WritesOn a b → Appends b.sink c.sink more → waiting b ≡ more ++ waiting c → WritesOn a c
on_by a b c more (went, so_far, e) next f = (went ++ more, Appends-trans a.sink b.sink c.sink went more so_far next, e ∙ ap (λ (l : List ℕ). went ++ l) f ∙ sym (append_assoc went more (waiting c)))

pub on_and_on : (a b c : OutletState) → WritesOn a b → WritesOn b c → WritesOn a c
on_and_on a b c so_far (more, next, f) = on_by a b c more so_far next f

-- nothing more went, and what waits is the same
pub on_still : (a b c : OutletState) → WritesOn a b → Keeps b.sink c.sink → c.blocks.bytes ≡ b.blocks.bytes → c.written ≡ b.written → WritesOn a c
on_still a b c so_far kept bytes written = on_by a b c [] so_far (kept_appends b.sink c.sink kept) (sym (ap (λ (l : List ℕ). drop c.written l) bytes ∙ ap (λ (n : ℕ). drop n b.blocks.bytes) written))

-- all had gone
pub on_flushed : (a b c : OutletState) → WritesOn a b → waiting b ≡ [] → Keeps b.sink c.sink → c.blocks.bytes ≡ [] → c.written ≡ 0 → WritesOn a c
on_flushed a b c so_far none kept bytes written = on_by a b c [] so_far (kept_appends b.sink c.sink kept) (none ∙ sym (ap (λ (l : List ℕ). drop c.written l) bytes ∙ ap (λ (n : ℕ). drop n []) written))

counted : (w n most len rest : ℕ) → n ≤ rest → rest ≡ len - w → 0 < rest → len ≤ most → min (w + n) most ≡ w + n
counted w n most len rest few is some fits = omega (arith, few, is, some, fits)

-- n bytes more of it went
pub on_more : (a b c : OutletState) (n : ℕ) → WritesOn a b → Appends b.sink c.sink (take n (waiting b)) → n ≤ length (waiting b) → 0 < length (waiting b) → length b.blocks.bytes ≤ 2 ^ 64 - 1
    → c.blocks.bytes ≡ b.blocks.bytes → c.written ≡ min (b.written + n) (2 ^ 64 - 1) → WritesOn a c
on_more a b c n so_far next few some fits bytes written =
    let plain = written ∙ counted b.written n (2 ^ 64 - 1) (length b.blocks.bytes) (length (waiting b)) few (length-drop b.written b.blocks.bytes) some fits in
    let behind : waiting c ≡ drop n (waiting b) =
    ap (λ (l : List ℕ). drop c.written l) bytes ∙ ap (λ (m : ℕ). drop m b.blocks.bytes) plain ∙ sym (drop-drop n b.written b.blocks.bytes) in
    on_by a b c (take n (waiting b)) so_far next (sym (take-append-drop n (waiting b)) ∙ ap (λ (l : List ℕ). take n (waiting b) ++ l) (sym behind))
