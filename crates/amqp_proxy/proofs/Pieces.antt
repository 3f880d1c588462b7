-- Pieces of a connection, put together.
use Rattle.std.specs.Prelude.{is_ok, if◌then◌else◌}
use Rattle.std.proofs.Common.{◌≡◌, ℕ, ◌-◌, ◌<◌, List, [], ◌++◌, length, take, drop, Result, Ok, Err, OnOk, inl, inr, refl, sym, ap, subst, ◌∙◌, arith}
use Rattle.std.proofs.lemmas.List.{take-append-drop, take_all, append_assoc, length-drop}
use Rattle.std.proofs.lemmas.Bool.{cases_lt}
use Rattle.std.specs.declared.alloc.AllocError.{AllocError}
use Rattle.amqp_proxy.specs.declared.proxy.Outcome.{Outcome}
use Rattle.amqp_proxy.specs.declared.proxy.Outcome.TheVariants.{More, Past, Failed}
use Rattle.amqp_proxy.specs.Streams.{Done, Awaits, did, told, ProxyState, Says, IsOutcome, IsApart}

-- a piece is what is taken of it, and the rest
pieced : (n : ℕ) (piece more : List ℕ) → piece ++ more ≡ take n piece ++ (take (length piece - n) (drop n piece) ++ more)
pieced n piece more =
    let rest = take_all (length piece - n) (drop n piece) (omega (arith, length-drop n piece)) in
    sym (ap (λ (l : List ℕ). take n piece ++ (l ++ more)) rest ∙ sym (append_assoc (take n piece) (drop n piece) more) ∙ ap (λ (l : List ℕ). l ++ more) (take-append-drop n piece))

pub put_behind : (r : Result (Unit {0}) AllocError) (new some none : List ℕ) (Q : Type 0) → new ≡ (if is_ok r then some else none) → (new ≡ some → Q) → OnOk r Q
put_behind (Ok x) new some none Q is f = f is
put_behind (Err e) new some none Q is f = tt

-- what a piece does to a layer that is then past
pub brings : (o : Outcome) (s t : ProxyState) (used : ℕ) (piece handed new more : List ℕ) → s.outcome ≡ o → IsApart o handed → t.outcome ≡ Past
    → ((more : List ℕ) → told s (take used piece ++ more) ≡ told t more) → ((s.outcome ≡ More → ⊥) → (used ≡ 0) × (t ≡ s))
    → new ≡ handed ++ take (length piece - used) (drop used piece) → told s (handed ++ (piece ++ more)) ≡ told t (new ++ more)
brings More s t used piece handed new more o apart past exact none items =
    let rest = take (length piece - used) (drop used piece) in
    ap (λ (l : List ℕ). told s (l ++ (piece ++ more))) apart
    ∙ ap (told s) (pieced used piece more)
    ∙ exact (rest ++ more)
    ∙ sym (ap (λ (l : List ℕ). told t (l ++ more)) (items ∙ ap (λ (l : List ℕ). l ++ rest) apart))
brings Past s t used piece handed new more o apart past exact none items =
    let kept = none (λ (e : s.outcome ≡ More). absurd cc) in
    let all : take (length piece - used) (drop used piece) ≡ piece =
    ap (λ (n : ℕ). take (length piece - n) (drop n piece)) kept.0 ∙ take_all (length piece - 0) piece (omega arith) in
    sym (ap (λ (l : List ℕ). told t (l ++ more)) (items ∙ ap (λ (l : List ℕ). handed ++ l) all) ∙ ap (λ (x : ProxyState). told x ((handed ++ piece) ++ more)) kept.1
    ∙ ap (told s) (append_assoc handed piece more))
brings (Failed f) s t used piece handed new more o apart past exact none items =
    let kept = none (λ (e : s.outcome ≡ More). absurd cc) in
    let same : t.outcome ≡ s.outcome = ap (λ (x : ProxyState). x.outcome) kept.1 in
    absurd cc

pub record Came (o : Outcome) (s : ProxyState) (handed : List ℕ) (d : Done) : Type 0 where
  pub standing : IsOutcome o d.standing
  pub all : handed ≡ d.handed
  pub same : (told s []).standing ≡ d.standing

-- what came of all pieces
pub came : (o : Outcome) (s : ProxyState) (handed : List ℕ) (d : Done) → Says o s → IsApart o handed → d ≡ told s handed → Came o s handed d
came More s handed d says apart is =
    let so : d ≡ did Awaits [] = is ∙ ap (told s) apart ∙ says in
    record {
      standing = subst (λ (x : Done). IsOutcome More x.standing) (sym so) tt;
      all = apart ∙ sym (ap (λ (x : Done). x.handed) so);
      same = ap (λ (x : Done). x.standing) (says ∙ sym so);
    }
came Past s handed d says apart is =
    let so = is ∙ says.1 handed in
    record {
      standing = subst (λ (x : Done). IsOutcome Past x.standing) (sym so) tt;
      all = sym (ap (λ (x : Done). x.handed) so);
      same = ap (λ (x : Done). x.standing) (says.1 []) ∙ sym (ap (λ (x : Done). x.standing) so);
    }
came (Failed f) s handed d says apart is =
    let so = is ∙ says.1 handed in
    record {
      standing = subst (λ (x : Done). IsOutcome (Failed f) x.standing) (sym so) refl;
      all = apart ∙ sym (ap (λ (x : Done). x.handed) so);
      same = ap (λ (x : Done). x.standing) (says.1 []) ∙ sym (ap (λ (x : Done). x.standing) so);
    }

-- A piece that leaves nothing behind it. ----------------------------------------------------------------------------------

still : (o : Outcome) (handed : List ℕ) → IsApart o handed → (o ≡ Past → ⊥) → handed ≡ []
still More handed apart n = apart
still Past handed apart n = absurd (n refl)
still (Failed f) handed apart n = apart

pub nil_apart : (o : Outcome) (handed : List ℕ) → handed ≡ [] → IsApart o handed
nil_apart More handed nil = nil
nil_apart Past handed nil = tt
nil_apart (Failed f) handed nil = nil

-- a layer that is not past has kept nothing for the endpoint, and had not before
pub nothing_kept : (s t : ProxyState) (used : ℕ) (handed : List ℕ) → IsApart s.outcome handed → ((s.outcome ≡ More → ⊥) → (used ≡ 0) × (t ≡ s)) → (t.outcome ≡ Past → ⊥) → handed ≡ []
nothing_kept s t used handed apart none n = still s.outcome handed apart
    (λ (e : s.outcome ≡ Past). n (ap (λ (x : ProxyState). x.outcome) (none (λ (m : s.outcome ≡ More). absurd cc)).1 ∙ e))

pub keeps : (p : Outcome) (s t : ProxyState) (used : ℕ) (piece handed more : List ℕ) → handed ≡ [] → (used < length piece → p ≡ More → ⊥)
    → ((more : List ℕ) → told s (take used piece ++ more) ≡ told t more) → Says p t → (p ≡ Past → ⊥)
    → told s (handed ++ (piece ++ more)) ≡ told t (handed ++ more)
keeps More s t used piece handed more nil all exact says n =
    elim (cases_lt used (length piece)) [
      | inl less ↦ absurd (all less refl)
      | inr whole ↦ ap (λ (l : List ℕ). told s (l ++ (piece ++ more))) nil
          ∙ ap (λ (l : List ℕ). told s (l ++ more)) (sym (take_all used piece whole))
          ∙ exact more
          ∙ ap (λ (l : List ℕ). told t (l ++ more)) (sym nil)
    ]
keeps Past s t used piece handed more nil all exact says n = absurd (n refl)
keeps (Failed f) s t used piece handed more nil all exact says n =
    let rest = take (length piece - used) (drop used piece) in
    ap (λ (l : List ℕ). told s (l ++ (piece ++ more))) nil
    ∙ ap (told s) (pieced used piece more)
    ∙ exact (rest ++ more)
    ∙ says.1 (rest ++ more)
    ∙ sym (says.1 (handed ++ more))
