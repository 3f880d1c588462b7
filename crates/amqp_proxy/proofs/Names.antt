-- Names that are taken.
use Rattle.std.proofs.Common.{◌≡◌, ℕ, ◌≤◌, Bool, true, false, Some, Ok, Err, List, length, refl, sym, ap, ◌∙◌, arith}
use Rattle.std.proofs.lemmas.Bool.Decides.{nat_tests}
use Rattle.std.proofs.lemmas.Str.{IsUtf8-from_is_utf8, is_utf8-from_IsUtf8}
use Rattle.std.specs.Str.{IsUtf8, is_utf8}
use Rattle.amqp_proxy.specs.declared.faults.ProxyFault.TheVariants.{NameNotText}
use Rattle.amqp_proxy.specs.Headers.{judged}

pub as_text : (name : List ℕ) → 1 ≤ length name → length name ≤ 255 → is_utf8 name ≡ true → judged name ≡ Ok (Some name)
as_text name a b e = grind (arith, nat_tests)

no_text : (name : List ℕ) → 1 ≤ length name → length name ≤ 255 → is_utf8 name ≡ false → judged name ≡ Err NameNotText
no_text name a b e = grind (arith, nat_tests)

pub is_text : (name text : List ℕ) → 1 ≤ length name → length name ≤ 255 → text ≡ name → IsUtf8 name → judged name ≡ Ok (Some text)
is_text name text a b same utf8 = as_text name a b (is_utf8-from_IsUtf8 name utf8) ∙ ap (λ (l : List ℕ). Ok (Some l)) (sym same)

pub is_no_text : (name : List ℕ) → 1 ≤ length name → length name ≤ 255 → (IsUtf8 name → ⊥) → judged name ≡ Err NameNotText
is_no_text name a b none = by (is_utf8 name) refl
  where
    by : (t : Bool) → is_utf8 name ≡ t → judged name ≡ Err NameNotText
    by true so = absurd (none (IsUtf8-from_is_utf8 name so))
    by false so = no_text name a b so
