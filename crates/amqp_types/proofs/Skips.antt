-- What is left behind a value does not depend on what the value is.
use Rattle.std.proofs.Common.{◌≡◌, ℕ, Bool, true, false, List, length, take, drop, Option, None, Result, Ok, Err, refl, sym, ap, ◌∙◌, cond, ltb, arith}
use Rattle.std.proofs.lemmas.Bool.{le-ltb}
use Rattle.byteorder.specs.Endian.{big_number}
use Rattle.amqp_types.specs.declared.kind.Kind.{Kind}
use Rattle.amqp_types.specs.declared.kind.Kind.TheVariants as kind
use Rattle.amqp_types.specs.declared.code.Form.{Form}
use Rattle.amqp_types.specs.declared.code.Form.TheVariants as form
use Rattle.amqp_types.specs.declared.fault.ReadFault.{ReadFault}
use Rattle.amqp_types.specs.declared.window.Window.{Window}
use Rattle.amqp_types.specs.Kinds.{width, is_partial}
use Rattle.amqp_types.specs.Spelling.{form_len, sign_extended}
use Rattle.amqp_types.specs.Skipping.{rest_of}
use Rattle.amqp_types.specs.InHand.{place}
use Rattle.amqp_types.specs.Reading.{Read, ◌>>=◌, unless, number_fault, octets_at, big_at, form_at, number_at}

-- the bytes of two equal answers are the same
pub ok_rest : (a b : List ℕ) → ◌≡◌ {A = Result (List ℕ) ReadFault} (Ok a) (Ok b) → a ≡ b
ok_rest a b e = cc

-- most kinds have every number
pub no_fault : (k : Kind) (at n : ℕ) → is_partial k ≡ false → number_fault k at n ≡ None
no_fault kind.Boolean at n e = absurd cc
no_fault kind.Char at n e = absurd cc
no_fault _ at n e = refl

after_cond : {A B : Type 0} (b : Bool) (e : ReadFault) (x : A × List ℕ) (y : B × List ℕ) → x.1 ≡ y.1 → rest_of (cond b (Err e) (Ok x)) ≡ rest_of (cond b (Err e) (Ok y))
after_cond true e x y same = refl
after_cond false e x y same = ap (λ (rest : List ℕ). Ok rest) same

after_big : (w : Window) (n : ℕ) (bytes : List ℕ) → rest_of (big_at w n bytes) ≡ rest_of (octets_at w n bytes)
after_big w n bytes = after_cond (ltb (length bytes) n) w.short (big_number n bytes, drop n bytes) (take n bytes, drop n bytes) refl

-- no bytes leave all of them
pub nothing_taken : (w : Window) (bytes : List ℕ) → rest_of (octets_at w 0 bytes) ≡ Ok bytes
nothing_taken w bytes = rw (le-ltb (length bytes) 0 (omega arith)) refl

after_then : {A B : Type 0} (read : Read A) (f : A → B) → rest_of (read >>= λ x. Ok (f x.0, x.1)) ≡ rest_of read
after_then (Ok x) f = refl
after_then (Err e) f = refl

after_unless : {A : Type 0} (read : Read A) (faults : A → Option ReadFault) → ((x : A) → faults x ≡ None) → rest_of (read >>= λ x. unless (faults x.0) x) ≡ rest_of read
after_unless (Ok x) faults none = rw (none x.0) refl
after_unless (Err e) faults none = refl

after_form : (w : Window) (f : Form) (n : ℕ) (bytes : List ℕ) → rest_of (form_at w f n bytes) ≡ rest_of (octets_at w (form_len f n) bytes)
unfolding form_at
after_form w form.Zero n bytes = sym (nothing_taken w bytes)
after_form w form.One n bytes = sym (nothing_taken w bytes)
after_form w form.OneByte n bytes = after_big w 1 bytes
after_form w form.OneSigned n bytes = after_then (big_at w 1 bytes) (sign_extended n) ∙ after_big w 1 bytes
after_form w form.Full n bytes = after_big w n bytes

-- a number of such a kind is passed by its width
pub rest_of_number : (w : Window) (k : Kind) (f : Form) (bytes : List ℕ) → is_partial k ≡ false → rest_of (number_at w k f bytes) ≡ rest_of (octets_at w (form_len f (width k)) bytes)
unfolding number_at
rest_of_number w k f bytes e = after_unless (form_at w f (width k) bytes) (number_fault k (place w bytes)) (λ n. no_fault k (place w bytes) n e) ∙ after_form w f (width k) bytes
