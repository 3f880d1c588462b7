-- Pieces of an exchange, put together.
use Rattle.std.proofs.Common.{◌≡◌, ℕ, ◌-◌, Bool, List, ◌++◌, length, take, drop, Result, Ok, Err, OnOk, IfOk, sym, ap, subst, ◌∙◌, arith}
use Rattle.std.proofs.lemmas.List.{take-append-drop, take_all, append_assoc, length-drop}
use Rattle.std.specs.declared.alloc.AllocError.{AllocError}
use Rattle.amqp_sasl.specs.declared.replays.Replay.{Replay}
use Rattle.amqp_sasl.specs.Exchanges.{Done, HasCome}

-- a piece is what is taken of it, and the rest
pub pieced : (n : ℕ) (piece more : List ℕ) → piece ++ more ≡ take n piece ++ (take (length piece - n) (drop n piece) ++ more)
pieced n piece more =
    let rest = take_all (length piece - n) (drop n piece) (omega (arith, length-drop n piece)) in
    sym (ap (λ (l : List ℕ). take n piece ++ (l ++ more)) rest ∙ sym (append_assoc (take n piece) (drop n piece) more) ∙ ap (λ (l : List ℕ). l ++ more) (take-append-drop n piece))

pub mapped : (r : Result (Unit {0}) AllocError) (P Q : Type 0) → (P → Q) → OnOk r P → OnOk r Q
mapped (Ok x) P Q f h = f h
mapped (Err e) P Q f h = h

pub came : (r : Result Replay AllocError) (f : Bool → Done) (a : Bool) (d : Done) → IfOk r (λ x. (answer : Bool) → HasCome x (f answer)) → d ≡ f a → IfOk r (λ x. HasCome x d)
came (Ok x) f a d h e = subst (λ (y : Done). HasCome x y) (sym e) (h a)
came (Err e) f a d h is = h
