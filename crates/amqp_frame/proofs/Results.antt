-- What is asked of a result where it is an error.
use Rattle.std.proofs.lemmas.Bool.{true≢false}
use Rattle.std.specs.Prelude.{◌≡◌, false, Result, Ok, Err, OnErr, is_ok}

-- it holds where it holds anyway
pub on_err : {T E : Type 0} (r : Result T E) (P : Type 0) → P → OnErr r P
on_err (Ok x) P p = tt
on_err (Err e) P p = p

-- it holds of one that is not ok
pub of_err : {T E : Type 0} (r : Result T E) (P : Type 0) → is_ok r ≡ false → OnErr r P → P
of_err (Ok x) P bad p = absurd (true≢false bad)
of_err (Err e) P bad p = p
