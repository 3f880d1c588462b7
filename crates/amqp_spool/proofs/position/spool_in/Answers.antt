use Rattle.std.proofs.Common.{Result, Some, sym, ap, ◌∙◌, List, ℕ}
use Rattle.std.specs.Result.{result_ok}
use Rattle.hex.specs.declared.error.FromHexError.{FromHexError}
use Rattle.amqp_spool.proofs.PositionTexts.{decoded}
use Rattle.amqp_spool.proofs.position.spool_in.Goals as goal

pub returns-in_err-ok : goal.returns-in_err-ok
returns-in_err-ok c = λ id long bytes e.
    let got = rw (decoded c.args.text.now id long bytes e) at c.decode_to_slice.ensures.value in
    let some = sym c.in_err-ok.was ∙ c.ok.ensures.value ∙ ap (λ (r : Result (Unit {0}) FromHexError). result_ok r) got.0 in
    cc some

pub returns : goal.returns
returns c = λ id long bytes e.
    let got = rw (decoded c.args.text.now id long bytes e) at c.decode_to_slice.ensures.value in
    ap (λ (l : List ℕ). Some l) got.1
