-- amqp_addresses/proofs/spelling/spelled/Answers.antt
use Rattle.std.proofs.Common.{sym, ◌∙◌, ap, List, ℕ, ◌+◌, drop}
use Rattle.std.proofs.lemmas.Result.{err_from_is_err_and}
use Rattle.amqp_addresses.specs.Spelling.{spelled}
use Rattle.amqp_addresses.proofs.Spellings.{behind, from_within, goes_on, breaks_off, ends, gives_err}
use Rattle.amqp_addresses.proofs.spelling.spelled.Goals as goal

pub returns-in_err-byte : goal.returns-in_err-byte
returns-in_err-byte c =
    let q = err_from_is_err_and c.from_residual-in_err-byte.result c.from_residual-in_err-byte.ensures.1 in
    gives_err _ c.from_residual-in_err-byte.result q.0 _ (spelled c.args.text.now) q.1 q.2
    (sym c.loop-at.invariant.whole ∙ breaks_off c.args.text.now c.loop-at.bytes.items c.loop-at.at _ c.loop-at-test.true c.in_err-byte.ensures.err)

pub loop-at-preserved : goal.loop-at-preserved
loop-at-preserved c = record {
  within = from_within c.args.text.now c.loop-at.at c.in_ok-byte.len c.loop-at.invariant.within c.in_ok-byte.ensures.within;
  whole =
      ap (λ (x : List ℕ). behind x (spelled (drop (c.loop-at.at + c.in_ok-byte.len) c.args.text.now))) c.in_ok-push.ensures.items
      ∙ sym (goes_on c.args.text.now c.loop-at.bytes.items c.loop-at.at c.in_ok-byte.byte c.in_ok-byte.len c.loop-at-test.true c.in_ok-byte.ensures.byte c.in_ok-byte.ensures.len)
      ∙ c.loop-at.invariant.whole;
}

pub returns : goal.returns
returns c = sym c.loop-at.invariant.whole ∙ ends c.args.text.now c.loop-at.bytes.items c.loop-at.at c.loop-at-test.false
