use Rattle.std.proofs.Common.{◌≡◌, Result, Ok, Err, Some, None, subst, sym, ap, ◌∙◌, MatchResult}
use Rattle.std.specs.Result.{result_ok}
use Rattle.amqp_spool.proofs.LastDigits.{parsed}
use Rattle.amqp_spool.proofs.PositionTexts.{is_text}
use Rattle.amqp_spool.proofs.position.number_in.Goals as goal

not_none : {A E : Type 0} (r : Result A E) (P : A → Type 0) (Text : Type 0) (Q : E → Type 0) → Text → MatchResult r P (λ e. (¬ Text) × Q e) → result_ok r ≡ None → ⊥
not_none (Ok x) P Text Q text cases none = cc none
not_none (Err e) P Text Q text cases none = cases.0 text

at_some : {A E : Type 0} (r : Result A E) (P : A → Type 0) (Q : E → Type 0) (x : A) → MatchResult r P Q → result_ok r ≡ Some x → P x
at_some (Ok y) P Q x cases some = let same : y ≡ x = cc some in subst P same cases
at_some (Err e) P Q x cases some = cc some

pub returns-in_err-ok : goal.returns-in_err-ok
returns-in_err-ok c = λ n lt e.
    absurd (not_none c.from_utf8.result _ _ _ (is_text c.args.digits.now n e) c.from_utf8.ensures.cases (sym c.ok.ensures.value ∙ c.in_err-ok.was))

pub returns : goal.returns
returns c = λ n lt e.
    let same = at_some c.from_utf8.result _ _ c.in_ok-ok.field-0 c.from_utf8.ensures.cases (sym c.ok.ensures.value ∙ c.in_ok-ok.was) in
    let got = parsed c.in_ok-ok.field-0.now n c.parse.result lt (same.0 ∙ e) c.parse.ensures.value.0 in
    c.ok-2.ensures.value ∙ ap (λ r. result_ok r) got
