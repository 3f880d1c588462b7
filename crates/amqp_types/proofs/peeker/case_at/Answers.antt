use Rattle.std.proofs.Common.{ℕ, List, length, Some, sym, ap, subst, ◌∙◌}
use Rattle.amqp_types.specs.Peeks.{IsCaseFound}
use Rattle.amqp_types.specs.Spelling.{Spells}
use Rattle.amqp_types.specs.Trees.{Tree, Described}
use Rattle.amqp_types.proofs.Peeks.{opens, described_opens, no_allowed_err, constructor_is, never_empty}
use Rattle.amqp_types.proofs.peeker.case_at.Goals as goal

pub returns-in_default : goal.returns-in_default
returns-in_default c = λ t text rest h parts. never_empty t text rest h (sym (ap length parts) ∙ c.in_default.ensures.cases)

pub returns-then-code-eq0 : goal.returns-then-code-eq0
returns-then-code-eq0 c = λ t text rest h parts.
    let o = described_opens t text rest c.in-Some.code.now c.in-Some.rest.now h (sym c.in-Some.ensures.cases.0 ∙ parts) c.if-code-eq0.true in
    let found = c.described_case.ensures o.0 o.1 o.2 o.3 rest o.7 o.8 o.6 in
    subst (λ (x : Tree). IsCaseFound x text c.described_case.result) (sym o.4) (subst (λ (x : List ℕ). IsCaseFound (Described o.0 o.1) x c.described_case.result) (sym o.5) found)

pub returns-in_err-constructor : goal.returns-in_err-constructor
returns-in_err-constructor c = λ t text rest h parts.
    let o = opens t text rest c.in-Some.code.now c.in-Some.rest.now h (sym c.in-Some.ensures.cases.0 ∙ parts) c.if-code-eq0.false in
    absurd (no_allowed_err _ c.in-Some.code.now o.0 _ o.2 c.in_err-constructor.ensures.read)

pub returns : goal.returns
returns c = λ t text rest h parts.
    let o = opens t text rest c.in-Some.code.now c.in-Some.rest.now h (sym c.in-Some.ensures.cases.0 ∙ parts) c.if-code-eq0.false in
    let same = constructor_is _ c.in-Some.code.now o.0 c.in_ok-constructor.constructor o.2 c.in_ok-constructor.ensures.read in
    let found = c.item_case.ensures t c.in-Some.code.now o.1 rest (o.2 ∙ ap Some same) (subst (λ (x : List ℕ). Spells t x) o.3 h) o.4 in
    subst (λ (x : List ℕ). IsCaseFound t x c.item_case.result) (sym o.3) found
