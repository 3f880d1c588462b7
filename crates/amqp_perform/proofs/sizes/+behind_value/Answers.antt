use Rattle.std.proofs.Common.{◌++◌, arith}
use Rattle.amqp_perform.proofs.SizeLaws.{not_empty, coded, described}
use Rattle.amqp_perform.proofs.sizes.+behind_value.Goals as goal

pub returns-in_err-code : goal.returns-in_err-code
returns-in_err-code t c = λ u text rest spelled deep parts.
    absurd (not_empty u text rest c.args.bytes.now spelled parts c.in_err-code.ensures.cases)

pub returns-then-code-ne0 : goal.returns-then-code-ne0
returns-then-code-ne0 t c = λ u text rest spelled deep parts.
    let o = coded u text rest c.args.bytes.now c.in_ok-code.code.now c.in_ok-code.data.now spelled parts c.in_ok-code.ensures.cases.0 c.if-code-ne0.true in
    c.behind_data.ensures u o.0 rest o.1 o.2

pub returns-then-depth-eq0 : goal.returns-then-depth-eq0
returns-then-depth-eq0 t c = λ u text rest spelled deep parts.
    let d = described u text rest c.args.bytes.now c.in_ok-code.code.now c.in_ok-code.data.now c.args.depth spelled deep parts c.in_ok-code.ensures.cases.0 c.if-code-ne0.false in
    absurd (omega (arith, d.deep, c.if-depth-eq0.true))

pub returns-in_err-described : goal.returns-in_err-described
returns-in_err-described t c = λ u text rest spelled deep parts.
    let d = described u text rest c.args.bytes.now c.in_ok-code.code.now c.in_ok-code.data.now c.args.depth spelled deep parts c.in_ok-code.ensures.cases.0 c.if-code-ne0.false in
    absurd (c.in_err-described.ensures d.descriptor d.first (d.second ++ rest) d.spelled (omega (arith, d.deep)) d.parts)

pub returns : goal.returns
returns t c = λ u text rest spelled deep parts.
    let d = described u text rest c.args.bytes.now c.in_ok-code.code.now c.in_ok-code.data.now c.args.depth spelled deep parts c.in_ok-code.ensures.cases.0 c.if-code-ne0.false in
    let first = c.in_ok-described.ensures d.descriptor d.first (d.second ++ rest) d.spelled (omega (arith, d.deep)) d.parts in
    c.behind_value-2.ensures d.described d.second rest d.others (omega (arith, d.others_deep)) first
