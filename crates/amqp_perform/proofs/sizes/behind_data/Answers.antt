use Rattle.std.proofs.Common.{sym, ◌∙◌}
use Rattle.std.proofs.lemmas.Option.{none-some, some_pair_parts}
use Rattle.amqp_perform.proofs.SizeLaws.{no_form, form_left}
use Rattle.amqp_perform.proofs.sizes.behind_data.Goals as goal

pub returns-in_err-form : goal.returns-in_err-form
returns-in_err-form c = λ t text rest spelled parts. absurd (no_form t c.args.code text spelled c.requires c.in_err-form.ensures)

pub returns-in_err-take_data : goal.returns-in_err-take_data
returns-in_err-take_data c = λ t text rest spelled parts.
    let left = form_left t c.args.code text rest c.args.bytes.now c.in_ok-form.form spelled c.requires c.in_ok-form.ensures parts in
    absurd (none-some (left.0, rest) (sym c.in_err-take_data.ensures ∙ left.1))

pub returns : goal.returns
returns c = λ t text rest spelled parts.
    let left = form_left t c.args.code text rest c.args.bytes.now c.in_ok-form.form spelled c.requires c.in_ok-form.ensures parts in
    (some_pair_parts c.in_ok-take_data.field-0.now left.0 c.take_data.new.cursor.bytes.now rest (sym c.in_ok-take_data.ensures ∙ left.1)).1
