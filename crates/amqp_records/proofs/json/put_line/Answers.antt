use Rattle.std.proofs.Common.{◌≡◌, ℕ, List, [], ◌∷◌, ◌++◌, string_bytes, ap, ◌∙◌}
use Rattle.std.specs.List.{flat_map}
use Rattle.std.specs.Str.{chars}
use Rattle.serde_json.specs.View.{view}
use Rattle.amqp_records.specs.Lines.{ascii_of}
use Rattle.amqp_records.proofs.Printables.{text_printable}
use Rattle.amqp_records.proofs.Objects.{same_numbers}
use Rattle.amqp_records.proofs.json.put_line.Goals as goal

pub returns : goal.returns
returns c =
    let read = c.record_in.ensures in
    let r = c.record_in.result in
    let text = string_bytes c.in_ok-text.text in
    let shown = λ (t : List ℕ). flat_map ascii_of (chars t) in
    let begun : c.put_ascii.new.line.items ≡ shown text =
    c.in_ok-put_ascii.ensures ∙ ap (λ (xs : List ℕ). xs ++ shown c.deref.result.now) c.clear.ensures.items ∙ ap shown c.deref.ensures
    in
    record {
      object = view c.in_ok-object.object;
      text = text;
      numbers = same_numbers c.args.number r.channel _ r.handle _ r.delivery_id _ r.message_format _ r.message.now _ (view c.in_ok-object.object) read.channel read.handle read.id read.format
          read.message c.in_ok-object.ensures;
      in_order = c.in_ok-text.ensures.order;
      reads_back = c.in_ok-text.ensures.reads_back;
      printable = text_printable (chars text);
      whole = c.in_ok-push.ensures.items ∙ ap (λ (xs : List ℕ). xs ++ 10 ∷ []) begun;
    }
