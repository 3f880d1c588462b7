use Rattle.std.proofs.Common.{◌≡◌, ℕ, All, List, [], ◌∷◌, ◌++◌, map, string_bytes, ap, ◌∙◌, subst}
use Rattle.std.proofs.lemmas.List.Elements.{All-append}
use Rattle.amqp_records.specs.Lines.{IsPrintable, printable_of, head_of}
use Rattle.amqp_records.proofs.Printables.{same_head, bytes_printable}
use Rattle.amqp_records.proofs.summary.put_line.Goals as goal

pub returns : goal.returns
returns c =
    let read = c.record_in-record.ensures in
    let r = c.record_in-record.result in
    let text = string_bytes c.in_ok-head.head in
    let head : text ≡ head_of c.args.number c.args.bytes.now =
    c.in_ok-head.ensures.numbers ∙ same_head c.args.number r.channel _ r.handle _ r.delivery_id _ r.message_format _ r.message.now _ read.channel read.handle read.id read.format read.message
    in
    let said = c.unwrap_or-shown.result.now in
    let shown = map printable_of said in
    let begun : c.extend_from_slice.new.self.items ≡ head_of c.args.number c.args.bytes.now =
    c.in_ok-extend_from_slice.ensures.items ∙ ap (λ (xs : List ℕ). xs ++ c.as_bytes-2.result.now) c.clear-2.ensures.items ∙ c.as_bytes-2.ensures.value ∙ head
    in
    record {
      shown = shown;
      printable = All-append IsPrintable (head_of c.args.number c.args.bytes.now) shown (subst (All IsPrintable) head c.in_ok-head.ensures.printable) (bytes_printable said);
      whole = c.in_ok-push.ensures.items ∙ ap (λ (xs : List ℕ). xs ++ 10 ∷ []) (c.in_ok-put_printable.ensures ∙ ap (λ (xs : List ℕ). xs ++ shown) begun);
    }
