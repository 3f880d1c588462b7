use Rattle.std.proofs.Common.{ℕ, List, take, drop, sym}
use Rattle.std.proofs.lemmas.List.{take-append-drop}
use Rattle.test_codec_rows.proofs.peeking.case_of.Goals as goal

pub peek-requires : goal.peek-requires
peek-requires c =
    let n : ℕ = c.in-Ok.field-0 in
    let bytes : List ℕ = c.args.bytes.now in
    let found = c.in-Ok.ensures.found in
    (found.0, take n bytes, drop n bytes, found.1, sym (take-append-drop n bytes))
