-- What was written so far of a file of records.
use Rattle.std.proofs.Common.{◌≡◌, ◌≢◌, ℕ, ◌+◌, ◌-◌, List, [], ◌∷◌, ◌++◌, length, take, drop, Option, refl, sym, ap, ◌∙◌, subst, arith, append_assoc, append-nil, length-append, Result, Ok, Err, OnOk, OnErr, inr}
use Rattle.std.proofs.KnownBytes.{Appends-nil, Appends-trans, Appends-kept}
use Rattle.std.proofs.lemmas.List.{take-append-drop, length-take-le}
use Rattle.std.proofs.lemmas.Bool.{eq-eqb, ne_eqb}
use Rattle.std.specs.Io.KnownBytes.{Appends, Consumes, Keeps}
use Rattle.amqp_frame.specs.Devices.{AppendsFront}
use Rattle.amqp_records.specs.declared.printer.Output.{Output}
use Rattle.amqp_records.specs.declared.printer.Output.TheVariants.{Text, Json, Only}
use Rattle.amqp_records.specs.declared.record.Front.TheVariants.{Whole}
use Rattle.amqp_records.specs.Records.{front_of, IsRecord, AreRecords, joined, Holds}
use Rattle.amqp_records.specs.Printing.{IsLineOf, IsWritten, AreWritten, BeginsWriting, HasPrinted, HasBegun, Prints}
use Rattle.amqp_records.proofs.Fronts.{whole_front}

-- one record more
pub records_more : (limit : ℕ) (records : List (List ℕ)) (r : List ℕ) → AreRecords limit records → IsRecord limit r → AreRecords limit (records ++ r ∷ [])
records_more limit [] r each is = (is, tt)
records_more limit (x ∷ xs) r each is = (each.0, records_more limit xs r each.1 is)

pub joined_more : (records : List (List ℕ)) (r : List ℕ) → joined (records ++ r ∷ []) ≡ joined records ++ r
joined_more [] r = append-nil r
joined_more (x ∷ xs) r = ap (λ (y : List ℕ). x ++ y) (joined_more xs r) ∙ sym (append_assoc x (joined xs) r)

-- what is written of it stands behind what is written of those before it
written_more : (output : Output) (number : ℕ) (records : List (List ℕ)) (r written more : List ℕ) → AreWritten output number records written
    → IsWritten output (number + length records) r more → AreWritten output number (records ++ r ∷ []) (written ++ more)
written_more output number [] r written more none is =
    let at : number + 0 ≡ number = omega arith in
    (more, [], subst (λ (n : ℕ). IsWritten output n r more) at is, refl, ap (λ (y : List ℕ). y ++ more) none ∙ sym (append-nil more))
written_more output number (x ∷ xs) r written more h is =
    let at : number + length (x ∷ xs) ≡ (number + 1) + length xs = omega arith in (
      h.0,
      h.1 ++ more,
      h.2,
      written_more output (number + 1) xs r h.1 more h.3 (subst (λ (n : ℕ). IsWritten output n r more) at is),
      ap (λ (y : List ℕ). y ++ more) h.4 ∙ append_assoc h.0 h.1 more,
    )

-- these bytes are one record more, and what is behind it
holds_more : (limit : ℕ) (came rest : List ℕ) (records : List (List ℕ)) (n : ℕ) → Holds limit came records rest → front_of limit rest ≡ Whole n
    → Holds limit came (records ++ take n rest ∷ []) (drop n rest)
holds_more limit came rest records n h e = record {
  each = records_more limit records (take n rest) h.each (whole_front limit rest n e).2;
  is = h.is ∙ ap (λ (y : List ℕ). joined records ++ y) (sym (take-append-drop n rest)) ∙ sym (append_assoc (joined records) (take n rest) (drop n rest))
      ∙ ap (λ (y : List ℕ). y ++ drop n rest) (sym (joined_more records (take n rest)));
}

-- nothing came and nothing was written yet
pub none_printed : (output : Output) (limit : ℕ) (held : Option (List ℕ)) → HasPrinted output limit held held 1 0 [] []
none_printed output limit held = record {
  records = [];
  written = [];
  holds = record { each = tt; is = refl };
  went = Appends-nil held;
  are = refl;
  counted = refl;
  placed = refl;
}

-- what is wanted of the record at the front was written
pub printed_more : (output : Output) (limit : ℕ) (held now new : Option (List ℕ)) (number place n : ℕ) (rest came more : List ℕ)
    → HasPrinted output limit held now number place rest came → front_of limit rest ≡ Whole n → IsWritten output number (take n rest) more → Appends now new more
    → HasPrinted output limit held new (number + 1) (place + n) (drop n rest) came
printed_more output limit held now new number place n rest came more h e is went =
    let fits = whole_front limit rest n e in
    let len : length (take n rest) ≡ n = length-take-le n rest fits.1 in
    let at : number ≡ 1 + length h.records = omega (arith, h.counted) in
    let counts : length (h.records ++ take n rest ∷ []) ≡ length h.records + 1 = length-append h.records (take n rest ∷ []) in
    let longer : length (joined (h.records ++ take n rest ∷ [])) ≡ length (joined h.records) + n =
    ap length (joined_more h.records (take n rest)) ∙ length-append (joined h.records) (take n rest) ∙ ap (λ (k : ℕ). length (joined h.records) + k) len
    in
    record {
      records = h.records ++ take n rest ∷ [];
      written = h.written ++ more;
      holds = holds_more limit came rest h.records n h.holds e;
      went = Appends-trans held now new h.written more h.went went;
      are = written_more output 1 h.records (take n rest) h.written more h.are (subst (λ (k : ℕ). IsWritten output k (take n rest) more) at is);
      counted = omega (arith, counts, h.counted);
      placed = omega (arith, longer, h.placed);
    }

-- a beginning of that was written
pub begun_more : (output : Output) (limit : ℕ) (held now new : Option (List ℕ)) (number place n : ℕ) (rest came written missing : List ℕ)
    → HasPrinted output limit held now number place rest came → front_of limit rest ≡ Whole n → IsWritten output number (take n rest) (written ++ missing)
    → Appends now new written → HasBegun output limit held new came
begun_more output limit held now new number place n rest came written missing h e is went =
    let at : number ≡ 1 + length h.records = omega (arith, h.counted) in
    record {
      records = h.records ++ take n rest ∷ [];
      rest = drop n rest;
      written = h.written ++ written;
      missing = missing;
      holds = holds_more limit came rest h.records n h.holds e;
      went = Appends-trans held now new h.written written h.went went;
      are = subst (λ (y : List ℕ). AreWritten output 1 (h.records ++ take n rest ∷ []) y) (sym (append_assoc h.written written missing))
          (written_more output 1 h.records (take n rest) h.written (written ++ missing) h.are (subst (λ (k : ℕ). IsWritten output k (take n rest) (written ++ missing)) at is));
    }

-- what was written is a beginning of what is
pub begun_here : (output : Output) (limit : ℕ) (held now : Option (List ℕ)) (number place : ℕ) (rest came : List ℕ)
    → HasPrinted output limit held now number place rest came → HasBegun output limit held now came
begun_here output limit held now number place rest came h = record {
  records = h.records;
  rest = rest;
  written = h.written;
  missing = [];
  holds = h.holds;
  went = h.went;
  are = subst (λ (y : List ℕ). AreWritten output 1 h.records y) (sym (append-nil h.written)) h.are;
}

-- more bytes came
pub printed_piece : (output : Output) (limit : ℕ) (held now : Option (List ℕ)) (number place : ℕ) (rest came piece : List ℕ)
    → HasPrinted output limit held now number place rest came → HasPrinted output limit held now number place (rest ++ piece) (came ++ piece)
printed_piece output limit held now number place rest came piece h = record {
  records = h.records;
  written = h.written;
  holds = record { each = h.holds.each; is = ap (λ (y : List ℕ). y ++ piece) h.holds.is ∙ append_assoc (joined h.records) rest piece };
  went = h.went;
  are = h.are;
  counted = h.counted;
  placed = h.placed;
}

-- the writer was flushed
pub printed_kept : (output : Output) (limit : ℕ) (held now new : Option (List ℕ)) (number place : ℕ) (rest came : List ℕ)
    → HasPrinted output limit held now number place rest came → Keeps now new → HasPrinted output limit held new number place rest came
printed_kept output limit held now new number place rest came h kept = record {
  records = h.records;
  written = h.written;
  holds = h.holds;
  went = Appends-kept held now new h.written h.went kept;
  are = h.are;
  counted = h.counted;
  placed = h.placed;
}

-- nothing was written since
pub printed_nothing : (output : Output) (limit : ℕ) (held now new : Option (List ℕ)) (number place : ℕ) (rest came : List ℕ)
    → HasPrinted output limit held now number place rest came → Appends now new [] → HasPrinted output limit held new number place rest came
printed_nothing output limit held now new number place rest came h went = record {
  records = h.records;
  written = h.written;
  holds = h.holds;
  went = subst (λ (y : List ℕ). Appends held new y) (append-nil h.written) (Appends-trans held now new h.written [] h.went went);
  are = h.are;
  counted = h.counted;
  placed = h.placed;
}

-- a line is what is wanted where not one message alone is
pub line_written : (output : Output) (number : ℕ) (record_ line : List ℕ) → ((n : ℕ) → output ≡ Only n → ⊥) → IsLineOf output number record_ line → IsWritten output number record_ line
line_written Text number record_ line never is = is
line_written Json number record_ line never is = is
line_written (Only n) number record_ line never is = absurd (never n refl)

-- where one is, it is its message, and nothing of others
pub message_written : (output : Output) (n number : ℕ) (record_ : List ℕ) → output ≡ Only n → number ≡ n → IsWritten output number record_ (drop 18 record_)
message_written output n number record_ is same = subst (λ (o : Output). IsWritten o number record_ (drop 18 record_)) (sym is) (rw (eq-eqb number n same) refl)

pub nothing_written : (output : Output) (n number : ℕ) (record_ : List ℕ) → output ≡ Only n → number ≢ n → IsWritten output number record_ []
nothing_written output n number record_ is other = subst (λ (o : Output). IsWritten o number record_ []) (sym is) (rw (ne_eqb number n other) refl)

-- what holds where a call succeeded, and where it failed
pub ok_map : {T E : Type 0} (r : Result T E) (P Q : Type 0) → (P → Q) → OnOk r P → OnOk r Q
ok_map (Ok x) P Q f p = f p
ok_map (Err e) P Q f p = tt

pub err_map : {T E : Type 0} (r : Result T E) (P Q : Type 0) → (P → Q) → OnErr r P → OnErr r Q
err_map (Ok x) P Q f p = tt
err_map (Err e) P Q f p = f p

-- what is wanted of a record was written
abbrev pub Writes : Output → ℕ → List ℕ → (held now : Option (List ℕ)) → Type 0
Writes output number record_ held now = (written : List ℕ) × IsWritten output number record_ written × Appends held now written

-- a front of what is wanted
pub front_begins : (output : Output) (number : ℕ) (record_ wanted : List ℕ) (held now : Option (List ℕ)) → IsWritten output number record_ wanted → AppendsFront held now wanted
    → BeginsWriting output number record_ held now
front_begins output number record_ wanted held now is p = inr (p.front, p.behind, subst (λ (y : List ℕ). IsWritten output number record_ y) p.is is, p.written)

-- what was written is of the bytes that a reader gave
pub prints : (output : Output) (limit : ℕ) (left over held now : Option (List ℕ)) (number place : ℕ) (rest came : List ℕ) (Rest : List ℕ → Type 0)
    → Consumes left over came → HasPrinted output limit held now number place rest came → Rest rest → Prints output limit left over held now (number - 1) place Rest
prints output limit left over held now number place rest came Rest took h is =
    let same : number ≡ (number - 1) + 1 = omega (arith, h.counted) in
    (came, rest, took, subst (λ (k : ℕ). HasPrinted output limit held now k place rest came) same h, is)
