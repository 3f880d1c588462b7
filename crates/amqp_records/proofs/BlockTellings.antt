-- What was written so far of a file of blocks.
use Rattle.std.proofs.Common.{◌≡◌, ◌≢◌, ℕ, ◌+◌, ◌-◌, List, [], ◌∷◌, ◌++◌, length, take, drop, Option, refl, sym, ap, ◌∙◌, subst, arith, append_assoc, append-nil, length-append, inr}
use Rattle.std.proofs.KnownBytes.{Appends-nil, Appends-trans, Appends-kept}
use Rattle.std.proofs.lemmas.Bool.{eq-eqb, ne_eqb}
use Rattle.std.proofs.lemmas.List.{take-append-drop, drop-drop}
use Rattle.std.proofs.Math.Seq.{take-append_seam, drop-append_seam}
use Rattle.std.specs.Io.KnownBytes.{Appends, Consumes, Keeps}
use Rattle.byteorder.specs.Numbers.{big_from-append}
use Rattle.amqp_frame.specs.Devices.{AppendsFront}
use Rattle.amqp_records.specs.declared.printer.Output.{Output}
use Rattle.amqp_records.specs.declared.printer.Output.TheVariants.{Text, Json, Only}
use Rattle.amqp_records.specs.declared.record.Front.TheVariants.{Whole}
use Rattle.amqp_records.specs.Records.{front_of, AreRecords, joined, Holds, BeginsNoRecord}
use Rattle.amqp_records.specs.Printing.{IsLineOf}
use Rattle.amqp_records.specs.Blocks.{number_of, AllRecords, FileBlock, bytes_of, file_of, BeginsBlock}
use Rattle.amqp_records.specs.BlockPrinting.{with_connection, IsTold, Entry, of_connection, entries, AreTold, BeginsTelling, TellsBlock, BeginsToTell, HasTold, HasBegunToTell, TellsBlocks}
use Rattle.amqp_records.proofs.Fronts.{whole_front, one_reading}
use Rattle.amqp_records.proofs.Printings.{records_more, joined_more}
use Rattle.amqp_records.proofs.BlockFronts.{records_behind, none_left, file_join, holds_join, holds_one, holds_none, holds_piece}

-- What is written of one record. --------------------------------------------------------------------------------------

-- a line is what is wanted where not one message alone is
pub line_told : (output : Output) (connection number : ℕ) (record_ line written : List ℕ) → ((n : ℕ) → output ≡ Only n → ⊥) → IsLineOf output number record_ line
    → written ≡ with_connection output connection line → IsTold output connection number record_ written
line_told Text connection number record_ line written never is whole = (line, is, whole)
line_told Json connection number record_ line written never is whole = (line, is, whole)
line_told (Only n) connection number record_ line written never is whole = absurd (never n refl)

-- where one is, it is its message, and nothing of others
pub message_told : (output : Output) (n connection number : ℕ) (record_ : List ℕ) → output ≡ Only n → number ≡ n → IsTold output connection number record_ (drop 18 record_)
message_told output n connection number record_ is same =
    subst (λ (o : Output). IsTold o connection number record_ (drop 18 record_)) (sym is) (rw (eq-eqb number n same) refl)

pub nothing_told : (output : Output) (n connection number : ℕ) (record_ : List ℕ) → output ≡ Only n → number ≢ n → IsTold output connection number record_ []
nothing_told output n connection number record_ is other = subst (λ (o : Output). IsTold o connection number record_ []) (sym is) (rw (ne_eqb number n other) refl)

-- what is wanted of a record was written
abbrev pub Tells : Output → (connection number : ℕ) → List ℕ → (held now : Option (List ℕ)) → Type 0
Tells output connection number record_ held now = (written : List ℕ) × IsTold output connection number record_ written × Appends held now written

-- a front of what is wanted
pub front_told : (output : Output) (connection number : ℕ) (record_ wanted : List ℕ) (held now : Option (List ℕ)) → IsTold output connection number record_ wanted
    → AppendsFront held now wanted → BeginsTelling output connection number record_ held now
front_told output connection number record_ wanted held now is p =
    inr (p.front, p.behind, subst (λ (y : List ℕ). IsTold output connection number record_ y) p.is is, p.written)

-- Entries. ------------------------------------------------------------------------------------------------------------

told_join : (output : Output) (number : ℕ) (es more : List Entry) (written others : List ℕ) → AreTold output number es written → AreTold output (number + length es) more others
    → AreTold output number (es ++ more) (written ++ others)
told_join output number [] more written others none are =
    let at : number + 0 ≡ number = omega arith in
    subst (λ (y : List ℕ). AreTold output number more (y ++ others)) (sym none) (subst (λ (n : ℕ). AreTold output n more others) at are)
told_join output number (e ∷ es) more written others h are =
    let at : number + length (e ∷ es) ≡ (number + 1) + length es = omega arith in (
      h.0,
      h.1 ++ others,
      h.2,
      told_join output (number + 1) es more h.1 others h.3 (subst (λ (n : ℕ). AreTold output n more others) at are),
      ap (λ (y : List ℕ). y ++ others) h.4 ∙ append_assoc h.0 h.1 others,
    )

told_one : (output : Output) (number : ℕ) (e : Entry) (written : List ℕ) → IsTold output e.connection number e.bytes written → AreTold output number (e ∷ []) written
told_one output number e written is = (written, [], is, refl, sym (append-nil written))

of_join : (connection : ℕ) (records more : List (List ℕ)) → of_connection connection (records ++ more) ≡ of_connection connection records ++ of_connection connection more
of_join connection [] more = refl
of_join connection (r ∷ rs) more = ap (λ (es : List Entry). record { connection = connection; bytes = r } ∷ es) (of_join connection rs more)

of_length : (connection : ℕ) (records : List (List ℕ)) → length (of_connection connection records) ≡ length records
of_length connection [] = refl
of_length connection (r ∷ rs) = let more : length (of_connection connection rs) ≡ length rs = of_length connection rs in omega (arith, more)

entries_join : (blocks more : List FileBlock) → entries (blocks ++ more) ≡ entries blocks ++ entries more
entries_join [] more = refl
entries_join (b ∷ blocks) more = ap (λ (es : List Entry). of_connection (number_of b.head) b.records ++ es) (entries_join blocks more)
    ∙ sym (append_assoc (of_connection (number_of b.head) b.records) (entries blocks) (entries more))

entries_one : (blocks : List FileBlock) (b : FileBlock) → entries (blocks ++ b ∷ []) ≡ entries blocks ++ of_connection (number_of b.head) b.records
entries_one blocks b = entries_join blocks (b ∷ []) ∙ ap (λ (es : List Entry). entries blocks ++ es) (append-nil (of_connection (number_of b.head) b.records))

-- The records of a block. ---------------------------------------------------------------------------------------------

records_join : (limit : ℕ) (records more : List (List ℕ)) → AreRecords limit records → AreRecords limit more → AreRecords limit (records ++ more)
records_join limit [] more each others = others
records_join limit (r ∷ rs) more each others = (each.0, records_join limit rs more each.1 others)

joined_join : (records more : List (List ℕ)) → joined (records ++ more) ≡ joined records ++ joined more
joined_join [] more = refl
joined_join (r ∷ rs) more = ap (λ (y : List ℕ). r ++ y) (joined_join rs more) ∙ sym (append_assoc r (joined rs) (joined more))

-- so far those up to a place were written
pub record HasToldSome (output : Output) (limit connection : ℕ) (bytes : List ℕ) (held now : Option (List ℕ)) (number next at : ℕ) : Type 0 where
  pub records : List (List ℕ)
  pub written : List ℕ
  pub each : AreRecords limit records
  pub is : bytes ≡ joined records ++ drop at bytes
  pub all : AllRecords limit (drop at bytes)
  pub went : Appends held now written
  pub are : AreTold output number (of_connection connection records) written
  pub counted : next ≡ number + length records

pub some_none : (output : Output) (limit connection : ℕ) (bytes : List ℕ) (held : Option (List ℕ)) (number : ℕ) → AllRecords limit bytes
    → HasToldSome output limit connection bytes held held number number 0
some_none output limit connection bytes held number all = record {
  records = [];
  written = [];
  each = tt;
  is = refl;
  all = all;
  went = Appends-nil held;
  are = refl;
  counted = omega arith;
}

-- one more
pub some_more : (output : Output) (limit connection : ℕ) (bytes : List ℕ) (held now new : Option (List ℕ)) (number next at n : ℕ) (more : List ℕ)
    → HasToldSome output limit connection bytes held now number next at → front_of limit (drop at bytes) ≡ Whole n → IsTold output connection next (take n (drop at bytes)) more
    → Appends now new more → HasToldSome output limit connection bytes held new number (next + 1) (at + n)
some_more output limit connection bytes held now new number next at n more h e is went =
    let rest : List ℕ = drop at bytes in
    let r : List ℕ = take n rest in
    let one : Entry = record { connection = connection; bytes = r } in
    let behind : drop n rest ≡ drop (at + n) bytes = drop-drop n at bytes in
    let count : next ≡ number + length (of_connection connection h.records) = h.counted ∙ ap (λ (k : ℕ). number + k) (sym (of_length connection h.records)) in
    record {
      records = h.records ++ r ∷ [];
      written = h.written ++ more;
      each = records_more limit h.records r h.each (whole_front limit rest n e).2;
      is = h.is ∙ ap (λ (y : List ℕ). joined h.records ++ y) (sym (take-append-drop n rest)) ∙ sym (append_assoc (joined h.records) r (drop n rest))
          ∙ ap (λ (y : List ℕ). y ++ drop n rest) (sym (joined_more h.records r)) ∙ ap (λ (y : List ℕ). joined (h.records ++ r ∷ []) ++ y) behind;
      all = subst (AllRecords limit) behind (records_behind limit rest n e h.all.0 h.all.1);
      went = Appends-trans held now new h.written more h.went went;
      are = subst (λ (es : List Entry). AreTold output number es (h.written ++ more)) (sym (of_join connection h.records (r ∷ [])))
          (told_join output number (of_connection connection h.records) (one ∷ []) h.written more h.are
          (subst (λ (k : ℕ). AreTold output k (one ∷ []) more) count (told_one output next one more is)));
      counted = omega (arith, h.counted, length-append h.records (r ∷ []));
    }

-- what was written is a beginning of what is
pub some_here : (output : Output) (limit connection : ℕ) (bytes : List ℕ) (held now : Option (List ℕ)) (number next at : ℕ)
    → HasToldSome output limit connection bytes held now number next at → BeginsToTell output limit connection bytes held now number
some_here output limit connection bytes held now number next at h = record {
  records = h.records;
  others = h.all.0;
  written = h.written;
  missing = [];
  holds = record {
    each = records_join limit h.records h.all.0 h.each h.all.1.each;
    is = h.is ∙ ap (λ (y : List ℕ). joined h.records ++ y) h.all.1.is ∙ sym (append_assoc (joined h.records) (joined h.all.0) [])
        ∙ ap (λ (y : List ℕ). y ++ []) (sym (joined_join h.records h.all.0));
  };
  went = h.went;
  are = subst (λ (y : List ℕ). AreTold output number (of_connection connection h.records) y) (sym (append-nil h.written)) h.are;
}

-- nothing was written since
pub some_nothing : (output : Output) (limit connection : ℕ) (bytes : List ℕ) (held now new : Option (List ℕ)) (number next at : ℕ)
    → HasToldSome output limit connection bytes held now number next at → Appends now new [] → HasToldSome output limit connection bytes held new number next at
some_nothing output limit connection bytes held now new number next at h went = record {
  records = h.records;
  written = h.written;
  each = h.each;
  is = h.is;
  all = h.all;
  went = subst (λ (y : List ℕ). Appends held new y) (append-nil h.written) (Appends-trans held now new h.written [] h.went went);
  are = h.are;
  counted = h.counted;
}

-- a beginning of one more was written
pub some_begun : (output : Output) (limit connection : ℕ) (bytes : List ℕ) (held now new : Option (List ℕ)) (number next at n : ℕ) (written missing : List ℕ)
    → HasToldSome output limit connection bytes held now number next at → front_of limit (drop at bytes) ≡ Whole n
    → IsTold output connection next (take n (drop at bytes)) (written ++ missing) → Appends now new written → BeginsToTell output limit connection bytes held new number
some_begun output limit connection bytes held now new number next at n written missing h e is went =
    let rest : List ℕ = drop at bytes in
    let r : List ℕ = take n rest in
    let one : Entry = record { connection = connection; bytes = r } in
    let left = records_behind limit rest n e h.all.0 h.all.1 in
    let records : List (List ℕ) = h.records ++ r ∷ [] in
    let count : next ≡ number + length (of_connection connection h.records) = h.counted ∙ ap (λ (k : ℕ). number + k) (sym (of_length connection h.records)) in
    let split : bytes ≡ joined records ++ drop n rest =
    h.is ∙ ap (λ (y : List ℕ). joined h.records ++ y) (sym (take-append-drop n rest)) ∙ sym (append_assoc (joined h.records) r (drop n rest))
    ∙ ap (λ (y : List ℕ). y ++ drop n rest) (sym (joined_more h.records r))
    in
    record {
      records = records;
      others = left.0;
      written = h.written ++ written;
      missing = missing;
      holds = record {
        each = records_join limit records left.0 (records_more limit h.records r h.each (whole_front limit rest n e).2) left.1.each;
        is = split ∙ ap (λ (y : List ℕ). joined records ++ y) left.1.is ∙ sym (append_assoc (joined records) (joined left.0) [])
            ∙ ap (λ (y : List ℕ). y ++ []) (sym (joined_join records left.0));
      };
      went = Appends-trans held now new h.written written h.went went;
      are = subst (λ (es : List Entry). AreTold output number es ((h.written ++ written) ++ missing)) (sym (of_join connection h.records (r ∷ [])))
          (subst (λ (y : List ℕ). AreTold output number (of_connection connection h.records ++ one ∷ []) y) (sym (append_assoc h.written written missing))
          (told_join output number (of_connection connection h.records) (one ∷ []) h.written (written ++ missing) h.are
          (subst (λ (k : ℕ). AreTold output k (one ∷ []) (written ++ missing)) count (told_one output next one (written ++ missing) is))));
    }

-- where none begins any more all were written
pub some_all : (output : Output) (limit connection : ℕ) (bytes : List ℕ) (held now : Option (List ℕ)) (number next at : ℕ)
    → HasToldSome output limit connection bytes held now number next at → BeginsNoRecord limit (drop at bytes) → TellsBlock output limit connection bytes held now number next
some_all output limit connection bytes held now number next at h none = record {
  records = h.records;
  written = h.written;
  holds = record { each = h.each; is = h.is ∙ ap (λ (y : List ℕ). joined h.records ++ y) (none_left limit (drop at bytes) none h.all.0 h.all.1) };
  went = h.went;
  are = h.are;
  counted = h.counted;
}

-- Blocks. -------------------------------------------------------------------------------------------------------------

-- the bytes of the block at the front
front_bytes : (limit : ℕ) (rest : List ℕ) (n : ℕ) → (h : BeginsBlock limit rest n)
    → (take (12 + n) rest ≡ bytes_of h.block) × (number_of (take (12 + n) rest) ≡ number_of h.block.head) × (drop 12 (take (12 + n) rest) ≡ joined h.block.records)
front_bytes limit rest n h =
    let b : FileBlock = h.block in
    let left : List ℕ = drop (12 + n) rest in
    let long : 12 + n ≡ length (bytes_of b) = omega (arith, h.sized, h.whole.headed, length-append b.head (joined b.records)) in
    let same : take (12 + n) rest ≡ bytes_of b = ap (take (12 + n)) h.is ∙ ap (λ (k : ℕ). take k (bytes_of b ++ left)) long ∙ take-append_seam (bytes_of b) left in
    let number : number_of (take (12 + n) rest) ≡ number_of b.head = ap number_of same ∙ big_from-append 8 b.head (joined b.records) (omega (arith, h.whole.headed)) in
    let behind : drop 12 (take (12 + n) rest) ≡ joined b.records = ap (drop 12) same ∙ ap (λ (k : ℕ). drop k (bytes_of b)) (sym h.whole.headed) ∙ drop-append_seam b.head (joined b.records) in
    (same, number, behind)

pub block_records : (limit : ℕ) (rest : List ℕ) (n : ℕ) → BeginsBlock limit rest n → AllRecords limit (drop 12 (take (12 + n) rest))
block_records limit rest n h = (h.block.records, record { each = h.whole.each; is = (front_bytes limit rest n h).2 ∙ sym (append-nil (joined h.block.records)) })

none_in_nothing : (limit : ℕ) → BeginsNoRecord limit []
none_in_nothing limit = λ n e. absurd cc

-- they are read in one way
only_records : (limit : ℕ) (rest : List ℕ) (n : ℕ) → (h : BeginsBlock limit rest n) → (records : List (List ℕ)) → Holds limit (drop 12 (take (12 + n) rest)) records []
    → records ≡ h.block.records
unfolding block_records
only_records limit rest n h records holds =
    let all = block_records limit rest n h in
    (one_reading limit (drop 12 (take (12 + n) rest)) [] [] records all.0 holds (none_in_nothing limit) all.1 (none_in_nothing limit)).0

-- nothing came and nothing was written yet
pub told_none : (output : Output) (limit : ℕ) (held : Option (List ℕ)) → HasTold output limit held held 1 0 [] []
told_none output limit held = record {
  blocks = [];
  written = [];
  holds = holds_none limit [];
  went = Appends-nil held;
  are = refl;
  counted = refl;
  placed = refl;
}

-- what is wanted of the block at the front was written
pub told_block : (output : Output) (limit : ℕ) (held now new : Option (List ℕ)) (number next place n : ℕ) (rest came : List ℕ) → HasTold output limit held now number place rest came
    → BeginsBlock limit rest n → TellsBlock output limit (number_of (take (12 + n) rest)) (drop 12 (take (12 + n) rest)) now new number next
    → HasTold output limit held new next (place + (12 + n)) (drop (12 + n) rest) came
told_block output limit held now new number next place n rest came h begins tells =
    let b : FileBlock = begins.block in
    let c : ℕ = number_of b.head in
    let facts = front_bytes limit rest n begins in
    let same : tells.records ≡ b.records = only_records limit rest n begins tells.records tells.holds in
    let told : AreTold output number (of_connection c b.records) tells.written =
    subst (λ (rs : List (List ℕ)). AreTold output number (of_connection c rs) tells.written) same
    (subst (λ (k : ℕ). AreTold output number (of_connection k tells.records) tells.written) facts.1 tells.are)
    in
    let at : number ≡ 1 + length (entries h.blocks) = omega (arith, h.counted) in
    let long : length (bytes_of b) ≡ 12 + n = omega (arith, begins.sized, begins.whole.headed, length-append b.head (joined b.records)) in
    let all : List FileBlock = h.blocks ++ b ∷ [] in
    let count : length (entries all) ≡ length (entries h.blocks) + length b.records =
    ap length (entries_one h.blocks b) ∙ length-append (entries h.blocks) (of_connection c b.records) ∙ ap (λ (k : ℕ). length (entries h.blocks) + k) (of_length c b.records)
    in
    let file : length (file_of all) ≡ length (file_of h.blocks) + (12 + n) =
    ap length (file_join h.blocks (b ∷ [])) ∙ length-append (file_of h.blocks) (file_of (b ∷ [])) ∙ ap (λ (k : ℕ). length (file_of h.blocks) + k) (ap length (append-nil (bytes_of b)) ∙ long)
    in
    record {
      blocks = all;
      written = h.written ++ tells.written;
      holds = holds_join limit came rest (drop (12 + n) rest) h.blocks (b ∷ []) h.holds (holds_one limit rest n begins);
      went = Appends-trans held now new h.written tells.written h.went tells.went;
      are = subst (λ (es : List Entry). AreTold output 1 es (h.written ++ tells.written)) (sym (entries_one h.blocks b))
          (told_join output 1 (entries h.blocks) (of_connection c b.records) h.written tells.written h.are
          (subst (λ (k : ℕ). AreTold output k (of_connection c b.records) tells.written) at told));
      counted = omega (arith, count, h.counted, tells.counted, ap length same);
      placed = omega (arith, file, h.placed);
    }

-- a beginning of that was written
pub begun_block : (output : Output) (limit : ℕ) (held now new : Option (List ℕ)) (number place n : ℕ) (rest came : List ℕ) → HasTold output limit held now number place rest came
    → BeginsBlock limit rest n → BeginsToTell output limit (number_of (take (12 + n) rest)) (drop 12 (take (12 + n) rest)) now new number → HasBegunToTell output limit held new came
begun_block output limit held now new number place n rest came h begins tells =
    let b : FileBlock = begins.block in
    let c : ℕ = number_of b.head in
    let facts = front_bytes limit rest n begins in
    let same : tells.records ++ tells.others ≡ b.records = only_records limit rest n begins (tells.records ++ tells.others) tells.holds in
    let text : List ℕ = tells.written ++ tells.missing in
    let told : AreTold output number (of_connection c tells.records) text = subst (λ (k : ℕ). AreTold output number (of_connection k tells.records) text) facts.1 tells.are in
    let at : number ≡ 1 + length (entries h.blocks) = omega (arith, h.counted) in
    record {
      blocks = h.blocks ++ b ∷ [];
      rest = drop (12 + n) rest;
      told = entries h.blocks ++ of_connection c tells.records;
      others = of_connection c tells.others;
      written = h.written ++ tells.written;
      missing = tells.missing;
      holds = holds_join limit came rest (drop (12 + n) rest) h.blocks (b ∷ []) h.holds (holds_one limit rest n begins);
      split = entries_one h.blocks b ∙ ap (λ (rs : List (List ℕ)). entries h.blocks ++ of_connection c rs) (sym same)
          ∙ ap (λ (es : List Entry). entries h.blocks ++ es) (of_join c tells.records tells.others)
          ∙ sym (append_assoc (entries h.blocks) (of_connection c tells.records) (of_connection c tells.others));
      went = Appends-trans held now new h.written tells.written h.went tells.went;
      are = subst (λ (y : List ℕ). AreTold output 1 (entries h.blocks ++ of_connection c tells.records) y) (sym (append_assoc h.written tells.written tells.missing))
          (told_join output 1 (entries h.blocks) (of_connection c tells.records) h.written text h.are
          (subst (λ (k : ℕ). AreTold output k (of_connection c tells.records) text) at told));
    }

-- what was written is a beginning of what is
pub told_begun : (output : Output) (limit : ℕ) (held now : Option (List ℕ)) (number place : ℕ) (rest came : List ℕ) → HasTold output limit held now number place rest came
    → HasBegunToTell output limit held now came
told_begun output limit held now number place rest came h = record {
  blocks = h.blocks;
  rest = rest;
  told = entries h.blocks;
  others = [];
  written = h.written;
  missing = [];
  holds = h.holds;
  split = sym (append-nil (entries h.blocks));
  went = h.went;
  are = subst (λ (y : List ℕ). AreTold output 1 (entries h.blocks) y) (sym (append-nil h.written)) h.are;
}

-- more bytes came
pub told_piece : (output : Output) (limit : ℕ) (held now : Option (List ℕ)) (number place : ℕ) (rest came piece : List ℕ) → HasTold output limit held now number place rest came
    → HasTold output limit held now number place (rest ++ piece) (came ++ piece)
told_piece output limit held now number place rest came piece h = record {
  blocks = h.blocks;
  written = h.written;
  holds = holds_piece limit came rest piece h.blocks h.holds;
  went = h.went;
  are = h.are;
  counted = h.counted;
  placed = h.placed;
}

-- the writer was flushed
pub told_kept : (output : Output) (limit : ℕ) (held now new : Option (List ℕ)) (number place : ℕ) (rest came : List ℕ) → HasTold output limit held now number place rest came
    → Keeps now new → HasTold output limit held new number place rest came
told_kept output limit held now new number place rest came h kept = record {
  blocks = h.blocks;
  written = h.written;
  holds = h.holds;
  went = Appends-kept held now new h.written h.went kept;
  are = h.are;
  counted = h.counted;
  placed = h.placed;
}

-- what was written is of the bytes that a reader gave
pub tells : (output : Output) (limit : ℕ) (left over held now : Option (List ℕ)) (number place : ℕ) (rest came : List ℕ) (Rest : List ℕ → Type 0) → Consumes left over came
    → HasTold output limit held now number place rest came → Rest rest → TellsBlocks output limit left over held now (number - 1) place Rest
tells output limit left over held now number place rest came Rest took h is =
    let same : number ≡ (number - 1) + 1 = omega (arith, h.counted) in
    (came, rest, took, subst (λ (k : ℕ). HasTold output limit held now k place rest came) same h, is)
