-- What was printed of a stream so far, and at its end.
use Rattle.std.proofs.Common.{◌≡◌, ℕ, Bool, true, false, not, ◌||◌, List, [], ◌∷◌, ◌++◌, take, Option, Some, None, Result, Ok, Err, OnErr, IfOk, IfSome, IsTrue, inl, inr, ◌⊎◌, refl, sym, ap, subst}
use Rattle.std.proofs.Common.{◌∙◌, append_assoc, append-nil}
use Rattle.std.proofs.KnownBytes.{Appends-nil, Appends-trans, Appends-kept, Consumes-nil}
use Rattle.std.proofs.lemmas.Bool.{false≢true}
use Rattle.std.proofs.lemmas.List.Folds.{list_any-append}
use Rattle.std.specs.Io.KnownBytes.{Appends, Keeps, Consumes, IsAtEnd}
use Rattle.std.specs.List.{list_any}
use Rattle.amqp_frame.specs.declared.units.Stage.TheVariants.{Header}
use Rattle.amqp_frame.proofs.Readings.{each_is_read}
use Rattle.amqp_dump.specs.declared.scan.Scanner.{Scanner}
use Rattle.amqp_dump.specs.declared.scan.TheConstants.{MAX_FRAME}
use Rattle.amqp_dump.specs.declared.scanned.Scanned.{Scanned}
use Rattle.amqp_dump.specs.Entries.{Entry, entry_of, is_fault, told_entries, unit_entries, until_fault, TellsOf, Tells, TellsFirst}
use Rattle.amqp_dump.specs.Pages.{Page, IsLineOf, PutsLine}
use Rattle.amqp_dump.specs.Steps.{HasTold, Goes, PutsNext}
use Rattle.amqp_dump.specs.Printing.{AreLines, Puts, Prints, HasPrinted, IsDump, BeginsDump, ShowsUnits, BreaksOff}
use Rattle.amqp_dump.proofs.Tellings.{told_first, told_units, piece_first}

-- at an error: nothing was written, or a part of what waited and of a line behind it
abbrev pub KeepsOrPrints : (entry : Entry) (held now : Option (List ℕ)) (waited : List ℕ) → Type 0
KeepsOrPrints entry held now waited = Keeps held now ⊎ ((missing : List ℕ) × Prints entry held now waited missing)

none_first : TellsFirst [] []
none_first more = let r = each_is_read MAX_FRAME Header more in (until_fault (unit_entries r.0 r.1), record { units = r.0; rest = r.1; reading = r.2; told = refl })

-- one line more
lines_more : (entries : List Entry) (bytes : List ℕ) (entry : Entry) (line : List ℕ) → AreLines entries bytes → IsLineOf entry line → AreLines (entries ++ entry ∷ []) (bytes ++ line)
lines_more [] bytes entry line none is = (line, [], is, refl, ap (λ (x : List ℕ). x ++ line) none ∙ sym (append-nil line))
lines_more (e ∷ es) bytes entry line h is =
    (h.0, h.1 ++ line, h.2, lines_more es h.1 entry line h.3 is, ap (λ (x : List ℕ). x ++ line) h.4 ∙ append_assoc h.0 h.1 line)

-- the lines with that of one entry more
lines_printed : (entries : List Entry) (written : List ℕ) (entry : Entry) (held now : Option (List ℕ)) (waited waits : List ℕ)
    → AreLines entries (written ++ waited) → (p : Prints entry held now waited waits) → AreLines (entries ++ entry ∷ []) ((written ++ p.put.written) ++ waits)
lines_printed entries written entry held now waited waits h p =
    subst (λ (x : List ℕ). AreLines (entries ++ entry ∷ []) x)
    (append_assoc written waited p.line ∙ ap (λ (x : List ℕ). written ++ x) (sym p.put.joined) ∙ sym (append_assoc written p.put.written waits))
    (lines_more entries (written ++ waited) entry p.line h p.is)

-- all that waited was written
pub all_printed : (held now new : Option (List ℕ)) (waiting : List ℕ) (s : Scanner) (bytes : List ℕ) → HasPrinted held now waiting s bytes → Appends now new waiting → HasPrinted held new [] s bytes
all_printed held now new waiting s bytes h w = record {
  entries = h.entries;
  written = h.written ++ waiting;
  told = h.told;
  went = Appends-trans held now new h.written waiting h.went w;
  lines = subst (λ (x : List ℕ). AreLines h.entries x) (sym (append-nil (h.written ++ waiting))) h.lines;
}

-- a line was put behind those that wait, of which some or all were written then
pub put_prints : (entry : Entry) (held now : Option (List ℕ)) (waited waits : Page) (left : List ℕ) → PutsLine entry waited waits → Puts [] held now waits.whole left → Prints entry held now waited.whole left
put_prints entry held now waited waits left p w = record {
  line = p.line;
  is = p.is;
  put = record { written = w.written; went = w.went; joined = w.joined ∙ append-nil waits.whole ∙ p.joined };
}

-- some of them were written
pub unput_prints : (entry : Entry) (held now : Option (List ℕ)) (waited waits : Page) (written missing : List ℕ) → PutsLine entry waited waits → Appends held now written
    → waits.whole ≡ written ++ missing → Prints entry held now waited.whole missing
unput_prints entry held now waited waits written missing p went parts =
    put_prints entry held now waited waits missing p (record { written = written; went = went; joined = sym parts ∙ sym (append-nil waits.whole) })

-- all of them were written
pub put_all : (held now : Option (List ℕ)) (waits left : List ℕ) → Appends held now waits → left ≡ [] → Puts [] held now waits left
put_all held now waits left went none = record { written = waits; went = went; joined = ap (λ (x : List ℕ). waits ++ x) none }

-- where nothing is told
pub puts_none : (old : Scanner) (piece : List ℕ) (at end : ℕ) (s : Scanner) (waited waits : Page) (told : Option Bool) → PutsNext old piece at end s waited waits told
    → ((x : Bool) → told ≡ Some x → ⊥) → Goes old piece at end s None × (waits ≡ waited)
puts_none old piece at end s waited waits None h none = h
puts_none old piece at end s waited waits (Some x) h none = absurd (none x refl)

-- the piece was taken
pub printed_piece : (held now : Option (List ℕ)) (waiting : List ℕ) (old : Scanner) (piece : List ℕ) (at end : ℕ) (s : Scanner) (before : List ℕ)
    → HasPrinted held now waiting old (before ++ take at piece) → Goes old piece at end s None → HasPrinted held now waiting s (before ++ piece)
printed_piece held now waiting old piece at end s before h goes = record { entries = h.entries; written = h.written; told = goes before h.entries h.told; went = h.went; lines = h.lines }

-- a unit that is no fault was printed
pub printed_more : (held now new : Option (List ℕ)) (waited waits : List ℕ) (old : Scanner) (piece : List ℕ) (at end : ℕ) (s : Scanner) (entry : Entry) (before : List ℕ)
    → HasPrinted held now waited old (before ++ take at piece) → Goes old piece at end s (Some entry) → is_fault entry ≡ false → Prints entry now new waited waits
    → HasPrinted held new waits s (before ++ take end piece)
printed_more held now new waited waits old piece at end s entry before h goes clean p = record {
  entries = h.entries ++ entry ∷ [];
  written = h.written ++ p.put.written;
  told = (goes before h.entries h.told).0 clean;
  went = Appends-trans held now new h.written p.put.written h.went p.put.went;
  lines = lines_printed h.entries h.written entry now new waited waits h.lines p;
}

any_fault : (entries : List Entry) (entry : Entry) → list_any is_fault entries ≡ false → is_fault entry ≡ true → false ≡ not (list_any is_fault (entries ++ entry ∷ []))
any_fault entries entry h fault =
    sym (ap not (list_any-append is_fault entries (entry ∷ []) ∙ ap (λ (b : Bool). b || (is_fault entry || false)) h ∙ ap (λ (b : Bool). b || false) fault))

-- a fault was printed, which ends the dump
fault_dump : (held now new : Option (List ℕ)) (waited : List ℕ) (old : Scanner) (bytes all : List ℕ) (entry : Entry) (whole : Bool) (h : HasPrinted held now waited old bytes)
    → ((more : List ℕ) → (IsTrue whole → more ≡ []) → TellsOf (all ++ more) (h.entries ++ entry ∷ [])) → is_fault entry ≡ true → Prints entry now new waited []
    → IsDump held new all whole false
fault_dump held now new waited old bytes all entry whole h tells fault p = record {
  entries = h.entries ++ entry ∷ [];
  written = h.written ++ p.put.written;
  told = tells;
  went = Appends-trans held now new h.written p.put.written h.went p.put.went;
  lines = subst (λ (x : List ℕ). AreLines (h.entries ++ entry ∷ []) x) (append-nil (h.written ++ p.put.written)) (lines_printed h.entries h.written entry now new waited [] h.lines p);
  answer = any_fault h.entries entry h.told.clean fault;
}

-- a fault is the last line that is printed
pub printed_fault : (held now new : Option (List ℕ)) (waited waits : List ℕ) (old : Scanner) (piece : List ℕ) (at end : ℕ) (s : Scanner) (entry : Entry) (before : List ℕ)
    → HasPrinted held now waited old (before ++ take at piece) → Goes old piece at end s (Some entry) → is_fault entry ≡ true → Prints entry now new waited waits → waits ≡ []
    → IsDump held new (before ++ piece) false false
printed_fault held now new waited waits old piece at end s entry before h goes fault p none =
    let tells = (goes before h.entries h.told).1 fault in
    fault_dump held now new waited old (before ++ take at piece) (before ++ piece) entry false h (λ more _. tells more) fault
    (subst (λ (x : List ℕ). Prints entry now new waited x) none p)

-- nothing more was printed
pub began : (held now new : Option (List ℕ)) (waiting : List ℕ) (s : Scanner) (before piece : List ℕ) (at : ℕ)
    → HasPrinted held now waiting s (before ++ take at piece) → Keeps now new → BeginsDump held new (before ++ piece) false
began held now new waiting s before piece at h k = record {
  entries = h.entries;
  written = h.written;
  missing = waiting;
  told = λ more _. piece_first before piece at h.entries (told_first s (before ++ take at piece) h.entries h.told) more;
  went = Appends-kept held now new h.written h.went k;
  lines = h.lines;
}

-- some of what waited was written
pub began_part : (held now new : Option (List ℕ)) (waiting : List ℕ) (s : Scanner) (bytes : List ℕ) → HasPrinted held now waiting s bytes
    → (written missing : List ℕ) × Appends now new written × (waiting ≡ written ++ missing) → BeginsDump held new bytes false
began_part held now new waiting s bytes h w = record {
  entries = h.entries;
  written = h.written ++ w.0;
  missing = w.1;
  told = λ more _. told_first s bytes h.entries h.told more;
  went = Appends-trans held now new h.written w.0 h.went w.2;
  lines = subst (λ (x : List ℕ). AreLines h.entries x) (ap (λ (x : List ℕ). h.written ++ x) w.3 ∙ sym (append_assoc h.written w.0 w.1)) h.lines;
}

first_at : (b : Bool) (bytes : List ℕ) (entries : List Entry) (entry : Entry) → is_fault entry ≡ b
    → (is_fault entry ≡ false → TellsFirst bytes (entries ++ entry ∷ [])) → (is_fault entry ≡ true → Tells bytes (entries ++ entry ∷ []))
    → TellsFirst bytes (entries ++ entry ∷ [])
first_at true bytes entries entry e on last = λ more. ([], subst (λ (x : List Entry). TellsOf (bytes ++ more) x) (sym (append-nil (entries ++ entry ∷ []))) (last e more))
first_at false bytes entries entry e on last = on e

began_line : (held now new : Option (List ℕ)) (waited missing : List ℕ) (old : Scanner) (bytes all : List ℕ) (entry : Entry) (whole : Bool) (h : HasPrinted held now waited old bytes)
    → ((more : List ℕ) → (IsTrue whole → more ≡ []) → (others : List Entry) × TellsOf (all ++ more) ((h.entries ++ entry ∷ []) ++ others))
    → Prints entry now new waited missing → BeginsDump held new all whole
began_line held now new waited missing old bytes all entry whole h tells p = record {
  entries = h.entries ++ entry ∷ [];
  written = h.written ++ p.put.written;
  missing = missing;
  told = tells;
  went = Appends-trans held now new h.written p.put.written h.went p.put.went;
  lines = lines_printed h.entries h.written entry now new waited missing h.lines p;
}

-- a unit was told of, and its line may have been written in part
pub began_unit : (held now new : Option (List ℕ)) (waited : List ℕ) (old : Scanner) (piece : List ℕ) (at end : ℕ) (s : Scanner) (entry : Entry) (before : List ℕ)
    → HasPrinted held now waited old (before ++ take at piece) → Goes old piece at end s (Some entry) → KeepsOrPrints entry now new waited → BeginsDump held new (before ++ piece) false
began_unit held now new waited old piece at end s entry before h goes (inl k) = began held now new waited old before piece at h k
began_unit held now new waited old piece at end s entry before h goes (inr p) =
    let on = goes before h.entries h.told in
    let tells = first_at (is_fault entry) (before ++ piece) h.entries entry refl
    (λ clean. piece_first before piece end (h.entries ++ entry ∷ []) (told_first s (before ++ take end piece) (h.entries ++ entry ∷ []) (on.0 clean))) on.1 in
    began_line held now new waited p.0 old (before ++ take at piece) (before ++ piece) entry false h (λ more _. tells more) p.1

-- ---- the end of the stream

-- what is told of the end
abbrev pub Ends : (s : Scanner) (item : Option Scanned) → Type 0
Ends s item = (bytes : List ℕ) (entries : List Entry) → HasTold s bytes entries → TellsOf bytes (entries ++ told_entries item)

-- of these bytes alone
alone : (bytes : List ℕ) (entries : List Entry) → TellsOf bytes entries → (more : List ℕ) → (IsTrue true → more ≡ []) → TellsOf (bytes ++ more) entries
alone bytes entries t more none = subst (λ (x : List ℕ). TellsOf x entries) (sym (append-nil bytes) ∙ ap (λ (x : List ℕ). bytes ++ x) (sym (none refl))) t

-- at the end of the input all its units are printed
pub end_dump : (held now : Option (List ℕ)) (s : Scanner) (bytes : List ℕ) → HasPrinted held now [] s bytes → Ends s None → IsDump held now bytes true true
end_dump held now s bytes h ends = record {
  entries = h.entries;
  written = h.written;
  told = alone bytes h.entries (subst (λ (x : List Entry). TellsOf bytes x) (append-nil h.entries) (ends bytes h.entries h.told));
  went = h.went;
  lines = subst (λ (x : List ℕ). AreLines h.entries x) (append-nil h.written) h.lines;
  answer = sym (ap not h.told.clean);
}

-- so are they where the input ends with a fault
pub end_fault : (held now new : Option (List ℕ)) (waits : List ℕ) (s : Scanner) (item : Scanned) (bytes : List ℕ) → HasPrinted held now [] s bytes
    → Ends s (Some item) → is_fault (entry_of item) ≡ true → Prints (entry_of item) now new [] waits → waits ≡ [] → IsDump held new bytes true false
end_fault held now new waits s item bytes h ends fault p none =
    fault_dump held now new [] s bytes bytes (entry_of item) true h (alone bytes (h.entries ++ entry_of item ∷ []) (ends bytes h.entries h.told)) fault
    (subst (λ (x : List ℕ). Prints (entry_of item) now new [] x) none p)

-- the last line may have been written in part
pub end_began : (held now new : Option (List ℕ)) (s : Scanner) (item : Scanned) (bytes : List ℕ) → HasPrinted held now [] s bytes → Ends s (Some item)
    → KeepsOrPrints (entry_of item) now new [] → BeginsDump held new bytes true
end_began held now new s item bytes h ends (inl k) = record {
  entries = h.entries;
  written = h.written;
  missing = [];
  told = λ more _. told_first s bytes h.entries h.told more;
  went = Appends-kept held now new h.written h.went k;
  lines = h.lines;
}
end_began held now new s item bytes h ends (inr p) =
    began_line held now new [] p.0 s bytes bytes (entry_of item) true h
    (λ more none. (
      [],
      subst (λ (x : List Entry). TellsOf (bytes ++ more) x) (sym (append-nil (h.entries ++ entry_of item ∷ []))) (alone bytes (h.entries ++ entry_of item ∷ [])
          (ends bytes h.entries h.told) more none),
    )) p.1

-- what was begun whatever follows was begun where something follows or not
pub begun_weak : (held now : Option (List ℕ)) (bytes : List ℕ) (all : Bool) → BeginsDump held now bytes false → BeginsDump held now bytes all
begun_weak held now bytes all d = record {
  entries = d.entries;
  written = d.written;
  missing = d.missing;
  told = λ more _. d.told more (λ no. absurd (false≢true no));
  went = d.went;
  lines = d.lines;
}

-- nothing was read or written
pub none_begun : (left held : Option (List ℕ)) (all : Bool) → BreaksOff left left held held all
none_begun left held all = (
  [],
  Consumes-nil left,
  record {
    entries = [];
    written = [];
    missing = [];
    told = λ more _. none_first more;
    went = Appends-nil held;
    lines = refl;
  },
)

-- what follows from an answer
pub map_ok : {A E : Type 0} (r : Result A E) (P Q : A → Type 0) → ((a : A) → P a → Q a) → IfOk r P → IfOk r Q
map_ok (Ok a) P Q f h = f a h
map_ok (Err e) P Q f h = tt

-- what follows from an error
pub map_err : {A E : Type 0} (r : Result A E) (P Q : Type 0) → (P → Q) → OnErr r P → OnErr r Q
map_err (Ok a) P Q f h = tt
map_err (Err e) P Q f h = f h

-- more bytes came, and nothing was printed of them
pub begun_on : (held now : Option (List ℕ)) (s : Scanner) (bytes more : List ℕ) → HasPrinted held now [] s bytes → BeginsDump held now (bytes ++ more) false
begun_on held now s bytes more h = record {
  entries = h.entries;
  written = h.written;
  missing = [];
  told = λ others _. subst (λ (x : List ℕ). (ends : List Entry) × TellsOf x (h.entries ++ ends)) (sym (append_assoc bytes more others)) (told_first s bytes h.entries h.told (more ++ others));
  went = h.went;
  lines = h.lines;
}

-- a dump of some bytes is that of a stream that begins with them
pub dump_of : (held now : Option (List ℕ)) (bytes more : List ℕ) (ended clean : Bool) → IsDump held now bytes ended clean → (IsTrue ended → more ≡ []) → IsDump held now (bytes ++ more) true clean
dump_of held now bytes more ended clean d none = record {
  entries = d.entries;
  written = d.written;
  told = alone (bytes ++ more) d.entries (d.told more none);
  went = d.went;
  lines = d.lines;
  answer = d.answer;
}

-- a dump of the bytes that a reader gave is that of all that it had
pub whole_dump : (left rest held now : Option (List ℕ)) (bytes : List ℕ) (all clean : Bool) → Consumes left rest bytes
    → IsDump held now bytes all clean → (IsTrue all → IsAtEnd rest) → IfSome left (λ stream. IsDump held now stream true clean)
whole_dump None rest held now bytes all clean came d end = tt
whole_dump (Some x) None held now bytes all clean came d end = absurd came
whole_dump (Some x) (Some y) held now bytes all clean came d end = subst (λ (s : List ℕ). IsDump held now s true clean) (sym came) (dump_of held now bytes y all clean d end)

-- a dump whatever follows is one where something follows or not
pub dump_weak : (held now : Option (List ℕ)) (bytes : List ℕ) (ended clean : Bool) → IsDump held now bytes false clean → IsDump held now bytes ended clean
dump_weak held now bytes ended clean d = record {
  entries = d.entries;
  written = d.written;
  told = λ more _. d.told more (λ no. absurd (false≢true no));
  went = d.went;
  lines = d.lines;
  answer = d.answer;
}

-- nothing was printed yet
pub none_printed : (held : Option (List ℕ)) (s : Scanner) → HasTold s [] [] → HasPrinted held held [] s []
none_printed held s t = record { entries = []; written = []; told = t; went = Appends-nil held; lines = refl }

-- before each read the lines of all units are written
pub shows : (held now : Option (List ℕ)) (s : Scanner) (bytes : List ℕ) → HasPrinted held now [] s bytes → ShowsUnits held now bytes
shows held now s bytes h = record {
  units = h.told.units;
  rest = s.splitter.filled;
  written = h.written;
  reading = told_units s bytes h.entries h.told;
  went = h.went;
  lines = subst (λ (x : List Entry). AreLines x h.written) h.told.told (subst (λ (x : List ℕ). AreLines h.entries x) (append-nil h.written) h.lines);
}
