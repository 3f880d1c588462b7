-- What was told of a stream so far, and what is told of it at its end.
use Rattle.std.proofs.Common.{◌≡◌, ℕ, zero-add, add-zero, ◌+◌, ◌-◌, ◌<◌, ◌≤◌, inl, inr, Bool, true, false, cond, ◌==◌, ◌||◌, List, [], ◌∷◌, ◌++◌, length, take, drop, Option, Some, None, refl, sym, ap, subst, ◌∙◌}
use Rattle.std.proofs.Common.{arith, rules}
use Rattle.std.proofs.Math.Seq.{take-length, take-add}
use Rattle.std.proofs.lemmas.Bool.{false≢true, cases_lt}
use Rattle.std.proofs.lemmas.List.{take_rest, length-append, length-drop, take-append-drop, append_assoc, append-nil}
use Rattle.std.proofs.lemmas.List.Folds.{list_any-append}
use Rattle.std.proofs.lemmas.Grind.{flat_map-append}
use Rattle.std.specs.List.{flat_map, list_any}
use Rattle.std.specs.Str.{bytes_eq}
use Rattle.amqp_frame.specs.declared.units.Stage.{Stage}
use Rattle.amqp_frame.specs.declared.units.Stage.TheVariants.{Header, Frames, Refused, Faulty}
use Rattle.amqp_frame.specs.declared.units.TheConstants.{HEADER}
use Rattle.amqp_frame.specs.Units.{StreamUnit, HeaderUnit, FrameUnit, FaultUnit, bytes_of, IsUnit, IsRest, AreUnits, IsReading, Units, due_after, due_behind}
use Rattle.amqp_frame.specs.Splits.{SplitterState, Waits, IsOne, IsHeld, IsOver, IsEmptied, TakesNothing, WentBy}
use Rattle.amqp_frame.proofs.Readings.{each_is_read, unit_length}
use Rattle.amqp_dump.specs.declared.scan.TheConstants.{MAX_FRAME}
use Rattle.amqp_dump.specs.declared.scan.Scanner.{Scanner}
use Rattle.amqp_dump.specs.declared.scanned.Scanned.{Scanned}
use Rattle.amqp_dump.specs.declared.scanned.StreamFault.TheVariants as stream
use Rattle.amqp_dump.specs.Entries.{Entry, HeaderEntry, FaultEntry, entry_of, is_fault, unit_entry, unit_entries, whole_entries, rest_entries, until_fault, TellsOf, Tells, TellsFirst}
use Rattle.amqp_dump.specs.Steps.{TellsWaiting, IsWaiting, IsReady, HasTold, GoesOn, taken_by}

-- less than a unit is held where no unit waits
held_rest : (max : ℕ) (stage : Stage) (bytes : List ℕ) → (IsOver stage → ⊥) → IsHeld max stage bytes → (IsOne max stage bytes → ⊥) → IsRest max stage bytes
held_rest max Header bytes due (inl r) none = r
held_rest max Header bytes due (inr o) none = absurd (none o)
held_rest max Frames bytes due (inl r) none = r
held_rest max Frames bytes due (inr o) none = absurd (none o)
held_rest max Refused bytes due h none = absurd (due tt)
held_rest max (Faulty f) bytes due h none = absurd (due tt)

-- no unit is empty
none_of_empty : (s : SplitterState) → s.filled ≡ [] → (u : StreamUnit) → Waits s u → ⊥
none_of_empty s e u w = let l = unit_length s.limit s.stage u w.is in let n = ap length (sym e ∙ w.whole) in absurd (omega arith)

-- ---- entries of joined lists

-- the entries of units joined, each at its place
pub whole-append : (place : ℕ) (us vs : List StreamUnit) → whole_entries place (us ++ vs) ≡ whole_entries place us ++ whole_entries (place + length (flat_map bytes_of us)) vs
whole-append place [] vs = ap (λ (n : ℕ). whole_entries n vs) (omega arith)
whole-append place (u ∷ us) vs =
    let l = length-append (bytes_of u) (flat_map bytes_of us) in
    ap (λ (w : List Entry). unit_entry place u ∷ w) (whole-append (place + length (bytes_of u)) us vs
    ∙ ap (λ (n : ℕ). whole_entries (place + length (bytes_of u)) us ++ whole_entries n vs) (omega arith))

until_clean_at : (b : Bool) (entry : Entry) (entries others : List Entry) → is_fault entry ≡ b → list_any is_fault (entry ∷ entries) ≡ false
    → (list_any is_fault entries ≡ false → until_fault (entries ++ others) ≡ entries ++ until_fault others) → until_fault ((entry ∷ entries) ++ others) ≡ (entry ∷ entries) ++ until_fault others
until_clean_at true entry entries others e h more = let no : true ≡ false = ap (λ (b : Bool). b || list_any is_fault entries) (sym e) ∙ h in absurd (false≢true (sym no))
until_clean_at false entry entries others e h more =
    rw e (ap (λ (w : List Entry). entry ∷ w) (more (ap (λ (b : Bool). b || list_any is_fault entries) (sym e) ∙ h)))

-- the same from the first byte on
pub whole-joined : (us vs : List StreamUnit) → whole_entries 0 (us ++ vs) ≡ whole_entries 0 us ++ whole_entries (length (flat_map bytes_of us)) vs
whole-joined us vs = whole-append 0 us vs ∙ ap (λ (n : ℕ). whole_entries 0 us ++ whole_entries n vs) (zero-add (length (flat_map bytes_of us)))

-- what stands in front of the first fault stays
pub until-clean : (entries others : List Entry) → list_any is_fault entries ≡ false → until_fault (entries ++ others) ≡ entries ++ until_fault others
until-clean [] others h = refl
until-clean (entry ∷ entries) others h = until_clean_at (is_fault entry) entry entries others refl h (until-clean entries others)

until-fault : (entry : Entry) (entries : List Entry) → is_fault entry ≡ true → until_fault (entry ∷ entries) ≡ entry ∷ []
until-fault entry entries h = rw h refl

-- ---- readings

due_append : (stage : Stage) (us vs : List StreamUnit) → due_behind stage (us ++ vs) ≡ due_behind (due_behind stage us) vs
due_append stage [] vs = refl
due_append stage (u ∷ us) vs = due_append (due_after u) us vs

are_append : (max : ℕ) (stage : Stage) (us vs : List StreamUnit) → AreUnits max stage us → AreUnits max (due_behind stage us) vs → AreUnits max stage (us ++ vs)
are_append max stage [] vs a b = b
are_append max stage (u ∷ us) vs a b = (a.0, are_append max (due_after u) us vs a.1 b)

-- a reading of what is held and of what follows goes on that of what went by
reads_on : (s : SplitterState) (us : List StreamUnit) (bytes more : List ℕ) (vs : List StreamUnit) (rest : List ℕ) → WentBy s us bytes
    → IsReading s.limit s.stage (s.filled ++ more) vs rest → Units s.limit (bytes ++ more) (us ++ vs) rest
reads_on s us bytes more vs rest w r = record {
  joined =
      ap (λ (x : List ℕ). x ++ more) w.joined ∙ append_assoc (flat_map bytes_of us) s.filled more
      ∙ ap (λ (x : List ℕ). flat_map bytes_of us ++ x) r.joined ∙ sym (append_assoc (flat_map bytes_of us) (flat_map bytes_of vs) rest)
      ∙ ap (λ (x : List ℕ). x ++ rest) (sym (flat_map-append bytes_of us vs));
  each = are_append s.limit Header us vs w.each (subst (λ (stage : Stage). AreUnits s.limit stage vs) w.due r.each);
  behind = subst (λ (stage : Stage). IsRest s.limit stage rest) (ap (λ (stage : Stage). due_behind stage vs) w.due ∙ sym (due_append Header us vs)) r.behind;
}

-- ---- what is told

-- what is told of these units and of the rest behind them, from a place on
abbrev entries_from : ℕ → List StreamUnit → List ℕ → List Entry
entries_from place vs rest = whole_entries place vs ++ rest_entries (place + length (flat_map bytes_of vs)) rest

-- such bytes came, and all is told that went by
pub record Went (s : SplitterState) (place : ℕ) (bytes : List ℕ) (entries : List Entry) : Type 0 where
  pub units : List StreamUnit
  pub went : WentBy s units bytes
  pub limit : s.limit ≡ MAX_FRAME
  pub behind : place ≡ length (flat_map bytes_of units)
  pub told : entries ≡ whole_entries 0 units
  pub clean : list_any is_fault entries ≡ false

tells_on : (s : SplitterState) (place : ℕ) (bytes : List ℕ) (entries : List Entry) (more : List ℕ) (vs : List StreamUnit) (rest : List ℕ)
    → Went s place bytes entries → IsReading MAX_FRAME s.stage (s.filled ++ more) vs rest
    → TellsOf (bytes ++ more) (entries ++ until_fault (entries_from place vs rest))
tells_on s place bytes entries more vs rest w r =
    let reading = reads_on s w.units bytes more vs rest w.went (subst (λ (n : ℕ). IsReading n s.stage (s.filled ++ more) vs rest) (sym w.limit) r) in
    let l = ap length (flat_map-append bytes_of w.units vs) ∙ length-append (flat_map bytes_of w.units) (flat_map bytes_of vs) in
    let e = w.behind in
    let whole : whole_entries 0 (w.units ++ vs) ≡ entries ++ whole_entries place vs =
    whole-joined w.units vs ∙ ap (λ (x : List Entry). x ++ whole_entries (length (flat_map bytes_of w.units)) vs) (sym w.told)
    ∙ ap (λ (n : ℕ). entries ++ whole_entries n vs) (sym w.behind) in
    let all : unit_entries (w.units ++ vs) rest ≡ entries ++ entries_from place vs rest =
    ap (λ (x : List Entry). x ++ rest_entries (length (flat_map bytes_of (w.units ++ vs))) rest) whole
    ∙ ap (λ (n : ℕ). (entries ++ whole_entries place vs) ++ rest_entries n rest) (omega arith)
    ∙ append_assoc entries (whole_entries place vs) (rest_entries (place + length (flat_map bytes_of vs)) rest) in
    record {
      units = w.units ++ vs;
      rest = rest;
      reading = subst (λ (n : ℕ). Units n (bytes ++ more) (w.units ++ vs) rest) w.limit reading;
      told = sym (ap until_fault all ∙ until-clean entries (entries_from place vs rest) w.clean);
    }

-- a scanner told of all that went by its splitter
pub went_by : (s : Scanner) (bytes : List ℕ) (entries : List Entry) → HasTold s bytes entries → Went s.splitter s.place bytes entries
went_by s bytes entries t = record { units = t.units; went = t.went; limit = t.ready.limit; behind = t.place; told = t.told; clean = t.clean }

-- whatever follows, this was told first
went_first : (s : SplitterState) (place : ℕ) (bytes : List ℕ) (entries : List Entry) → Went s place bytes entries → TellsFirst bytes entries
went_first s place bytes entries w more =
    let r = each_is_read MAX_FRAME s.stage (s.filled ++ more) in
    (until_fault (entries_from place r.0 r.1), tells_on s place bytes entries more r.0 r.1 w r.2)

-- what a scanner told begins what the bytes tell
pub told_first : (s : Scanner) (bytes : List ℕ) (entries : List Entry) → HasTold s bytes entries → TellsFirst bytes entries
told_first s bytes entries t = went_first s.splitter s.place bytes entries (went_by s bytes entries t)

-- a new scanner has told nothing
pub none_told : (s : Scanner) → s.splitter.limit ≡ MAX_FRAME → s.splitter.stage ≡ Header → s.splitter.filled ≡ [] → s.place ≡ 0
    → IsHeld s.splitter.limit s.splitter.stage s.splitter.filled → WentBy s.splitter [] [] → HasTold s [] []
none_told s limit stage filled p held w =
    record {
      units = [];
      went = w;
      ready = record {
        limit = limit;
        held = held;
        due = λ over. subst IsOver stage over;
        none = λ u waits. none_of_empty s.splitter filled u waits;
      };
      place = p;
      told = refl;
      clean = refl;
    }

-- ---- the unit that waits

-- a splitter goes on by a piece
pub record Pushed (old now : SplitterState) (more : List ℕ) : Type 0 where
  pub limit : now.limit ≡ old.limit
  pub stage : now.stage ≡ old.stage
  pub filled : now.filled ≡ old.filled ++ more
  pub history : (us : List StreamUnit) (bytes : List ℕ) → WentBy old us bytes → WentBy now us (bytes ++ more)

-- bytes that were taken are added to those that went by
pub pushed : (old now : SplitterState) (place : ℕ) (bytes more : List ℕ) (entries : List Entry) → Went old place bytes entries → Pushed old now more → Went now place (bytes ++ more) entries
pushed old now place bytes more entries w p = record {
  units = w.units;
  went = p.history w.units bytes w.went;
  limit = p.limit ∙ w.limit;
  behind = w.behind;
  told = w.told;
  clean = w.clean;
}

-- the unit that waits is a fault
pub tells_fault : (s : SplitterState) (place : ℕ) (bytes : List ℕ) (entries : List Entry) (item : Scanned) → Went s place bytes entries
    → TellsWaiting place s item → is_fault (entry_of item) ≡ true → Tells bytes (entries ++ entry_of item ∷ [])
tells_fault s place bytes entries item w t fault more =
    let r = each_is_read MAX_FRAME (due_after t.unit) more in
    let reading : IsReading MAX_FRAME s.stage (s.filled ++ more) (t.unit ∷ r.0) r.1 = record {
      joined = ap (λ (x : List ℕ). x ++ more) t.waits.whole ∙ ap (λ (x : List ℕ). bytes_of t.unit ++ x) r.2.joined ∙ sym (append_assoc (bytes_of t.unit) (flat_map bytes_of r.0) r.1);
      each = (subst (λ (n : ℕ). IsUnit n s.stage t.unit) w.limit t.waits.is, r.2.each);
      behind = r.2.behind;
    } in
    let others : List Entry = whole_entries (place + length (bytes_of t.unit)) r.0 ++ rest_entries (place + length (flat_map bytes_of (t.unit ∷ r.0))) r.1 in
    let unit_fault : is_fault (unit_entry place t.unit) ≡ true = subst (λ (e : Entry). is_fault e ≡ true) t.told fault in
    subst (λ (x : List Entry). TellsOf (bytes ++ more) (entries ++ x)) (until-fault (unit_entry place t.unit) others unit_fault ∙ ap (λ (e : Entry). e ∷ []) (sym t.told))
    (tells_on s place bytes entries more (t.unit ∷ r.0) r.1 w reading)

-- nothing is due behind a refused header
header_due : (b : Bool) (place : ℕ) (bytes : List ℕ) → is_fault (cond b HeaderEntry (FaultEntry place stream.Header)) ≡ false → IsOver (cond b Frames Refused) → ⊥
header_due true place bytes h over = over
header_due false place bytes h over = false≢true (sym h)

-- behind a unit that is no fault a frame is due
due_clean : (place : ℕ) (u : StreamUnit) → is_fault (unit_entry place u) ≡ false → IsOver (due_after u) → ⊥
due_clean place (HeaderUnit bytes) h over = header_due (bytes_eq bytes HEADER) place bytes h over
due_clean place (FrameUnit bytes) h over = over
due_clean place (FaultUnit fault bytes) h over = false≢true (sym h)

-- the unit that waited is gone
pub record Dropped (now new : SplitterState) : Type 0 where
  pub goes : (u : StreamUnit) → Waits now u → IsEmptied now new (due_after u)
  pub held : IsHeld new.limit new.stage new.filled
  pub history : (us : List StreamUnit) (bytes : List ℕ) (u : StreamUnit) → WentBy now us bytes → Waits now u → WentBy new (us ++ u ∷ []) bytes

-- a scanner that told of a unit without a fault goes on
pub ready_behind : (now : SplitterState) (s : Scanner) (item : Scanned) (place : ℕ) → now.limit ≡ MAX_FRAME → TellsWaiting place now item
    → Dropped now s.splitter → is_fault (entry_of item) ≡ false → IsReady s
ready_behind now s item place limit t d clean =
    let e = d.goes t.unit t.waits in
    let due = due_clean place t.unit (subst (λ (x : Entry). is_fault x ≡ false) t.told clean) in
    record {
      limit = e.limit ∙ limit;
      held = d.held;
      due = λ over. due (subst IsOver e.stage over);
      none = λ u waits. none_of_empty s.splitter e.filled u waits;
    }

any_last : (entries : List Entry) (entry : Entry) → list_any is_fault entries ≡ false → is_fault entry ≡ false → list_any is_fault (entries ++ entry ∷ []) ≡ false
any_last entries entry h clean = list_any-append is_fault entries (entry ∷ []) ∙ ap (λ (b : Bool). b || (is_fault entry || false)) h ∙ ap (λ (b : Bool). b || false) clean

-- a unit more was told, and it is no fault
pub told_more : (now : SplitterState) (place : ℕ) (bytes : List ℕ) (entries : List Entry) (s : Scanner) (item : Scanned)
    → Went now place bytes entries → TellsWaiting place now item → Dropped now s.splitter → s.place ≡ place + length now.filled
    → is_fault (entry_of item) ≡ false
    → HasTold s bytes (entries ++ entry_of item ∷ [])
told_more now place bytes entries s item w t d p clean =
    let l = ap length (flat_map-append bytes_of w.units (t.unit ∷ []) ∙ ap (λ (x : List ℕ). flat_map bytes_of w.units ++ x) (append-nil (bytes_of t.unit)))
    ∙ length-append (flat_map bytes_of w.units) (bytes_of t.unit) in
    let n = ap length t.waits.whole in
    let e = w.behind in
    record {
      units = w.units ++ t.unit ∷ [];
      went = d.history w.units bytes t.unit w.went t.waits;
      ready = ready_behind now s item place w.limit t d clean;
      place = omega arith;
      told = sym (whole-joined w.units (t.unit ∷ []) ∙ ap (λ (x : List Entry). x ++ unit_entry (length (flat_map bytes_of w.units)) t.unit ∷ []) (sym w.told)
          ∙ ap (λ (k : ℕ). entries ++ unit_entry k t.unit ∷ []) (sym w.behind) ∙ ap (λ (x : Entry). entries ++ x ∷ []) (sym t.told));
      clean = any_last entries (entry_of item) w.clean clean;
    }

-- ---- where no unit waits

-- nothing that a ready scanner holds begins with a unit
held_is_rest : (s : Scanner) → IsReady s → IsRest MAX_FRAME s.splitter.stage s.splitter.filled
held_is_rest s ready =
    subst (λ (n : ℕ). IsRest n s.splitter.stage s.splitter.filled) ready.limit
    (held_rest s.splitter.limit s.splitter.stage s.splitter.filled ready.due ready.held (λ one. ready.none one.unit one.stands))

-- the stream ends
pub told_end : (s : Scanner) (bytes : List ℕ) (entries : List Entry) → HasTold s bytes entries → TellsOf bytes (entries ++ until_fault (rest_entries s.place s.splitter.filled))
told_end s bytes entries t =
    let reading : IsReading MAX_FRAME s.splitter.stage (s.splitter.filled ++ []) [] s.splitter.filled =
    record { joined = append-nil s.splitter.filled; each = tt; behind = held_is_rest s t.ready } in
    let told = tells_on s.splitter s.place bytes entries [] [] s.splitter.filled (went_by s bytes entries t) reading in
    subst (λ (x : List ℕ). TellsOf x (entries ++ until_fault (rest_entries s.place s.splitter.filled))) (append-nil bytes)
    (subst (λ (n : ℕ). TellsOf (bytes ++ []) (entries ++ until_fault (rest_entries n s.splitter.filled))) (add-zero s.place) told)

-- the units of the bytes that came
pub told_units : (s : Scanner) (bytes : List ℕ) (entries : List Entry) (t : HasTold s bytes entries) → Units MAX_FRAME bytes t.units s.splitter.filled
told_units s bytes entries t = record {
  joined = t.went.joined;
  each = subst (λ (n : ℕ). AreUnits n Header t.units) t.ready.limit t.went.each;
  behind = subst (λ (stage : Stage). IsRest MAX_FRAME stage s.splitter.filled) t.went.due (held_is_rest s t.ready);
}

-- as many bytes came as the scanner took
pub told_length : (s : Scanner) (bytes : List ℕ) (entries : List Entry) → HasTold s bytes entries → length bytes ≡ taken_by s
told_length s bytes entries t = ap length t.went.joined ∙ length-append (flat_map bytes_of t.units) s.splitter.filled ∙ ap (λ (n : ℕ). n + length s.splitter.filled) (sym t.place)

-- ---- a piece

-- bytes of a piece that are told of are told of with the whole piece
piece_is : (before piece more : List ℕ) (end : ℕ) → (before ++ take end piece) ++ (drop end piece ++ more) ≡ (before ++ piece) ++ more
piece_is before piece more end =
    sym (append_assoc (before ++ take end piece) (drop end piece) more)
    ∙ ap (λ (x : List ℕ). x ++ more) (append_assoc before (take end piece) (drop end piece) ∙ ap (λ (x : List ℕ). before ++ x) (take-append-drop end piece))

-- bytes behind a fault tell nothing more
pub piece_tells : (before piece : List ℕ) (end : ℕ) (entries : List Entry) → Tells (before ++ take end piece) entries → Tells (before ++ piece) entries
piece_tells before piece end entries h more = subst (λ (x : List ℕ). TellsOf x entries) (piece_is before piece more end) (h (drop end piece ++ more))

-- the same of what was told so far
pub piece_first : (before piece : List ℕ) (end : ℕ) (entries : List Entry) → TellsFirst (before ++ take end piece) entries → TellsFirst (before ++ piece) entries
piece_first before piece end entries h more =
    let t = h (drop end piece ++ more) in
    (t.0, subst (λ (x : List ℕ). TellsOf x (entries ++ t.0)) (piece_is before piece more end) t.1)

-- so much of the piece was taken
piece_taken : (before piece : List ℕ) (at n : ℕ) → (before ++ take at piece) ++ take n (take (length piece - at) (drop at piece)) ≡ before ++ take (at + n) piece
piece_taken before piece at n =
    append_assoc before (take at piece) (take n (take (length piece - at) (drop at piece)))
    ∙ ap (λ (x : List ℕ). before ++ (take at piece ++ take n x)) (take_rest piece at) ∙ ap (λ (x : List ℕ). before ++ x) (sym (take-add at n piece))

went_piece : (old : Scanner) (now : SplitterState) (before piece : List ℕ) (at n : ℕ) (entries : List Entry)
    → HasTold old (before ++ take at piece) entries → Pushed old.splitter now (take n (take (length piece - at) (drop at piece)))
    → Went now old.place (before ++ take (at + n) piece) entries
went_piece old now before piece at n entries t p =
    subst (λ (x : List ℕ). Went now old.place x entries) (piece_taken before piece at n)
    (pushed old.splitter now old.place (before ++ take at piece) (take n (take (length piece - at) (drop at piece))) entries (went_by old (before ++ take at piece) entries t) p)

-- a unit of the piece waited
pub goes_unit : (old : Scanner) (now : SplitterState) (s : Scanner) (piece : List ℕ) (at n : ℕ) (item : Scanned)
    → Pushed old.splitter now (take n (take (length piece - at) (drop at piece))) → TellsWaiting old.place now item → Dropped now s.splitter
    → s.place ≡ old.place + length now.filled
    → (before : List ℕ) (entries : List Entry) → HasTold old (before ++ take at piece) entries → GoesOn piece (at + n) s before entries (Some (entry_of item))
goes_unit old now s piece at n item p w d e before entries t =
    let went = went_piece old now before piece at n entries t p in (
      λ clean. told_more now old.place (before ++ take (at + n) piece) entries s item went w d e clean,
      λ fault. piece_tells before piece (at + n) (entries ++ entry_of item ∷ []) (tells_fault now old.place (before ++ take (at + n) piece) entries item went w fault),
    )

-- where nothing is told no unit waits
pub none_waits : (place : ℕ) (s : SplitterState) (item : Option Scanned) → IsWaiting place s item → ((x : Scanned) → item ≡ Some x → ⊥) → (u : StreamUnit) → Waits s u → ⊥
none_waits place s None h none = h
none_waits place s (Some x) h none = absurd (none x refl)

-- no unit waits, and the piece is taken
pub goes_none : (old s : Scanner) (piece : List ℕ) (at n : ℕ) → s.place ≡ old.place → IsReady s → at ≤ length piece
    → n ≤ length (take (length piece - at) (drop at piece)) → (n < length (take (length piece - at) (drop at piece)) → TakesNothing s.splitter)
    → Pushed old.splitter s.splitter (take n (take (length piece - at) (drop at piece)))
    → (before : List ℕ) (entries : List Entry) → HasTold old (before ++ take at piece) entries → HasTold s (before ++ piece) entries
goes_none old s piece at n place ready within bound all p before entries t =
    let went = went_piece old s.splitter before piece at n entries t p in
    let l = ap length (take_rest piece at) ∙ length-drop at piece in
    let whole : at + n ≡ length piece = elim (cases_lt n (length (take (length piece - at) (drop at piece)))) [
      | inl below ↦ elim (all below) [ inl one ↦ absurd (ready.none one.unit one.stands) | inr over ↦ absurd (ready.due over) ]
      | inr above ↦ omega arith
    ] in
    record {
      units = went.units;
      went = subst (λ (x : List ℕ). WentBy s.splitter went.units (before ++ x)) (ap (λ (k : ℕ). take k piece) whole ∙ take-length piece) went.went;
      ready = ready;
      place = place ∙ went.behind;
      told = went.told;
      clean = went.clean;
    }

-- ---- the end

-- what is left at the end of the input is told last
pub end_tells : (s : Scanner) (others : List Entry) → until_fault (rest_entries s.place s.splitter.filled) ≡ others
    → (bytes : List ℕ) (entries : List Entry) → HasTold s bytes entries → TellsOf bytes (entries ++ others)
end_tells s others e bytes entries t = subst (λ (x : List Entry). TellsOf bytes (entries ++ x)) e (told_end s bytes entries t)

-- where the header is not whole that is the fault
pub rest_header : (place : ℕ) (rest : List ℕ) → place ≡ 0 → until_fault (rest_entries place rest) ≡ FaultEntry 0 stream.Header ∷ []
rest_header place rest h = rw h refl

is_no_header : (place : ℕ) → (place ≡ 0 → ⊥) → (place == 0) ≡ false
is_no_header place h = search (rules, h)

-- where nothing is left there is none
pub rest_none : (place : ℕ) (rest : List ℕ) → (place ≡ 0 → ⊥) → rest ≡ [] → until_fault (rest_entries place rest) ≡ []
rest_none place rest h e = rw (is_no_header place h) (rw e refl)

nil_of : (xs : List ℕ) → length xs ≡ 0 → xs ≡ []
nil_of [] e = refl
nil_of (x ∷ xs) e = absurd (omega arith)

cut_at : (b : Bool) (place : ℕ) → b ≡ false → until_fault (cond b [] (FaultEntry place stream.Cut ∷ [])) ≡ FaultEntry place stream.Cut ∷ []
cut_at true place h = absurd (false≢true (sym h))
cut_at false place h = refl

-- else the last frame was cut off
pub rest_cut : (place : ℕ) (rest : List ℕ) → (place ≡ 0 → ⊥) → (rest ≡ [] → ⊥) → until_fault (rest_entries place rest) ≡ FaultEntry place stream.Cut ∷ []
rest_cut place rest h some = rw (is_no_header place h) (cut_at (length rest == 0) place (is_no_header (length rest) (λ e. some (nil_of rest e))))
