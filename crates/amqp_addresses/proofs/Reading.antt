-- A file is read line by line.
use Rattle.std.proofs.Common.{arith, ◌≡◌, ℕ, ◌+◌, ◌<◌, ◌≤◌, Bool, true, false, List, [], ◌∷◌, ◌++◌, length, take, drop, get_or, refl, ap, sym, ◌∙◌, subst, ltb-false, length-drop, Option, Some, None}
use Rattle.std.specs.Prelude.{Result, Ok, Err, MatchOption, nat_lt, slice_get}
use Rattle.std.specs.Borrow.{Bor}
use Rattle.std.specs.List.{cons_option}
use Rattle.std.specs.Option.{option_map}
use Rattle.std.proofs.lemmas.Bool.{ltb-true}
use Rattle.std.proofs.lemmas.List.{take_more, take_all, drop_more, append-nil}
use Rattle.std.proofs.lemmas.List.Elements.{filter_map-append}
use Rattle.std.proofs.lemmas.Option.{same_Some, slice_get_read}
use Rattle.amqp_addresses.specs.declared.faults.LineFault.{LineFault}
use Rattle.amqp_addresses.specs.declared.faults.ReadFault.{ReadFault}
use Rattle.amqp_addresses.specs.declared.faults.ReadFault.TheVariants as read
use Rattle.amqp_addresses.specs.Reads.{Gives, at_line}
use Rattle.amqp_addresses.specs.Lines.{Said, line_says}
use Rattle.amqp_addresses.specs.Files.{lines, said_in, all_said, fault_behind, fault_in, fault_of, AreFine, NoTwo, AllSay, IsFault}
use Rattle.amqp_addresses.proofs.Once.{taken_once, none_once}
use Rattle.amqp_addresses.specs.Takings.{put_by, taken_by, taken}

-- One line more. --------------------------------------------------------------------------------------------------------

put_ok : (said said' : List Said) (more : Said) (o : Option LineFault) → put_by said more o ≡ Ok said' → (o ≡ None) × (said' ≡ said ++ more ∷ [])
put_ok said said' more None is = (refl, cc)
put_ok said said' more (Some f) is = absurd (cc)

put_err : (said : List Said) (more : Said) (o : Option LineFault) (f : LineFault) → put_by said more o ≡ Err f → o ≡ Some f
put_err said more None f is = absurd (cc)
put_err said more (Some g) f is = cc

taken_ok : (said said' : List Said) (r : Result (Option Said) LineFault) → taken_by said r ≡ Ok said' → (fault_in said r ≡ None) × (said' ≡ said ++ cons_option (said_in r) [])
taken_ok said said' (Err f) is = absurd (cc)
taken_ok said said' (Ok None) is = (refl, rw (append-nil said) (cc))
taken_ok said said' (Ok (Some more)) is = put_ok said said' more (fault_behind said more) is

taken_err : (said : List Said) (r : Result (Option Said) LineFault) (f : LineFault) → taken_by said r ≡ Err f → fault_in said r ≡ Some f
taken_err said (Err g) f is = cc
taken_err said (Ok None) f is = absurd (cc)
taken_err said (Ok (Some more)) f is = put_err said more (fault_behind said more) f is

all_more : (o : ℕ) (earlier : List (List ℕ)) (line : List ℕ) → all_said o (earlier ++ line ∷ []) ≡ all_said o earlier ++ cons_option (said_in (line_says o line)) []
all_more o earlier line = filter_map-append (λ l. said_in (line_says o l)) earlier (line ∷ [])

-- one fine line more
fine_more : (o : ℕ) (all : List (List ℕ)) (n : ℕ) (line : List ℕ) → AreFine o all n → slice_get all n ≡ Some line → fault_of o (take n all) line ≡ None → AreFine o all (n + 1)
fine_more o all n line fine here none i x low is = by (nat_lt i n) refl
  where
    by : (b : Bool) → nat_lt i n ≡ b → fault_of o (take i all) x ≡ None
    by true less = fine i x (ltb-true i n less) is
    by false more =
        let over = ltb-false i n more in
        let at : i ≡ n = omega (arith, low, over) in
        let same : line ≡ x = same_Some line x (sym here ∙ ap (λ (j : ℕ). slice_get all j) (sym at) ∙ is) in
        subst (λ (j : ℕ). fault_of o (take j all) x ≡ None) (sym at) (subst (λ (y : List ℕ). fault_of o (take n all) y ≡ None) same none)

-- The loop. -------------------------------------------------------------------------------------------------------------

-- the lines that are left
abbrev pub left_lines : Option (List ℕ) → List (List ℕ)
left_lines None = []
left_lines (Some rest) = lines rest

abbrev pub left_len : Option (List ℕ) → ℕ
left_len None = 0
left_len (Some rest) = length rest + 1

-- so many lines were read, and said this
pub record Reads (o : ℕ) (text : List ℕ) (said : List Said) (n : ℕ) (left : Option (List ℕ)) : Type 0 where
  pub fine : AreFine o (lines text) n
  pub said_is : said ≡ all_said o (take n (lines text))
  pub once : NoTwo said
  pub rest : drop n (lines text) ≡ left_lines left
  pub room : n + left_len left ≤ length text + 1

pub reads_first : (o : ℕ) (text : List ℕ) → Reads o text [] 0 (Some text)
reads_first o text = record {
  fine = λ i line low is. absurd (omega (arith, low));
  said_is = refl;
  once = none_once;
  rest = refl;
  room = omega arith;
}

-- where a line stands, and what is before and behind it
record Stands (all : List (List ℕ)) (n : ℕ) (line : List ℕ) (more : List (List ℕ)) : Type 0 where
  here : slice_get all n ≡ Some line
  upto : take (n + 1) all ≡ take n all ++ line ∷ []
  rest : drop (n + 1) all ≡ more

stands : (all : List (List ℕ)) (n : ℕ) (line : List ℕ) (more : List (List ℕ)) → drop n all ≡ line ∷ more → Stands all n line more
stands all n line more is =
    let len = ap (λ (x : List (List ℕ)). length x) is in
    let low : n < length all = omega (arith, length-drop n all, len) in
    let cut = drop_more all n line low in
    let same : line ≡ get_or all n line = cc in
    record {
      here = slice_get_read all (length all) n line refl low same;
      upto = take_more all n line low ∙ ap (λ (x : List ℕ). take n all ++ x ∷ []) (sym same);
      rest = cc;
    }

-- the parts that a first line and what is behind it have
pub parts_left : (rest line : List ℕ) (behind : Option (Bor (List ℕ))) → MatchOption behind (lines rest ≡ line ∷ []) (λ b. lines rest ≡ line ∷ lines b.now) →
    lines rest ≡ line ∷ left_lines (option_map (λ r. r.now) behind)
parts_left rest line None is = is
parts_left rest line (Some b) is = is

pub shorter_left : (rest line : List ℕ) (behind : Option (Bor (List ℕ))) → MatchOption behind (length line ≡ length rest) (λ b. length b.now + 1 + length line ≡ length rest) →
    left_len (option_map (λ r. r.now) behind) ≤ length rest
shorter_left rest line None is = omega arith
shorter_left rest line (Some b) is = omega (arith, is)

pub gives_ok : {A B : Type 0} (view : A → B) (r : Result A ReadFault) (x : A) (there : Result B LineFault) → Gives view r there → r ≡ Ok x → there ≡ Ok (view x)
gives_ok {A} view r x there is so = subst (λ (y : Result A ReadFault). Gives view y there) so is

-- one line more
pub reads_more : (o : ℕ) (text : List ℕ) (said : List Said) (n : ℕ) (rest line : List ℕ) (behind : Option (List ℕ)) (said' : List Said) → Reads o text said n (Some rest) →
    lines rest ≡ line ∷ left_lines behind → left_len behind ≤ length rest → taken o said line ≡ Ok said' → Reads o text said' (n + 1) behind
reads_more o text said n rest line behind said' r parts short is =
    let at = stands (lines text) n line (left_lines behind) (r.rest ∙ parts) in
    let new = taken_ok (all_said o (take n (lines text))) said' (line_says o line) (subst (λ (s : List Said). taken o s line ≡ Ok said') r.said_is is) in
    record {
      fine = fine_more o (lines text) n line r.fine at.here new.0;
      once = taken_once said said' (line_says o line) r.once is;
      said_is = new.1 ∙ sym (all_more o (take n (lines text)) line) ∙ ap (λ (x : List (List ℕ)). all_said o x) (sym at.upto);
      rest = at.rest;
      room = omega (arith, r.room, short);
    }

-- a line that is refused
pub refused : (o : ℕ) (text : List ℕ) (said said' : List Said) (n : ℕ) (rest line : List ℕ) (behind : Option (List ℕ)) (e : ReadFault) → Reads o text said n (Some rest) →
    lines rest ≡ line ∷ left_lines behind → Gives {A = Unit {0}} (λ _. said') (Err e) (taken o said line) → IsFault o text (at_line (n + 1) e)
refused o text said said' n rest line behind read.NoMemory r parts is = tt
refused o text said said' n rest line behind (read.Bad f) r parts is =
    let at = stands (lines text) n line (left_lines behind) (r.rest ∙ parts) in
    record {
      place = n;
      number = refl;
      line = line;
      stands = at.here;
      before = r.fine;
      has = taken_err (all_said o (take n (lines text))) (line_says o line) f (subst (λ (s : List Said). taken o s line ≡ Err f) r.said_is is);
    }

-- the end
pub reads_all : (o : ℕ) (text : List ℕ) (said : List Said) (n : ℕ) → Reads o text said n None → AllSay o (lines text) said
reads_all o text said n r =
    let none = ap (λ (x : List (List ℕ)). length x) r.rest in
    let high : length (lines text) ≤ n = omega (arith, none, length-drop n (lines text)) in
    record {
      fine = λ i line low is. r.fine i line (omega (arith, low, high)) is;
      whole = r.said_is ∙ ap (λ (x : List (List ℕ)). all_said o x) (take_all n (lines text) high);
    }
