-- What a put writes.
use Rattle.std.proofs.Common.{◌≡◌, ℕ, ◌+◌, ◌<◌, ◌≤◌, ◌^◌, ◌↔◌, arith, Bool, eqb, IsTrue, List, [], ◌∷◌, ◌++◌, length, length-append, sym, ap, ◌∙◌, subst, append_assoc, append-nil, Some}
use Rattle.std.proofs.lemmas.Bool.{eqb-true}
use Rattle.std.proofs.lemmas.List.{nil_from_length}
use Rattle.std.specs.Int.{w32, to_be_bytes}
use Rattle.amqp_spool.specs.Entries.{Recorded, short, record_entry}
use Rattle.amqp_spool.specs.EntryReading.{IsWhole}
use Rattle.amqp_spool.specs.Waitings.{LinkState, LinksState, WaitingState, link_at, told_here, told_again, batch_len}
use Rattle.amqp_spool.specs.PutFaults.{appended, IsAppended, IsPut}
use Rattle.amqp_spool.proofs.EntryTexts.{from_tag, record_parts, same_records}

-- bytes that are a record and what is behind it are a record only if nothing is
pub whole_alone : (bytes record_ rest : List ℕ) (b : Bool) → IsWhole record_ → bytes ≡ record_ ++ rest → b ≡ eqb (length rest) 0 → IsTrue b ↔ IsWhole bytes
whole_alone bytes record_ rest b is whole e = (
  λ t. subst (λ (l : List ℕ). IsWhole l) (sym (whole ∙ ap (λ (l : List ℕ). record_ ++ l) (nil_from_length rest (eqb-true (length rest) 0 (sym e ∙ t))) ∙ append-nil record_)) is,
  λ all. e ∙ ap (λ (l : List ℕ). eqb (length l) 0) (sym (same_records bytes record_ [] rest all is (append-nil bytes ∙ whole)).1),
)

pub record_written : (o told tag bytes : List ℕ) (link : ℕ)
    → o ++ told ++ 2 ∷ [] ++ to_be_bytes w32 link ++ length tag ∷ [] ++ tag ++ bytes ≡ o ++ told ++ record_entry (record { link = link; tag = tag; «record» = bytes })
unfolding record_entry
record_written o told tag bytes link = five (o ++ told) (to_be_bytes w32 link) tag bytes (length tag)
  where
    five : (o l t b : List ℕ) (n : ℕ) → o ++ 2 ∷ [] ++ l ++ n ∷ [] ++ t ++ b ≡ o ++ (2 ∷ l ++ n ∷ t ++ b)
    five o l t b n = simp append_assoc

pub record_len : (r : Recorded) → length (record_entry r) ≡ 6 + length r.tag + length r.record
record_len r =
    omega (
      arith,
      ap (λ (l : List ℕ). length l) (sym (append-nil (record_entry r)) ∙ record_parts r []),
      length-append (to_be_bytes w32 r.link) (from_tag r []),
      length-append (short r.tag) (r.record ++ []),
      length-append r.record [],
    )

pub appended_len : (here again : List ℕ) (r : Recorded) (w : WaitingState) → batch_len (appended here again r w) ≡ batch_len w + (length here + length again + (6 + length r.tag + length r.record))
appended_len here again r w =
    omega (arith, record_len r, length-append w.again again, length-append (w.here ++ here) (record_entry r), length-append w.here here)

abbrev batch_of : List ℕ → List ℕ → ℕ → ℕ → WaitingState
batch_of here again count most = record { here = here; again = again; count = count; most = most }

pub is_appended : (w : WaitingState) (h a here again : List ℕ) (r : Recorded) (n m : ℕ) → h ≡ w.here ++ here ++ record_entry r → a ≡ w.again ++ again → n ≡ w.count + 1 → m ≡ w.most → n < 2 ^ 32
    → batch_len w + (length here + length again + (6 + length r.tag + length r.record)) ≤ w.most → IsAppended here again r w (record { here = h; again = a; count = n; most = m })
is_appended w h a here again r n m p q e f small fits =
    let same : batch_of h a n m ≡ appended here again r w =
    ap (λ (x : List ℕ). batch_of x a n m) p
    ∙ ap (λ (x : List ℕ). batch_of (w.here ++ here ++ record_entry r) x n m) q
    ∙ ap (λ (x : ℕ). batch_of (w.here ++ here ++ record_entry r) (w.again ++ again) x m) e
    ∙ ap (λ (x : ℕ). batch_of (w.here ++ here ++ record_entry r) (w.again ++ again) (w.count + 1) x) f in
    record { fits = omega (arith, fits, appended_len here again r w, ap (λ (x : WaitingState). batch_len x) same); counts = small; appends = same }

pub is_put : (first next : ℕ) (links : LinksState) (was now : WaitingState) (r : Recorded) (k : LinkState) (here again : List ℕ) → link_at links r.link ≡ Some k → length r.tag ≤ 32 → IsWhole r.record → here ≡ told_here first k
    → again ≡ told_again first next k → IsAppended here again r was now → IsPut first next links was now r
is_put first next links was now r k here again is_open short whole p q x = record {
  link = k;
  is_open = is_open;
  short = short;
  whole = whole;
  fits = x.fits;
  counts = x.counts;
  put = x.appends ∙ ap (λ (l : List ℕ). appended l again r was) p ∙ ap (λ (l : List ℕ). appended (told_here first k) l r was) q;
}
