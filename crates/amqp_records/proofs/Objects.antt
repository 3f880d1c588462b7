-- An object keeps the numbers that were put into it.
use Rattle.std.proofs.Common.{◌≡◌, ℕ, List, length, codes, Some, false, bytes_eq, true≢false, refl, ◌∙◌, ap, sym, subst}
use Rattle.std.proofs.lemmas.Slice.Eq.{bytes_eq-Decides}
use Rattle.serde_json.specs.Data.{Data, number, unsigned, object, Members, put}
use Rattle.serde_json.specs.Find.{get_member}
use Rattle.serde_json.proofs.Views.{get_member-put, get_member-put_other}
use Rattle.amqp_records.specs.Lines.{whole_json, HasNumbers}

-- two texts that differ
apart : (q k : List ℕ) → bytes_eq q k ≡ false → q ≡ k → ⊥
apart q k differ e = true≢false (sym ((bytes_eq-Decides q k).1 e) ∙ differ)

-- what was put at a name is found there though another name was given a value since
kept : (q k : List ℕ) (d e : Data) (ms : Members) → bytes_eq q k ≡ false → get_member q ms ≡ Some e → get_member q (put k d ms) ≡ Some e
kept q k d e ms other is = get_member-put_other q k d ms (apart q k other) ∙ is

-- the members of these numbers, put one after the other
abbrev pub with_numbers : (n channel handle id format size : ℕ) → Members → Members
with_numbers n channel handle id format size ms =
    put (codes "size") (number (unsigned size)) (put (codes "format") (number (unsigned format)) (put (codes "id") (number (unsigned id))
    (put (codes "handle") (number (unsigned handle)) (put (codes "channel") (number (unsigned channel)) (put (codes "number") (whole_json n) ms)))))

pub has_numbers : (n channel handle id format size : ℕ) (ms : Members) → HasNumbers n channel handle id format size (object (with_numbers n channel handle id format size ms))
has_numbers n channel handle id format size ms =
    let m1 = put (codes "number") (whole_json n) ms in
    let m2 = put (codes "channel") (number (unsigned channel)) m1 in
    let m3 = put (codes "handle") (number (unsigned handle)) m2 in
    let m4 = put (codes "id") (number (unsigned id)) m3 in
    let m5 = put (codes "format") (number (unsigned format)) m4 in
    let s = number (unsigned size) in
    let f = number (unsigned format) in
    let i = number (unsigned id) in
    let h = number (unsigned handle) in
    let c = number (unsigned channel) in
    record {
      number_is = kept (codes "number") (codes "size") s (whole_json n) m5 refl (kept (codes "number") (codes "format") f (whole_json n) m4 refl (kept (codes "number") (codes "id") i (whole_json n) m3 refl (kept (codes "number") (codes "handle") h (whole_json n) m2 refl (kept (codes "number") (codes "channel") c (whole_json n) m1 refl (get_member-put (codes "number") (whole_json n) ms)))));
      channel_is = kept (codes "channel") (codes "size") s c m5 refl (kept (codes "channel") (codes "format") f c m4 refl (kept (codes "channel") (codes "id") i c m3 refl (kept (codes "channel") (codes "handle") h c m2 refl (get_member-put (codes "channel") c m1))));
      handle_is = kept (codes "handle") (codes "size") s h m5 refl (kept (codes "handle") (codes "format") f h m4 refl (kept (codes "handle") (codes "id") i h m3 refl (get_member-put (codes "handle") h m2)));
      id_is = kept (codes "id") (codes "size") s i m5 refl (kept (codes "id") (codes "format") f i m4 refl (get_member-put (codes "id") i m3));
      format_is = kept (codes "format") (codes "size") s f m5 refl (get_member-put (codes "format") f m4);
      size_is = get_member-put (codes "size") s m5;
    }

-- one more of them
put_more : (k : List ℕ) (d e : Data) (new old ms : Members) → new ≡ put k d old → d ≡ e → old ≡ ms → new ≡ put k e ms
put_more k d e new old ms is same before = is ∙ ap (λ (x : Data). put k x old) same ∙ ap (put k e) before

-- what six calls of `put` leave has the numbers
pub numbers_put : (n channel handle id format size : ℕ) (m0 m1 m2 m3 m4 m5 m6 : Members) (d1 d2 d3 d4 d5 d6 : Data)
    → m1 ≡ put (codes "number") d1 m0 → m2 ≡ put (codes "channel") d2 m1 → m3 ≡ put (codes "handle") d3 m2
    → m4 ≡ put (codes "id") d4 m3 → m5 ≡ put (codes "format") d5 m4 → d1 ≡ whole_json n → d2 ≡ number (unsigned channel) → d3 ≡ number (unsigned handle)
    → d4 ≡ number (unsigned id) → d5 ≡ number (unsigned format) → d6 ≡ number (unsigned size) → m6 ≡ put (codes "size") d6 m5
    → HasNumbers n channel handle id format size (object m6)
numbers_put n channel handle id format size m0 m1 m2 m3 m4 m5 m6 d1 d2 d3 d4 d5 d6 e1 e2 e3 e4 e5 v1 v2 v3 v4 v5 v6 e6 =
    let s1 = put_more (codes "number") d1 (whole_json n) m1 m0 m0 e1 v1 refl in
    let s2 = put_more (codes "channel") d2 (number (unsigned channel)) m2 m1 _ e2 v2 s1 in
    let s3 = put_more (codes "handle") d3 (number (unsigned handle)) m3 m2 _ e3 v3 s2 in
    let s4 = put_more (codes "id") d4 (number (unsigned id)) m4 m3 _ e4 v4 s3 in
    let s5 = put_more (codes "format") d5 (number (unsigned format)) m5 m4 _ e5 v5 s4 in
    let s6 : m6 ≡ with_numbers n channel handle id format size m0 = put_more (codes "size") d6 (number (unsigned size)) m6 m5 _ e6 v6 s5 in
    subst (λ (ms : Members). HasNumbers n channel handle id format size (object ms)) (sym s6) (has_numbers n channel handle id format size m0)

-- the same of other names of the numbers
pub same_numbers : (n c d h k i j f g : ℕ) (m o : List ℕ) (d1 : Data) → c ≡ d → h ≡ k → i ≡ j → f ≡ g → m ≡ o → HasNumbers n c h i f (length m) d1
    → HasNumbers n d k j g (length o) d1
same_numbers n c d h k i j f g m o d1 ec eh ei ef em has =
    subst (λ (x : ℕ). HasNumbers n x k j g (length o) d1) ec (subst (λ (x : ℕ). HasNumbers n c x j g (length o) d1) eh
    (subst (λ (x : ℕ). HasNumbers n c h x g (length o) d1) ei (subst (λ (x : ℕ). HasNumbers n c h i x (length o) d1) ef
    (subst (λ (x : List ℕ). HasNumbers n c h i f (length x) d1) em has))))
