-- The notes of the counts at a call: what each is handed, and what a caller has of it. Assumes `Logic`.
-- `note_granted` and `note_freed` have one contract, `Notes`.
use Rattle.std.proofs.Common.{◌≡◌, ℕ, ◌^◌, ◌<◌, Bool, List, [], ◌∷◌, refl, ap, w64}
use seplogic.Ra.Ura.{Ura}
use mir.Val.{Val, vbool, vint, vptr, vunit}
use base.Logic.{SProp, ent, ex, sep, guard, id⊢}
use base.Fml.{Lft, Share, ftrue, fsep, flft, Fml}
use prog.Memory.{Memory}
use prog.Routine.{Routine}
use types.Logic.{Logic, sem}
use contract.Monad.{Fun}
use types.Kit.{‵, raw, ◌⊛◌, some, later, ◌$◌, ◌∵◌, !, qed, move, keep, use1, split, join, pick, fjoin, feq_i, feq_l, flt_i, check, show, await, updating, now as at_once, done}
use denote.Memory.{hidden_shr}
use denote.Builtin.{bool, unit}
use denote.Steps.{nothing, only}
use denote.Triple.Statement.{Contract}
use denote.Triple.Spec.{triple_of}
use Rattle.test_heap.specs.declared.Counts.{Counts}
use Rattle.test_heap.specs.contracts.Counts as counts
use Rattle.test_heap.specs.contracts.Counts.note_request as request
use Rattle.test_heap.specs.contracts.Counts.note_granted as granted

-- a `&` to the counts
abbrev pub lent : Lft → Counts → ℕ × ℕ → Fml
lent κ x c = hidden_shr counts.the_row κ x c.0 c.1

module _ {M : Type 1} {𝓤 : Ura M} (𝓛 : Logic 𝓤) (at_mem : Memory → SProp 𝓤) (run : Routine → Fun 𝓤) where
  abbrev pub Asks : Contract 𝓤
  Asks = triple_of 𝓛 request.signature (request.spec 𝓛 at_mem run)

  abbrev pub Notes : Contract 𝓤
  Notes = triple_of 𝓛 granted.signature (granted.spec 𝓛 at_mem run)

  abbrev pub at_asks : Lft → Share → Counts → ℕ × ℕ → Asks.Ghost
  at_asks κ q x c = (((κ, tt), (q, tt), tt, (record { ref_ptr = c; now = x }, tt), (vptr c.0 c.1 ∷ [], tt)), tt)

  abbrev pub at_notes : Lft → Share → Counts → ℕ × ℕ → ℕ → Notes.Ghost
  at_notes κ q x c n = (((κ, tt), (q, tt), tt, (record { ref_ptr = c; now = x }, (n, tt)), (vptr c.0 c.1 ∷ [], (vint w64 n ∷ [], tt))), tt)

module _ {M : Type 1} {𝓤 : Ura M} (𝓛 : Logic 𝓤) (at_mem : Memory → SProp 𝓤) (run : Routine → Fun 𝓤) (κ : Lft) (q : Share) (x : Counts) (c : ℕ × ℕ) where
  open 𝓛 use {H, A}

  pub Asks-goes : ent 𝓤 (sep 𝓤 (sem 𝓛 (lent κ x c)) (A.lft κ q)) ((Asks 𝓛 at_mem run).pre (at_asks 𝓛 at_mem run κ q x c))
  Asks-goes =
      qed 𝓛 (‵ (lent κ x c) ∷ ‵ (flft κ q) ∷ []) ∵ feq_i ! (List Val) (vptr c.0 c.1 ∷ []) (vptr c.0 c.1 ∷ []) refl $ fjoin ! $
      nothing ! $ move ! (1 ∷ []) $ fjoin ! $ nothing ! $ move ! (2 ∷ []) $ join ! $ join ! $ nothing ! $ move ! (1 ∷ []) $ done !

  pub Asks-gives : (v : Val)
      → ent 𝓤 ((Asks 𝓛 at_mem run).post (at_asks 𝓛 at_mem run κ q x c) v) (H.⇛ (ex 𝓤 (λ (b : Bool). guard 𝓤 (v ≡ vbool b) (A.lft κ q))))
  Asks-gives v =
      qed 𝓛 (raw ((Asks 𝓛 at_mem run).post (at_asks 𝓛 at_mem run κ q x c) v) ∷ []) ∵ updating ! $
      use1 𝓛 (later (some (λ (b : Bool). ((‵ (flft κ q) ⊛ ‵ ftrue) ⊛ ‵ (bool.own_val b (v ∷ [])))
      ⊛ some (λ (ws : Unit {0} × Unit {0}). ‵ (fsep ftrue ftrue) ⊛ ‵ ftrue)))) (id⊢ 𝓤 _) $ await ! tt $ pick ! (λ b.
      split ! $ split ! $ move ! (1 ∷ []) $ feq_l ! (λ e. split ! $ at_once ! $
      show ! (λ (b : Bool). guard 𝓤 (v ≡ vbool b) (A.lft κ q)) b $ check ! (ap only e) $ keep ! (0 ∷ []) $ done !))

  pub Notes-goes : (n : ℕ) → n < 2 ^ 64 → ent 𝓤 (sep 𝓤 (sem 𝓛 (lent κ x c)) (A.lft κ q)) ((Notes 𝓛 at_mem run).pre (at_notes 𝓛 at_mem run κ q x c n))
  Notes-goes n fits =
      qed 𝓛 (‵ (lent κ x c) ∷ ‵ (flft κ q) ∷ []) ∵
      nothing ! $ flt_i ! n (2 ^ 64) fits $ feq_i ! (List Val) (vint w64 n ∷ []) (vint w64 n ∷ []) refl $ fjoin ! $ fjoin ! $
      move ! (1 ∷ []) $ feq_i ! (List Val) (vptr c.0 c.1 ∷ []) (vptr c.0 c.1 ∷ []) refl $ fjoin ! $ fjoin ! $
      nothing ! $ move ! (2 ∷ []) $ join ! $ join ! $ nothing ! $ move ! (1 ∷ []) $ done !

  pub Notes-gives : (n : ℕ) (v : Val) → ent 𝓤 ((Notes 𝓛 at_mem run).post (at_notes 𝓛 at_mem run κ q x c n) v) (H.⇛ (guard 𝓤 (v ≡ vunit) (A.lft κ q)))
  Notes-gives n v =
      qed 𝓛 (raw ((Notes 𝓛 at_mem run).post (at_notes 𝓛 at_mem run κ q x c n) v) ∷ []) ∵ updating ! $
      use1 𝓛 (later (some (λ (r : Unit {0}). ((‵ (flft κ q) ⊛ ‵ ftrue) ⊛ ‵ (unit.own_val r (v ∷ [])))
      ⊛ some (λ (ws : Unit {0} × (Unit {0} × Unit {0})). ‵ (fsep ftrue (fsep ftrue ftrue)) ⊛ ‵ ftrue)))) (id⊢ 𝓤 _) $ await ! tt $ pick ! (λ r.
      split ! $ split ! $ move ! (1 ∷ []) $ feq_l ! (λ e. split ! $ at_once ! $ check ! (ap only e) $ keep ! (0 ∷ []) $ done !))
