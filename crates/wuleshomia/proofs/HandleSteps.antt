-- A handle by value, put together and taken apart. Assumes `Logic`.
--     E          the box that a handle owns
--     word       its machine value
--     full_in    a handle of the box
--     none_in    a handle of none
--     apart      the two cases of what a handle owns
use Rattle.std.proofs.Common.{◌≡◌, ℕ, List, [], ◌∷◌, refl, lit<, w64}
use seplogic.Ra.Ura.{Ura}
use mir.Syntax.{impl, tnil, dnil}
use mir.Raw.{raw as bare}
use mir.Val.{Val, vint, vptr, vstruct, vcons, vnil}
use base.Logic.{never, fst∗}
use types.Logic.{Logic, sem}
use types.Kit.{Item, Goal, Seq, Step, step, ‵, ◌$◌, fsplit, fjoin, fpack, feq_i, feq_l}
use denote.RattleType.{RattleType, Valss}
use denote.Builtin.{RawPtr, u64}
use denote.Laws.{Is}
use denote.Memory.{lone}
use denote.Plain.{uint_Makes}
use denote.RawPtr.{Ptr, block_ptr, null_ptr, ptr_val, in_a_block}
use denote.Signature.{Slot, plain}
use denote.Steps.{nothing, owned}
use denote.Struct.Struct.{within}
use denote.Struct.Owning.{shape}
use Rattle.std.specs.declared.option.Option.{Option}
use Rattle.std.specs.declared.option.Option.TheVariants.{None, Some}
use Rattle.std_alloc.specs.Box.Ownership.{box_owns}
use Rattle.std_alloc.proofs.BoxSteps.Form.{Bx}
use Rattle.std_heap.specs.contracts.Global as Heap
use Rattle.std_heap.specs.contracts.GlobalAllocator.TheImpl.{ghosts, dict}
use Rattle.std_heap.proofs.Global.TheLaws as heap
use Rattle.libc.specs.Heap.{chunk}
use Rattle.wuleshomia.specs.contracts.held.Held as Held
use Rattle.wuleshomia.proofs.held.Held.TheLaws as held
use Rattle.wuleshomia.specs.contracts.unboxed.Unboxed as Unboxed
use Rattle.wuleshomia.specs.contracts.handle.EndpointHandle as Handle
use Rattle.wuleshomia.specs.Handles.{handle_owns}

abbrev pub E : Bx
E = record { row = Held.the_row; laws = held.the_row_laws; al = record { row = Heap.the_row; laws = heap.the_row_laws; g = ghosts; d = dict; drops = impl [] tnil dnil } }

abbrev pub UnboxedRow : RattleType
UnboxedRow = Unboxed.the_row Held.the_row Heap.the_row ghosts

abbrev pub FromUnboxed : Slot 0
FromUnboxed = plain (λ _. UnboxedRow)

abbrev pub FromHandle : Slot 0
FromHandle = plain (λ _. Handle.the_row)

abbrev pub word : Val → ℕ → Val
word v n = vstruct (vcons v (vcons (vint w64 n) vnil))

abbrev pub boxed : Ptr → Held.the_row.Denot → base.Fml.Fml
boxed p x = box_owns chunk Held.the_row p x

module _ {M : Type 1} {𝓤 : Ura M} {𝓛 : Logic 𝓤} {K : Type 0} {Γ : List (Item 𝓤)} {G : Goal 𝓤 𝓛.H} where
  pub full_in : K → (b o : ℕ) (x : Held.the_row.Denot)
      → Step K 𝓛 (‵ (Handle.the_row.own_val (record { at = block_ptr b o; live = 1; held = Some x }) (word (vptr b o) 1 ∷ [])) ∷ Γ) G (‵ (boxed (block_ptr b o) x) ∷ Γ) G
  full_in t b o x = step (λ s. let v : Val = word (vptr b o) 1 in
      feq_i t ℕ 1 1 refl $ fjoin t $ nothing t $ owned t u64 (Is u64) (uint_Makes 𝓛 w64) 1 (vint w64 1 ∷ []) (refl, lit< tt) $ fjoin t $
      feq_i t (List Val) (vptr b o ∷ []) (vptr b o ∷ []) refl $ fjoin t $ feq_i t (List Val) (v ∷ []) (v ∷ []) refl $ fjoin t $
      fpack t (Valss (RawPtr ∷ u64 ∷ [])) (within (shape Handle.the_type) (block_ptr b o, (1, tt)) (v ∷ [])) (vptr b o ∷ [], (vint w64 1 ∷ [], tt)) $ fjoin t $ s)

  pub none_in : K → Step K 𝓛 (‵ (Handle.the_row.own_val (record { at = null_ptr; live = 0; held = None }) (word (ptr_val null_ptr) 0 ∷ [])) ∷ Γ) G Γ G
  none_in t = step (λ s. let v : Val = word (ptr_val null_ptr) 0 in
      feq_i t ℕ 0 0 refl $ nothing t $ owned t u64 (Is u64) (uint_Makes 𝓛 w64) 0 (vint w64 0 ∷ []) (refl, lit< tt) $ fjoin t $
      feq_i t (List Val) (ptr_val null_ptr ∷ []) (ptr_val null_ptr ∷ []) refl $ fjoin t $ feq_i t (List Val) (v ∷ []) (v ∷ []) refl $ fjoin t $
      fpack t (Valss (RawPtr ∷ u64 ∷ [])) (within (shape Handle.the_type) (null_ptr, (0, tt)) (v ∷ [])) (ptr_val null_ptr ∷ [], (vint w64 0 ∷ [], tt)) $ fjoin t $ s)

  pub apart : K → (p : Ptr) (n : ℕ) (h : Option Held.the_row.Denot)
      → (n ≡ 0 → h ≡ None → Seq K 𝓛 Γ G)
      → ((b o : ℕ) (x : Held.the_row.Denot) → p ≡ block_ptr b o → n ≡ 1 → h ≡ Some x → Seq K 𝓛 (‵ (boxed (block_ptr b o) x) ∷ Γ) G)
      → Seq K 𝓛 (‵ (handle_owns p n h) ∷ Γ) G
  apart t p n None k l = feq_l t (λ e. k e refl)
  apart t p n (Some x) k l = fsplit t $ feq_l t (λ e. in_a_block t p (λ q. boxed q x) (fst∗ 𝓤 (never 𝓤) (sem 𝓛 (chunk (bare (lone Held.the_row.mir)) null_ptr))) (λ b o ep. l b o x ep e refl))
