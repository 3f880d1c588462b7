-- `into_unboxed` looks at `live`, and hands the box's parts out where there is one.
use mathlib.Core.Path.{◌≡◌, refl, sym, ap, ◌∙◌, subst}
use Prim.Native.Nat.{ℕ}
use mathlib.Core.List.{List, [], ◌∷◌, ◌++◌}
use lib.Dec.{lit<}
use seplogic.Ra.Ura.{Ura}
use mir.Val.{Val, vint, vptr, vstruct, vcons, vnil, of_list}
use mir.Syntax.{w64}
use mir.Raw.{raw as bare}
use base.Fraction.{full_share}
use base.Logic.{SProp, ent, emp, id⊢}
use base.Fml.{ftrue, fsep}
use prog.Memory.{Memory}
use prog.Routine.{Routine}
use prog.Wp.{WpFn, Tables}
use types.Logic.{Logic}
use contract.Monad.{Fun}
use contract.Running.{tables, tables_of}
use sound.WpLaws.{WpFn-mono}
use types.Kit.{Item, at_ret, ‵, raw, ◌⊛◌, ◌$◌, ◌∵◌, !, qed, by, move, keep, drop, use0, use1, join, split, fsplit, fjoin, fpick, feq_l, rewrite, suffices, done}
use types.Match.{live}
use types.Part.{whole, sub, agg}
use types.Run.{stop, fld, lit, bin, no_more, and_then, of_opd, first, branches, exec, returns, enter}
use types.ByLocal.{alloc_all, pass_all, free_all, look_at, get, get_in, sets, sets_last, env}
use denote.RattleType.{RattleType}
use denote.Builtin.{u64}
use denote.Exit.{yes}
use denote.Laws.{Is, shows}
use denote.Memory.{part_at}
use denote.RawPtr.{Ptr, block_ptr, ptr_val}
use denote.Signature.{Slot, plain, type_at}
use denote.Steps.{nothing, peeks}
use denote.Triple.Clauses.{Clauses}
use denote.Triple.Spec.{triple_of}
use denote.Triple.Table.{entered}
use denote.Triple.Walked.{says, Stays, stay_dropped, walk_of, ends_at, Goes-dropped, walk_Meets}
use Rattle.core.proofs.alloc.Calls.{token, handle_tells}
use Rattle.core.proofs.alloc.Shapes.{after}
use Rattle.core.proofs.atomic.Steps.{Ptr-Good}
use Rattle.core.proofs.option.Made.{Some-of, none_of}
use Rattle.std_alloc.proofs.ResultValues.{and_tt}
use Rattle.std.specs.declared.option.Option.TheVariants.{None, Some}
use Rattle.std_alloc.proofs.BoxSteps.Form.{D, R, τ, word as box_word, box_typed}
use Rattle.std_alloc.proofs.BoxSteps.Steps.{box_in}
use Rattle.std_heap.specs.contracts.Global as Heap
use Rattle.wuleshomia.proofs.HandleSteps.{E, UnboxedRow, FromHandle as From, word, boxed, apart}
use Rattle.wuleshomia.specs.contracts.handle.EndpointHandle as Handle
use Rattle.wuleshomia.specs.contracts.handle.EndpointHandle.into_unboxed as F
use Rattle.wuleshomia.specs.contracts.handle.EndpointHandle.into_unboxed.Key.{name as #self}
use Rattle.wuleshomia.proofs.handle.EndpointHandle.into_unboxed.Statement as stated
use Rattle.wuleshomia.proofs.handle.EndpointHandle.into_unboxed.Code as code

abbrev Alloc : Slot 0
Alloc = plain (λ _. Heap.the_row)

abbrev stayed : Stays (F.ended).signature.params (F.ended).kept
stayed = (stay_dropped From yes, (stay_dropped Alloc yes, tt))

module _ {M : Type 1} {𝓤 : Ura M} (𝓛 : Logic 𝓤) (at_mem : Memory → SProp 𝓤) (run : Routine → Fun 𝓤) (𝓣 : Tables 𝓤 𝓛.H) where
  open 𝓛 use {H}

  abbrev held : Clauses 𝓤 F.ended
  held = F.clauses 𝓛 at_mem run

  walk : (z : (walk_of 𝓛 F.ended stayed held).Ghost)
      → ent 𝓤 ((walk_of 𝓛 F.ended stayed held).pre z) (WpFn 𝓤 H 𝓣.C 𝓣.Λ code.function (z.0.4.0 ++ (z.0.4.1.0 ++ [])) ((walk_of 𝓛 F.ended stayed held).post z))
  walk z =
      let Post = (walk_of 𝓛 F.ended stayed held).post z in let fn = code.function in
      let d = z.0.3.0 in let a = z.0.3.1.0 in let us = z.0.4.0 in let ys = z.0.4.1.0 in
      let Out : RattleType = type_at (F.signature).result tt in
      qed 𝓛 ((‵ ftrue ⊛ ‵ (fsep (Handle.the_row.own_val d us) (fsep (Heap.the_row.own_val a ys) ftrue))) ∷ raw (emp 𝓤) ∷ []) ∵ split ! $ drop ! $ fsplit ! $
      move ! (1 ∷ []) $ fsplit ! $ handle_tells E.al ! a ys (λ hv ea fa. move ! (2 ∷ []) $
      -- [the handle; the allocator; true; emp]
      fsplit ! $ fpick ! (λ vss. fsplit ! $ feq_l ! (λ ev. fsplit ! $ feq_l ! (λ ep. fsplit ! $ peeks ! u64 (Is u64) (shows 𝓛 u64) d.live vss.1.0 (λ is. drop ! $ drop ! $
      let is_word : (p : Ptr) (n : ℕ) → d.at ≡ p → d.live ≡ n → us ≡ word (ptr_val p) n ∷ [] = λ p n at_p is_n.
      ev ∙ ap (λ (ps : List Val). vstruct (of_list (ps ++ (vss.1.0 ++ []))) ∷ []) (ep ∙ ap (λ (q : Ptr). ptr_val q ∷ []) at_p)
      ∙ ap (λ (ns : List Val). vstruct (of_list (ptr_val p ∷ (ns ++ []))) ∷ []) (is.0 ∙ ap (λ (m : ℕ). vint w64 m ∷ []) is_n) in
      apart ! d.at d.live d.held
      (λ e0 en.
      let v : Val = word (ptr_val d.at) 0 in let Γ : List (Item 𝓤) = ‵ (Heap.the_row.own_val a (hv ∷ [])) ∷ [] in let good = Ptr-Good d.at in
      keep ! (0 ∷ []) $ by ! (subst (λ (xs : List Val). ent 𝓤 (types.Kit.⋆ 𝓛 Γ) (WpFn 𝓤 H 𝓣.C 𝓣.Λ fn (xs ++ (ys ++ [])) Post)) (sym (is_word d.at 0 refl e0))
      (subst (λ (xs : List Val). ent 𝓤 (types.Kit.⋆ 𝓛 Γ) (WpFn 𝓤 H 𝓣.C 𝓣.Λ fn (v ∷ (xs ++ [])) Post)) (sym ea)
      (qed 𝓛 Γ ∵ enter ! 𝓣.C 𝓣.Λ fn (v ∷ hv ∷ []) _ $ alloc_all ! (λ ls. pass_all ! refl ((and_tt _ good.0, (good.1, (record { fits = lit< tt }, tt))), (fa, tt)) $ let Ev = env fn.locals ls in
      sets ! (of_opd ! (get_in ! (fld ! refl (stop !)) (sub ! 0 refl (whole !)))) refl good $ sets ! (of_opd ! (get_in ! (fld ! refl (stop !)) (sub ! 1 refl (whole !)))) refl (tt, record { fits = lit< tt }) $
      sets ! (bin ! (get ! refl) (lit ! tt) tt) refl (tt, tt) $ first ! $ branches ! (get ! refl)
      (λ _. sets_last ! (agg ! (and_then ! (lit ! tt) (no_more !))) refl (tt, (record { fits = lit< tt }, tt)) $ exec ! 𝓣.C 𝓣.Λ Ev (after 4 fn.body) (at_ret Ev Post) $ sets ! (of_opd ! (get ! refl)) refl (tt, (record { fits = lit< tt }, tt)) $
      use0 𝓛 (‵ (Out.own_val None (live 0 vnil ∷ []))) (none_of 𝓛 UnboxedRow) $ returns ! (look_at ! 0 refl) $ free_all ! refl $ keep ! (0 ∷ []) $
      suffices ! _ (ends_at 𝓛 F.ended stayed held z (live 0 vnil) None (tt, (tt, tt)) (tt, (tt, tt))) $ says ! (sym en) $
      nothing ! $ nothing ! $ fjoin ! $ nothing ! $ fjoin ! $ join ! $ nothing ! $ join ! $ done !)
      (λ wrong. absurd wrong))))))
      (λ b o x at_b e1 es.
      let v : Val = word (vptr b o) 1 in let pd : D E = record { ptr = block_ptr b o; alloc = a; value = x } in let made : UnboxedRow.Denot = record { ptr = block_ptr b o; alloc = a; value = x } in
      let w : Val = box_word E hv b o in let typed = box_typed E hv b o fa in let v₁ : Val = live 1 (vcons w vnil) in
      let Γ : List (Item 𝓤) = ‵ (boxed (block_ptr b o) x) ∷ ‵ (Heap.the_row.own_val a (hv ∷ [])) ∷ [] in
      keep ! (0 ∷ 1 ∷ []) $ by ! (subst (λ (xs : List Val). ent 𝓤 (types.Kit.⋆ 𝓛 Γ) (WpFn 𝓤 H 𝓣.C 𝓣.Λ fn (xs ++ (ys ++ [])) Post)) (sym (is_word (block_ptr b o) 1 at_b e1))
      (subst (λ (xs : List Val). ent 𝓤 (types.Kit.⋆ 𝓛 Γ) (WpFn 𝓤 H 𝓣.C 𝓣.Λ fn (v ∷ (xs ++ [])) Post)) (sym ea)
      (qed 𝓛 Γ ∵ enter ! 𝓣.C 𝓣.Λ fn (v ∷ hv ∷ []) _ $ alloc_all ! (λ ls. pass_all ! refl ((tt, (tt, (record { fits = lit< tt }, tt))), (fa, tt)) $ let Ev = env fn.locals ls in
      sets ! (of_opd ! (get_in ! (fld ! refl (stop !)) (sub ! 0 refl (whole !)))) refl (tt, tt) $ sets ! (of_opd ! (get_in ! (fld ! refl (stop !)) (sub ! 1 refl (whole !)))) refl (tt, record { fits = lit< tt }) $
      sets ! (bin ! (get ! refl) (lit ! tt) tt) refl (tt, tt) $ first ! $ branches ! (get ! refl) (λ wrong. absurd wrong)
      (λ _. sets ! (of_opd ! (get ! refl)) refl (tt, tt) $ sets ! (agg ! (and_then ! (get ! refl) (and_then ! (get ! refl) (no_more !)))) refl typed $ sets_last ! (agg ! (and_then ! (lit ! tt) (and_then ! (get ! refl) (no_more !)))) refl (and_tt _ typed.0, (record { fits = lit< tt }, (typed.1, tt))) $
      exec ! 𝓣.C 𝓣.Λ Ev (after 4 fn.body) (at_ret Ev Post) $ sets ! (of_opd ! (get ! refl)) refl (and_tt _ typed.0, (record { fits = lit< tt }, (typed.1, tt))) $
      use1 𝓛 (‵ (fsep (part_at (R E) full_share x b o) (token E.al a (bare (τ E)) (block_ptr b o)))) (id⊢ 𝓤 _) $ fsplit ! $
      box_in E ! pd b o x refl refl $ use1 𝓛 (‵ (UnboxedRow.own_val made (w ∷ []))) (id⊢ 𝓤 _) $ use1 𝓛 (‵ (Out.own_val (Some made) (v₁ ∷ []))) (Some-of 𝓛 UnboxedRow made w) $
      returns ! (look_at ! 0 refl) $ free_all ! refl $ keep ! (0 ∷ []) $
      suffices ! _ (ends_at 𝓛 F.ended stayed held z v₁ (Some made) (tt, (tt, tt)) (tt, (tt, tt))) $ says ! (sym es) $
      nothing ! $ nothing ! $ fjoin ! $ nothing ! $ fjoin ! $ join ! $ nothing ! $ join ! $ done !)))))))))))

pub into_unboxed_spec : {M : Type 1} → stated.statement M
unfolding tables_of
into_unboxed_spec 𝓤 𝓛 𝓜 𝓡 wired =
    let 𝓣 : Tables 𝓤 𝓛.H = tables_of 𝓤 𝓛.H 𝓜 (tables 𝓤 𝓛.H 𝓜 𝓡 𝓡.env) in
    entered 𝓤 𝓛.H (triple_of 𝓛 F.signature (F.spec 𝓛 𝓜.mem 𝓡.returns)) 𝓣.C 𝓣.Λ #self code.function (code.unfolded 𝓤 𝓛.H 𝓜 𝓡 wired)
    (walk_Meets 𝓛 F.ended stayed (Goes-dropped 𝓛 0 From yes (λ κs x f. refl), (Goes-dropped 𝓛 0 Alloc yes (λ κs x f. refl), tt)) (F.clauses 𝓛 𝓜.mem 𝓡.returns) (WpFn 𝓤 𝓛.H 𝓣.C 𝓣.Λ code.function) (WpFn-mono 𝓤 𝓛.H 𝓛.laws 𝓣 code.function)
    (walk 𝓛 𝓜.mem 𝓡.returns 𝓣))
