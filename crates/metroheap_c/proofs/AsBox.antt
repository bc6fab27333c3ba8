-- A handle of C and the parts of a box own what a box at the same types owns. Assumes `Logic`.
--     handle_out     a handle by value is a null pointer, or the pointer of a box with what the box owns
--     handle_in      a handle is made of a pointer, with what it is to own
use mathlib.Core.Path.{◌≡◌, refl, subst}
use Prim.Native.Nat.{ℕ}
use lib.Dec.{T, lit<}
use mathlib.Core.List.{List, [], ◌∷◌, ◌++◌}
use seplogic.Ra.Ura.{Ura}
use mir.Syntax.{impl, tnil, dnil}
use mir.Raw.{raw as bare}
use mir.Val.{Val, vptr, vstruct, vcons, vnil, of_list, has_ty, WT}
use base.Logic.{via, snd∗, guard_i, never_e}
use base.Fml.{ftrue}
use base.Fraction.{full_share}
use contract.Monad.{fact_use}
use types.Logic.{Logic, sem}
use types.Kit.{Item, Goal, Seq, Step, step, ‵, given, ◌$◌, move, drop, use1, learn, fsplit, fjoin, fpick, fpack, feq_i, feq_l}
use denote.RattleType.{Valss}
use denote.Memory.{lone}
use denote.RawPtr.{Ptr, RawPtr, block_ptr, null_ptr, ptr_val, lies_at, Testable}
use denote.Signature.{Slot, plain}
use denote.Steps.{nothing}
use denote.Struct.Struct.{within}
use denote.Struct.Owning.{shape, to}
use Rattle.std.proofs.{alloc.Calls.{α, Fits, handle_tells}, BoxSteps.Form.{Bx, box_ty}}
use Rattle.std.proofs.GlobalToken.{dealloc_token-Testable}
use Rattle.std_alloc.proofs.ResultValues.{and_tt}
use Rattle.std.specs.{Box.Ownership.box_owns, declared.alloc.Global.Global, declared.option.Option.Option}
use Rattle.std.specs.declared.option.Option.TheVariants.{None, Some}
use Rattle.std.specs.contracts.impls.GlobalAllocator.TheImpl.{ghosts, dict}
use Rattle.metroheap_c.specs.Held.{Kept, handle_owns}
use Rattle.std.specs.contracts.alloc.Global as heap
use Rattle.std.proofs.alloc.Global.TheLaws as heap_laws
use Rattle.metroheap_c.specs.contracts.parts.Parts as Parts
use Rattle.mh_embed.specs.contracts.embedded.Embedded as kept
use Rattle.mh_embed.proofs.embedded.Embedded.TheLaws as kept_laws
use Rattle.metroheap_c.specs.contracts.handle.Handle as handle

abbrev pub E : Bx
E = record { row = kept.the_row; laws = kept_laws.the_row_laws; al = record { row = heap.the_row; laws = heap_laws.the_row_laws; g = ghosts; d = dict; drops = impl [] tnil dnil } }

abbrev pub FromParts : Slot 0
FromParts = plain (λ _. Parts.the_row kept.the_row heap.the_row ghosts)

abbrev pub FromHandle : Slot 0
FromHandle = plain (λ _. handle.the_row)

abbrev pub both : Val → Val → Val
both v w = vstruct (vcons v (vcons w vnil))

-- the machine value of a handle with a null pointer has its type
pub null_typed : (h : Val) → Fits E.al h → T (has_ty (box_ty E) (both (ptr_val null_ptr) h)) × WT (both (ptr_val null_ptr) h)
null_typed h fits = (and_tt (has_ty (α E.al) h) fits.0, (record { fits = lit< tt }, (fits.1, tt)))

module _ {M : Type 1} {𝓤 : Ura M} {𝓛 : Logic 𝓤} {K : Type 0} {Γ : List (Item 𝓤)} {G : Goal 𝓤 𝓛.H} where
  by_held : K → (a : Global) (p : Ptr) (v : Option Kept) → (p ≡ null_ptr → v ≡ None → Seq K 𝓛 Γ G)
      → ((b o : ℕ) (x : Kept) → p ≡ block_ptr b o → v ≡ Some x → Testable (block_ptr b o) → Seq K 𝓛 (‵ (box_owns (ghosts.dealloc_token a) kept.the_row (block_ptr b o) x) ∷ Γ) G)
      → Seq K 𝓛 (‵ (handle_owns a p v) ∷ Γ) G
  by_held t a null_ptr None none some = drop t $ none refl refl
  by_held t a null_ptr (Some x) none some = use1 𝓛 (given ⊥ (‵ ftrue)) (never_e 𝓤 _) $ learn t (λ w. absurd w)
  by_held t a (block_ptr b o) None none some = use1 𝓛 (given ⊥ (‵ ftrue)) (never_e 𝓤 _) $ learn t (λ w. absurd w)
  by_held t a (block_ptr b o) (Some x) none some =
      let owned = box_owns (ghosts.dealloc_token a) kept.the_row (block_ptr b o) x in let token = ghosts.dealloc_token a (bare (lone kept.the_row.mir)) (block_ptr b o) in
      use1 𝓛 (given (Testable (block_ptr b o)) (‵ owned))
      (fact_use 𝓤 (Testable (block_ptr b o)) (via 𝓤 _ (snd∗ 𝓤 (sem 𝓛 (lies_at kept.the_row full_share (block_ptr b o) x)) (sem 𝓛 token)) (dealloc_token-Testable 𝓛 a (bare (lone kept.the_row.mir)) (block_ptr b o)))
      (guard_i 𝓤 (Testable (block_ptr b o)) (sem 𝓛 owned))) $ learn t (λ test. some b o x refl refl test)

module _ {M : Type 1} {𝓤 : Ura M} {𝓛 : Logic 𝓤} {K : Type 0} {Γ : List (Item 𝓤)} {G : Goal 𝓤 𝓛.H} where
  pub handle_out : K → (d : handle.the_row.Denot) (vs : List Val)
      → ((h : Val) → d.value ≡ None → vs ≡ both (ptr_val null_ptr) h ∷ [] → Fits E.al h → Seq K 𝓛 (‵ (heap.the_row.own_val d.alloc (h ∷ [])) ∷ Γ) G)
      → ((h : Val) (b o : ℕ) (x : Kept) → d.value ≡ Some x → vs ≡ both (vptr b o) h ∷ [] → Fits E.al h → Testable (block_ptr b o)
      → Seq K 𝓛 (‵ (box_owns (ghosts.dealloc_token d.alloc) kept.the_row (block_ptr b o) x) ∷ ‵ (heap.the_row.own_val d.alloc (h ∷ [])) ∷ Γ) G)
      → Seq K 𝓛 (‵ (handle.the_row.own_val d vs) ∷ Γ) G
  handle_out t d vs none some =
      fsplit t $ fpick t (λ vss. fsplit t $ feq_l t (λ ev. fsplit t $ feq_l t (λ ep. fsplit t $ handle_tells E.al t d.alloc vss.1.0 (λ h ea fits. move t (1 ∷ []) $ drop t $ move t (1 ∷ []) $
      let word : vs ≡ both (ptr_val d.at) h ∷ [] = subst (λ (ws : List Val). vs ≡ vstruct (of_list (ptr_val d.at ∷ (ws ++ []))) ∷ []) ea (subst (λ (ps : List Val). vs ≡ vstruct (of_list (ps ++ (vss.1.0 ++ []))) ∷ []) ep ev) in
      by_held t d.alloc d.at d.value (λ e f. none h f (subst (λ (p : Ptr). vs ≡ both (ptr_val p) h ∷ []) e word) fits)
      (λ b o x e f test. some h b o x f (subst (λ (p : Ptr). vs ≡ both (ptr_val p) h ∷ []) e word) fits test)))))

  pub handle_in : K → (p : Ptr) (h : Val) (a : heap.the_row.Denot) (v : Option Kept)
      → Step K 𝓛 (‵ (handle.the_row.own_val (record { at = p; alloc = a; value = v }) (both (ptr_val p) h ∷ [])) ∷ Γ) G (‵ (handle_owns a p v) ∷ ‵ (heap.the_row.own_val a (h ∷ [])) ∷ Γ) G
  handle_in t p h a v = step (λ s.
      nothing t $ move t (2 ∷ 0 ∷ []) $ fjoin t $ feq_i t (List Val) (ptr_val p ∷ []) (ptr_val p ∷ []) refl $ fjoin t $ feq_i t (List Val) (both (ptr_val p) h ∷ []) (both (ptr_val p) h ∷ []) refl $ fjoin t $
      fpack t (Valss (RawPtr ∷ heap.the_row ∷ [])) (within (shape handle.the_type) (to handle.the_type (record { at = p; alloc = a; value = v })) (both (ptr_val p) h ∷ [])) (ptr_val p ∷ [], (h ∷ [], tt)) $ fjoin t $ s)
