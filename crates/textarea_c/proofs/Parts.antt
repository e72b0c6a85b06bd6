-- A `Loose` and a `Held` as their machine values and what they own. Assumes `Logic`.
use Rattle.std.proofs.Common.{◌≡◌, ℕ, List, [], ◌∷◌, ◌++◌, refl, subst, true, ◌&&◌}
use Rattle.std.proofs.lemmas.Bool.{false≢true}
use lib.Dec.{T}
use seplogic.Ra.Ura.{Ura}
use mir.Syntax.{impl, tnil, dnil}
use mir.Raw.{raw as bare}
use mir.Val.{Val, vptr, vstruct, vcons, vnil, of_list, has_ty, WT}
use base.Fml.{Fml, fsep}
use base.Logic.{never, fst∗}
use types.Logic.{Logic, sem}
use types.Kit.{Item, Goal, Seq, Step, step, ‵, ◌$◌, move, drop, rewrite, fsplit, fjoin, fpick, fpack, feq_i, feq_l}
use denote.RattleType.{RattleType, Valss}
use denote.Builtin.{RawPtr}
use denote.Memory.{lone}
use denote.RawPtr.{Ptr, block_ptr, null_ptr, ptr_val, in_a_block}
use denote.Steps.{nothing}
use denote.Param.{layout}
use denote.Param.Laws.{Laws}
use denote.Struct.Struct.{Struct, within}
use denote.Struct.Owning.{shape}
use Rattle.std.specs.declared.alloc.Allocator.{Ghosts}
use Rattle.std.proofs.alloc.Calls.{Al, handle_tells}
use Rattle.std.proofs.cell.Inside.{Good}
use Rattle.std.specs.Box.Ownership.{box_owns}
use Rattle.std.proofs.ResultValues.{and_tt}
use Rattle.std.specs.contracts.alloc.Global.{the_row as Global}
use Rattle.std.proofs.alloc.Global.TheLaws.{the_row_laws as global_laws}
use Rattle.std.specs.contracts.impls.GlobalAllocator.TheImpl.{ghosts}
use Rattle.textarea_c.specs.contracts.editor.Editor.{the_row as editor}
use Rattle.std.specs.Prelude.{Option, Some, None, IsSome}
use Rattle.textarea_c.specs.Held.{owns_content}
use Rattle.textarea_c.specs.contracts.loose.Loose as loose
use Rattle.textarea_c.specs.contracts.stored.Held as stored
use Rattle.textarea_c.specs.contracts.stored.HeldTerminal as stored_terminal
use Rattle.textarea_c.specs.contracts.terminal.Terminal.{the_row as terminal}

-- a pointer beside an allocator's handle
abbrev pub word : ℕ → ℕ → Val → Val
word b o h = vstruct (vcons (vptr b o) (vcons h vnil))

module _ (R Z : RattleType) (L : Laws Z) (g : Ghosts Z.Denot) where
  abbrev pub Loose : RattleType
  Loose = loose.the_row R Z g

  -- the allocator alone: no method of it is called
  abbrev handle : Al
  handle = record { row = Z; laws = L; g = g; d = impl [] tnil dnil; drops = impl [] tnil dnil }

  pub word_good : (b o : ℕ) (h : Val) → Good (layout Z) h → T (has_ty (layout Z) h && true) × WT (word b o h)
  word_good b o h fits = (and_tt (has_ty (layout Z) h) fits.0, (tt, (fits.1, tt)))

  module _ {M : Type 1} {𝓤 : Ura M} {𝓛 : Logic 𝓤} {K : Type 0} {Γ : List (Item 𝓤)} {G : Goal 𝓤 𝓛.H} where
    -- what it owns is the value with its block, and the handle
    pub loose_out : K → (d : Loose.Denot) (vs : List Val)
        → ((b o : ℕ) (h : Val) → d.at ≡ block_ptr b o → vs ≡ word b o h ∷ [] → Good (layout Z) h → Seq K 𝓛 (‵ (box_owns (g.dealloc_token d.alloc) R (block_ptr b o) d.value) ∷ ‵ (Z.own_val d.alloc (h ∷ [])) ∷ Γ) G)
        → Seq K 𝓛 (‵ (Loose.own_val d vs) ∷ Γ) G
    loose_out t d vs k =
        fsplit t $ fpick t (λ vss. fsplit t $ feq_l t (λ whole. fsplit t $ feq_l t (λ at. fsplit t $ handle_tells handle t d.alloc vss.1.0 (λ h single fits. move t (1 ∷ []) $ drop t $ move t (1 ∷ []) $
        in_a_block t d.at (λ p. box_owns (g.dealloc_token d.alloc) R p d.value) (fst∗ 𝓤 (never 𝓤) (sem 𝓛 (g.dealloc_token d.alloc (bare (lone R.mir)) null_ptr))) (λ b o e. k b o h e
        (subst (λ (p : Ptr). vs ≡ vstruct (of_list (ptr_val p ∷ h ∷ [])) ∷ []) e
        (subst (λ (ws : List Val). vs ≡ vstruct (of_list (ptr_val d.at ∷ (ws ++ []))) ∷ []) single
        (subst (λ (ps : List Val). vs ≡ vstruct (of_list (ps ++ (vss.1.0 ++ []))) ∷ []) at whole))) fits)))))

    -- a struct of a pointer and an allocator's handle, which owns something beside the handle
    pub word_in : K → (p : Ptr) (h : Val) (a : Z.Denot) (F : Fml)
        → Step K 𝓛 (‵ (fsep ((Struct (shape (loose.the_type R Z g))).own_val (p, (a, tt)) (vstruct (vcons (ptr_val p) (vcons h vnil)) ∷ [])) F) ∷ Γ) G (‵ F ∷ ‵ (Z.own_val a (h ∷ [])) ∷ Γ) G
    word_in t p h a F = step (λ s. let w : Val = vstruct (vcons (ptr_val p) (vcons h vnil)) in
        nothing t $ move t (2 ∷ 0 ∷ []) $ fjoin t $ feq_i t (List Val) (ptr_val p ∷ []) (ptr_val p ∷ []) refl $ fjoin t $ feq_i t (List Val) (w ∷ []) (w ∷ []) refl $ fjoin t $
        fpack t (Valss (RawPtr ∷ Z ∷ [])) (within (shape (loose.the_type R Z g)) (p, (a, tt)) (w ∷ [])) (ptr_val p ∷ [], (h ∷ [], tt)) $ fjoin t $ s)

    -- and back
    pub loose_in : K → (b o : ℕ) (h : Val) (a : Z.Denot) (x : R.Denot)
        → Step K 𝓛 (‵ (Loose.own_val (record { at = block_ptr b o; alloc = a; value = x }) (word b o h ∷ [])) ∷ Γ) G (‵ (box_owns (g.dealloc_token a) R (block_ptr b o) x) ∷ ‵ (Z.own_val a (h ∷ [])) ∷ Γ) G
    loose_in t b o h a x = word_in t (block_ptr b o) h a (box_owns (g.dealloc_token a) R (block_ptr b o) x)

-- ---- the same at a text area, as C holds it
abbrev pub heap : Ghosts Global.Denot
heap = ghosts

abbrev pub global : Al
global = record { row = Global; laws = global_laws; g = heap; d = impl [] tnil dnil; drops = impl [] tnil dnil }

-- what is there, where something is
abbrev pub content_of : {X : Type 0} (o : Option X) → IsSome o → X
content_of (Some x) p = x
content_of None p = absurd (false≢true p)

pub content_is : {X : Type 0} (o : Option X) (p : IsSome o) → o ≡ Some (content_of o p)
content_is (Some x) p = refl
content_is None p = absurd (false≢true p)

module _ {M : Type 1} {𝓤 : Ura M} {𝓛 : Logic 𝓤} {K : Type 0} {Γ : List (Item 𝓤)} {G : Goal 𝓤 𝓛.H} where
  -- where it holds a text area, that with its block, and the handle
  pub held_out : K → (d : stored.the_row.Denot) (vs : List Val) (x : editor.Denot) → d.content ≡ Some x
      → ((b o : ℕ) (h : Val) → d.at ≡ block_ptr b o → vs ≡ word b o h ∷ [] → Good (layout Global) h → Seq K 𝓛 (‵ (box_owns (heap.dealloc_token d.alloc) editor (block_ptr b o) x) ∷ ‵ (Global.own_val d.alloc (h ∷ [])) ∷ Γ) G)
      → Seq K 𝓛 (‵ (stored.the_row.own_val d vs) ∷ Γ) G
  held_out t d vs x full k =
      rewrite t 0 (λ (o : Option editor.Denot). ‵ (stored.the_row.own_val (record { at = d.at; alloc = d.alloc; content = o }) vs)) full refl $
      loose_out editor Global global_laws heap t (record { at = d.at; alloc = d.alloc; value = x }) vs k

  pub held_in : K → (p : Ptr) (h : Val) (a : Global.Denot) (o : Option editor.Denot)
      → Step K 𝓛 (‵ (stored.the_row.own_val (record { at = p; alloc = a; content = o }) (vstruct (vcons (ptr_val p) (vcons h vnil)) ∷ [])) ∷ Γ) G (‵ (owns_content a editor p o) ∷ ‵ (Global.own_val a (h ∷ [])) ∷ Γ) G
  held_in t p h a o = word_in editor Global global_laws heap t p h a (owns_content a editor p o)

  -- the same of a terminal
  pub terminal_out : K → (d : stored_terminal.the_row.Denot) (vs : List Val) (x : terminal.Denot) → d.content ≡ Some x
      → ((b o : ℕ) (h : Val) → d.at ≡ block_ptr b o → vs ≡ word b o h ∷ [] → Good (layout Global) h → Seq K 𝓛 (‵ (box_owns (heap.dealloc_token d.alloc) terminal (block_ptr b o) x) ∷ ‵ (Global.own_val d.alloc (h ∷ [])) ∷ Γ) G)
      → Seq K 𝓛 (‵ (stored_terminal.the_row.own_val d vs) ∷ Γ) G
  terminal_out t d vs x full k =
      rewrite t 0 (λ (o : Option terminal.Denot). ‵ (stored_terminal.the_row.own_val (record { at = d.at; alloc = d.alloc; content = o }) vs)) full refl $
      loose_out terminal Global global_laws heap t (record { at = d.at; alloc = d.alloc; value = x }) vs k

  pub terminal_in : K → (p : Ptr) (h : Val) (a : Global.Denot) (o : Option terminal.Denot)
      → Step K 𝓛 (‵ (stored_terminal.the_row.own_val (record { at = p; alloc = a; content = o }) (vstruct (vcons (ptr_val p) (vcons h vnil)) ∷ [])) ∷ Γ) G (‵ (owns_content a terminal p o) ∷ ‵ (Global.own_val a (h ∷ [])) ∷ Γ) G
  terminal_in t p h a o = word_in terminal Global global_laws heap t p h a (owns_content a terminal p o)
