-- `move_run` hands `copy_nonoverlapping` a run of values and a run of room, and puts both back. Assumes `Logic`.
use mathlib.Core.Path.{◌≡◌, refl, sym, ap, subst, ◌∙◌}
use Prim.Native.Nat.{ℕ, ◌+◌, ◌*◌, ◌<◌, ◌≤◌, ◌^◌}
use native.Mathlib.Omega.{arith}
use mathlib.Core.List.{List, [], ◌∷◌, ◌++◌, map}
use lib.Dec.{T}
use lib.ListN.{length, take, replicate, length-take, length-drop, length-append, length-replicate}
use lib.ListN.{drop as drop_l}
use seplogic.Ra.Ura.{Ura}
use base.Fraction.{full_share}
use mir.Syntax.{Fn, named, w64, ty_unit, ty_array}
use mir.MapTy.{inst_fn}
use mir.Val.{Val, vptr, vint, vunit, has_ty, WT}
use base.Logic.{SProp, ent, never, id⊢}
use base.Fml.{Lft, Share, ftrue, fat, froom, flft, fobs, fbor}
use prog.Memory.{Memory}
use prog.Routine.{Routine}
use prog.Wp.{Env, Calls, Loops, WpFn, Tables}
use types.Logic.{Logic}
use contract.BorrowLft.{◌⊑◌}
use contract.Monad.{Fun, fact}
use contract.Running.{tables, tables_of}
use sound.WpLaws.{FmC, fm_of, WpFn-mono}
use types.Kit.{Item, ⋆, ‵, raw, ◌⊛◌, given, later, await, learn, at_ret, ◌$◌, ◌∵◌, !, qed, by, move, keep, use1, use2, use3, split, split3, join, rewrite, fsplit, fsplit3, fjoin, fjoin3, feq_i, feq_l, flt_i, flt_l, suffices, frame, done}
use types.Part.{whole, sub}
use types.Run.{stop, fld, bin, size_word, unit_lit, of_opd, and_then, no_more, first, blocks, exec, returns, enter}
use types.ByLocal.{alloc_all, pass_all, free_all, look_at, get, get_in, take_at, give_at, is, sets, lands_last, env}
use types.SemTy.{Body as Borrowed}
use denote.Exit.{yes, no}
use denote.RattleType.{owns}
use denote.Memory.{mem, part_at}
use denote.Array.{Array}
use denote.Index.{row}
use denote.Param.{layout}
use denote.RawPtr.{Ptr, in_a_block}
use denote.Ref.{MutBor, MutRef}
use denote.Builtin.{usize}
use denote.Signature.{plain}
use denote.Steps.{nothing, heard, opens, closes}
use denote.Triple.Call.{calls_at_last}
use denote.Triple.Clauses.{Clauses, Ended, closing}
use denote.Triple.Spec.{Meets, triple_of}
use denote.Triple.Statement.{Triple}
use denote.Triple.Table.{entered}
use denote.Triple.Walked.{Stays, stay_dropped, stay_ref, walk_of, ends_at, Goes-dropped, Goes-ref, walk_Meets}
use Rattle.std.specs.Prelude.{Some, None}
use Rattle.std.proofs.lemmas.List.{length-map}
use Rattle.std.proofs.VecSteps.Shapes.{after}
use Rattle.std.proofs.RcSteps.{word, word-Good}
use Rattle.std.proofs.mem.Param.{El, R, args, elτ}
use Rattle.std.proofs.ptr.Rows as arrays
use Rattle.std.proofs.alloc.Moves.{copy_key, Copies, at_copies, Copies-goes, Copies-gives}
use Rattle.std.proofs.ptr.copy_nonoverlapping.Met as callee
use Rattle.sota_bank.specs.Places.{IsRun, spliced}
use Rattle.sota_bank.specs.Ownership.{slots, cells_own}
use Rattle.sota_bank.proofs.Blocks.{uncapped}
use Rattle.sota_bank.proofs.Memory.{Cr, Bs, sz, Place, number_had, place_had, says_both, Around, run_out, run_in, to_row, of_row, of_room, to_room}
use Rattle.sota_bank.specs.contracts.cells.Cells.move_run as F
use Rattle.sota_bank.specs.contracts.cells.Cells.move_run.Key.{name as #self}
use Rattle.sota_bank.proofs.cells.Cells.move_run.Statement as stated
use Rattle.sota_bank.proofs.cells.Cells.move_run.Code as code

pub spliced_long : {X : Type 0} (cs ds : List X) (from len : ℕ) → from + len ≤ length cs → length ds ≡ len → length (take from cs ++ (ds ++ drop_l (from + len) cs)) ≡ length cs
spliced_long cs ds from len within long =
    let rest = drop_l (from + len) cs in
    omega (arith, length-append (take from cs) (ds ++ rest), length-append ds rest, length-take from cs, length-drop (from + len) cs)

module _ (E : El) where
  abbrev function : Fn
  function = inst_fn (args E) code.function

  abbrev ended : Ended
  ended = F.ended E.row

  abbrev stayed : Stays ended.signature.params ended.kept
  stayed = (stay_ref (0 ∷ []) tt (plain (λ _. Cr E)), (stay_dropped (plain (λ _. Bs E)) no, (stay_dropped (plain (λ _. usize)) yes, (stay_ref (1 ∷ []) tt (plain (λ _. Cr E)), (stay_dropped (plain (λ _. Bs E)) no, (stay_dropped (plain (λ _. usize)) yes, (stay_dropped (plain (λ _. usize)) yes, tt)))))))

  abbrev Asks : (Cr E).Denot → (Bs E).Denot → ℕ → (Cr E).Denot → (Bs E).Denot → ℕ → ℕ → Type 0
  Asks d base from e base' to len = (base.ptr ≡ d.at) × IsRun d.slots from len × (base'.ptr ≡ e.at) × (to + len ≤ length e.slots)

  abbrev clauses : {M : Type 1} {𝓤 : Ura M} (𝓛 : Logic 𝓤) → (Memory → SProp 𝓤) → (Routine → Fun 𝓤) → Clauses 𝓤 ended
  clauses 𝓛 = F.clauses E.row 𝓛

module _ (E : El) {M : Type 1} {𝓤 : Ura M} (𝓛 : Logic 𝓤) (at_mem : Memory → SProp 𝓤) (run : Routine → Fun 𝓤) (C : Calls 𝓤 𝓛.H) (Λ : Loops 𝓤 𝓛.H) (fm : FmC 𝓤 𝓛.H 𝓛.laws C)
    (copies : Triple 𝓤 (C (copy_key E.row)) (Copies E.row 𝓛 at_mem run)) (z : (walk_of 𝓛 (ended E) (stayed E) (clauses E 𝓛 at_mem run)).Ghost) where
  open 𝓛 use {H, A}

  abbrev κ₀ : Lft
  κ₀ = z.0.0.0

  abbrev κ₁ : Lft
  κ₁ = z.0.0.1.0

  abbrev κ₂ : Lft
  κ₂ = z.0.0.1.1.0

  abbrev q₀ : Share
  q₀ = z.0.1.0

  abbrev q₁ : Share
  q₁ = z.0.1.1.0

  abbrev q₂ : Share
  q₂ = z.0.1.1.1.0

  abbrev self : MutBor (Cr E).Denot
  self = z.0.3.0

  abbrev start : (Bs E).Denot
  start = z.0.3.1.0

  abbrev from : ℕ
  from = z.0.3.1.1.0

  abbrev other : MutBor (Cr E).Denot
  other = z.0.3.1.1.1.0

  abbrev other_start : (Bs E).Denot
  other_start = z.0.3.1.1.1.1.0

  abbrev to : ℕ
  to = z.0.3.1.1.1.1.1.0

  abbrev len : ℕ
  len = z.0.3.1.1.1.1.1.1.0

  abbrev us0 : List Val
  us0 = z.0.4.0

  abbrev us3 : List Val
  us3 = z.0.4.1.1.1.0

  abbrev d : (Cr E).Denot
  d = self.now

  abbrev e : (Cr E).Denot
  e = other.now

  abbrev rb : ℕ
  rb = self.ref_ptr.0

  abbrev ro : ℕ
  ro = self.ref_ptr.1

  abbrev sb : ℕ
  sb = other.ref_ptr.0

  abbrev so : ℕ
  so = other.ref_ptr.1

  abbrev Post : Val → SProp 𝓤
  Post = (walk_of 𝓛 (ended E) (stayed E) (clauses E 𝓛 at_mem run)).post z

  abbrev moved : List (Place E)
  moved = take len (drop_l from d.slots)

  abbrev new : (Cr E).Denot
  new = record { mark = d.mark; at = d.at; slots = spliced d.slots from len (replicate len None) }

  abbrev filled : (Cr E).Denot
  filled = record { mark = e.mark; at = e.at; slots = spliced e.slots to len moved }

  exits : us0 ≡ vptr rb ro ∷ [] → us3 ≡ vptr sb so ∷ []
      → ent 𝓤 (⋆ 𝓛 (‵ (fobs self.ghost_name ((Cr E).coded.code new)) ∷ ‵ (fbor κ₀ (Borrowed (mem (Cr E)) rb ro self.ghost_name)) ∷ ‵ (fobs other.ghost_name ((Cr E).coded.code filled)) ∷ ‵ (fbor κ₁ (Borrowed (mem (Cr E)) sb so other.ghost_name)) ∷ ‵ (flft κ₀ q₀) ∷ ‵ (flft κ₁ q₁) ∷ ‵ (flft κ₂ q₂) ∷ [])) (Post vunit)
  exits passed passed' =
      qed 𝓛 (‵ (fobs self.ghost_name ((Cr E).coded.code new)) ∷ ‵ (fbor κ₀ (Borrowed (mem (Cr E)) rb ro self.ghost_name)) ∷ ‵ (fobs other.ghost_name ((Cr E).coded.code filled)) ∷ ‵ (fbor κ₁ (Borrowed (mem (Cr E)) sb so other.ghost_name)) ∷ ‵ (flft κ₀ q₀) ∷ ‵ (flft κ₁ q₁) ∷ ‵ (flft κ₂ q₂) ∷ []) ∵
      suffices ! _ (ends_at 𝓛 (ended E) (stayed E) (clauses E 𝓛 at_mem run) z vunit tt (new, (tt, (tt, (filled, (tt, (tt, (tt, tt))))))) (tt, (tt, (tt, (tt, (tt, (tt, (tt, tt)))))))) $ says_both ! (refl, refl) (refl, refl) $
      nothing ! $ move ! (7 ∷ 0 ∷ []) $ join ! $ move ! (6 ∷ 0 ∷ []) $ join ! $ move ! (5 ∷ 0 ∷ []) $ join ! $ frame ! $
      feq_i ! (List Val) us0 (vptr rb ro ∷ []) passed $ fjoin3 ! $ move ! (1 ∷ 2 ∷ []) $ feq_i ! (List Val) us3 (vptr sb so ∷ []) passed' $ fjoin3 ! $
      nothing ! $ nothing ! $ fjoin ! $ nothing ! $ fjoin ! $ nothing ! $ fjoin ! $ move ! (1 ∷ 0 ∷ []) $ fjoin ! $ nothing ! $ fjoin ! $ nothing ! $ fjoin ! $ move ! (1 ∷ 0 ∷ []) $ fjoin ! $
      feq_i ! (List Val) (vunit ∷ []) (vunit ∷ []) refl $ move ! (1 ∷ 0 ∷ []) $ done !

  abbrev Had : List (Item 𝓤)
  Had = ‵ (fobs self.ghost_name ((Cr E).coded.code d)) ∷ ‵ (fbor κ₀ (Borrowed (mem (Cr E)) rb ro self.ghost_name)) ∷ ‵ (fobs other.ghost_name ((Cr E).coded.code e)) ∷ ‵ (fbor κ₁ (Borrowed (mem (Cr E)) sb so other.ghost_name)) ∷ (‵ (flft κ₀ q₀) ⊛ ‵ (flft κ₁ q₁) ⊛ ‵ (flft κ₂ q₂) ⊛ ‵ ftrue) ∷ []

  walk : us0 ≡ vptr rb ro ∷ [] → us3 ≡ vptr sb so ∷ [] → κ₂ ⊑ E.row.lives → Asks E d start from e other_start to len → from < 2 ^ 64 → to < 2 ^ 64 → len < 2 ^ 64
      → ent 𝓤 (⋆ 𝓛 Had) (WpFn 𝓤 H C Λ (function E) (vptr rb ro ∷ word start.ptr ∷ vint w64 from ∷ vptr sb so ∷ word other_start.ptr ∷ vint w64 to ∷ vint w64 len ∷ []) Post)
  walk passed passed' lives asked fits_from fits_to fits_len =
      let within = asked.1.0 in let xs = asked.1.1.0 in let there = asked.1.1.1 in let room = asked.3 in
      let long : length xs ≡ len = omega (arith, ap length there, length-map xs Some, length-take len (drop_l from d.slots), length-drop from d.slots) in
      let long' : length (take len (drop_l to e.slots)) ≡ len = omega (arith, length-take len (drop_l to e.slots), length-drop to e.slots) in
      let E' : arrays.El = record { row = E.row; laws = E.laws } in
      qed 𝓛 Had ∵ enter ! C Λ (function E) (vptr rb ro ∷ word start.ptr ∷ vint w64 from ∷ vptr sb so ∷ word other_start.ptr ∷ vint w64 to ∷ vint w64 len ∷ []) _ $
      alloc_all ! (λ l. pass_all ! refl ((tt, tt), (word-Good [] start.ptr, ((tt, record { fits = fits_from }), ((tt, tt), (word-Good [] other_start.ptr, ((tt, record { fits = fits_to }), ((tt, record { fits = fits_len }), tt))))))) $
      let En : Env 𝓤 H = env (function E).locals l in
      move ! (4 ∷ []) $ split3 ! $ move ! (2 ∷ []) $ split ! $ move ! (4 ∷ 5 ∷ 2 ∷ []) $
      -- [self's name and borrow; the token of κ₀; of κ₂; nothing; of κ₁; other's name and borrow]
      opens ! tt (Cr E) {h = d} rb ro (λ vs. move ! (1 ∷ []) $ fsplit ! $ move ! (1 ∷ []) $
      in_a_block ! d.at (λ p. cells_own (R E) p d.slots) (id⊢ 𝓤 (never 𝓤)) (λ b o at_b. fsplit ! $ flt_l ! (λ small.
      -- [self's places; its mark; its cell; the open borrow; obs; auth; the token of κ₂; nothing; of κ₁; other's name and borrow]
      move ! (9 ∷ 10 ∷ 8 ∷ []) $
      opens ! tt (Cr E) {h = e} sb so (λ vs'. move ! (1 ∷ []) $ fsplit ! $ move ! (1 ∷ []) $
      in_a_block ! e.at (λ p. cells_own (R E) p e.slots) (id⊢ 𝓤 (never 𝓤)) (λ b' o' at_b'. fsplit ! $ flt_l ! (λ small'.
      -- [other's places; mark; cell; open borrow; obs; auth; self's six; the token of κ₂; nothing]
      let s = sz E in
      let far : from * s < 2 ^ 64 = omega (arith, arrays.times_below from (length d.slots) s (2 ^ 63) (omega arith) small) in
      let far' : to * s < 2 ^ 64 = omega (arith, arrays.times_below to (length e.slots) s (2 ^ 63) (omega arith) small') in
      let wide : len * s < 2 ^ 63 = arrays.times_below len (length d.slots) s (2 ^ 63) (omega arith) small in
      let src = from * s + o in let dst = to * s + o' in
      take_at ! 2 $ rewrite ! 0 (λ (p : Ptr). ‵ (fat full_share (layout (Bs E)) (l 2) 0 (word p))) (asked.0 ∙ at_b) refl $ give_at ! 2 $
      take_at ! 5 $ rewrite ! 0 (λ (p : Ptr). ‵ (fat full_share (layout (Bs E)) (l 5) 0 (word p))) (asked.2 ∙ at_b') refl $ give_at ! 5 $ first ! $ blocks ! $
      sets ! (is ! (bin ! (get ! refl) (size_word !) (record { fits = subst (λ (k : ℕ). k < 2 ^ 64) (sym (uncapped from s far)) far })) (ap (vint w64) (uncapped from s far))) refl (tt, record { fits = far }) $
      sets ! (bin ! (get_in ! (fld ! refl (stop !)) (sub ! 0 refl (whole !))) (get ! refl) tt) refl (tt, tt) $
      sets ! (is ! (bin ! (get ! refl) (size_word !) (record { fits = subst (λ (k : ℕ). k < 2 ^ 64) (sym (uncapped to s far')) far' })) (ap (vint w64) (uncapped to s far'))) refl (tt, record { fits = far' }) $
      sets ! (bin ! (get_in ! (fld ! refl (stop !)) (sub ! 0 refl (whole !))) (get ! refl) tt) refl (tt, tt) $
      use1 𝓛 (‵ (slots (R E) b' dst (take len (drop_l to e.slots))) ⊛ ‵ (Around E 𝓛 b' o' e.slots to len)) (run_out E 𝓛 b' o' e.slots to len room) $ split ! $
      use1 𝓛 (‵ (froom (ty_array (elτ E) (length (take len (drop_l to e.slots)))) b' dst)) (to_room E 𝓛 b' (take len (drop_l to e.slots)) dst) $
      rewrite ! 0 (λ (k : ℕ). ‵ (froom (ty_array (elτ E) k) b' dst)) long' refl $ move ! (7 ∷ []) $
      use1 𝓛 (‵ (slots (R E) b src moved) ⊛ ‵ (Around E 𝓛 b o d.slots from len)) (run_out E 𝓛 b o d.slots from len within) $ split ! $
      rewrite ! 0 (λ (cs : List (Place E)). ‵ (slots (R E) b src cs)) there refl $ use1 𝓛 (‵ (row (R E) full_share xs b src)) (to_row E 𝓛 b xs src) $
      use1 𝓛 (‵ (part_at (Array (R E) len) full_share xs b src)) (arrays.whole E' 𝓛 full_share len xs b src long) $ move ! (0 ∷ 2 ∷ 14 ∷ []) $
      -- [the values; the room; the token of κ₂; what is round self's run; round other's; other's five; self's five; nothing]
      let y = at_copies E.row 𝓛 at_mem run κ₂ q₂ b src b' dst len xs in
      use3 𝓛 (raw ((Copies E.row 𝓛 at_mem run).pre y)) (Copies-goes E.row 𝓛 at_mem run κ₂ q₂ b src b' dst len xs lives fits_len wide) $
      calls_at_last ! fm (Copies E.row 𝓛 at_mem run) copies y (and_then ! (get ! refl) (and_then ! (get ! refl) (and_then ! (get ! refl) (no_more !)))) (λ v.
      use1 𝓛 (later (given (v ≡ vunit) (‵ (part_at (Array (R E) len) full_share xs b' dst) ⊛ ‵ (froom (ty_array (elτ E) len) b src) ⊛ ‵ (flft κ₂ q₂)))) (Copies-gives E.row 𝓛 at_mem run κ₂ q₂ b src b' dst len xs v) $
      await ! tt $ learn ! (λ done_with. split3 ! $
      lands_last ! refl (subst (λ (u : Val). T (has_ty ty_unit u) × WT u) (sym done_with) (tt, tt)) $ exec ! C Λ En (after 1 (function E).body) (at_ret En Post) $
      sets ! (of_opd ! (unit_lit !)) refl (tt, tt) $
      use1 𝓛 (given (length xs ≡ len) (‵ (row (R E) full_share xs b' dst))) (arrays.apart E' 𝓛 full_share len xs b' dst) $ learn ! (λ _.
      use1 𝓛 (‵ (slots (R E) b' dst (map Some xs))) (of_row E 𝓛 b' xs dst) $ rewrite ! 0 (λ (cs : List (Place E)). ‵ (slots (R E) b' dst cs)) (sym there) refl $ move ! (0 ∷ 4 ∷ []) $
      use2 𝓛 (‵ (slots (R E) b' o' filled.slots)) (run_in E 𝓛 b' o' e.slots to len room moved (sym (ap length there ∙ length-map xs Some ∙ long))) $
      flt_i ! (length filled.slots * s) (2 ^ 63) (subst (λ k. k * s < 2 ^ 63) (sym (spliced_long e.slots moved to len room (ap length there ∙ length-map xs Some ∙ long))) small') $ fjoin ! $
      rewrite ! 0 (λ (p : Ptr). ‵ (cells_own (R E) p filled.slots)) (sym at_b') refl $
      -- [other's places; the room; the token of κ₂; what is round self's run; other's five; self's five; nothing]
      move ! (4 ∷ 0 ∷ []) $ fjoin ! $ move ! (4 ∷ 0 ∷ 5 ∷ 6 ∷ 7 ∷ []) $ closes ! tt (Cr E) filled vs' sb so $
      -- [other's name, borrow and token; the room; the token of κ₂; what is round self's run; self's five; nothing]
      move ! (3 ∷ []) $ use1 𝓛 (‵ (slots (R E) b src (replicate len None))) (of_room E 𝓛 b len src) $ move ! (0 ∷ 5 ∷ []) $
      use2 𝓛 (‵ (slots (R E) b o new.slots)) (run_in E 𝓛 b o d.slots from len within (replicate len None) (sym (length-replicate len None))) $
      flt_i ! (length new.slots * s) (2 ^ 63) (subst (λ k. k * s < 2 ^ 63) (sym (spliced_long d.slots (replicate len None) from len within (length-replicate len None))) small) $ fjoin ! $
      rewrite ! 0 (λ (p : Ptr). ‵ (cells_own (R E) p new.slots)) (sym at_b) refl $
      -- [self's places; other's name, borrow and token; the token of κ₂; self's five; nothing]
      move ! (5 ∷ 0 ∷ []) $ fjoin ! $ move ! (5 ∷ 0 ∷ 6 ∷ 7 ∷ 8 ∷ []) $ closes ! tt (Cr E) new vs rb ro $
      returns ! (look_at ! 0 refl) $ free_all ! refl $ keep ! (0 ∷ 1 ∷ 3 ∷ 4 ∷ 2 ∷ 5 ∷ 6 ∷ []) $ by ! (exits passed passed')))))))))))

  abbrev Words : Type 0
  Words = List Val × List Val × List Val × List Val × List Val × List Val × List Val

  entry : ent 𝓤 ((walk_of 𝓛 (ended E) (stayed E) (clauses E 𝓛 at_mem run)).pre z) (WpFn 𝓤 H C Λ (function E) ((walk_of 𝓛 (ended E) (stayed E) (clauses E 𝓛 at_mem run)).args z) Post)
  entry =
      let Ok = Asks E d start from e other_start to len in let us1 = z.0.4.1.0 in let us4 = z.0.4.1.1.1.1.0 in
      qed 𝓛 (((‵ (flft κ₀ q₀) ⊛ ‵ (flft κ₁ q₁) ⊛ ‵ (flft κ₂ q₂) ⊛ ‵ ftrue) ⊛ ‵ (owns (MutRef (named 0) κ₀ (Cr E) ∷ Bs E ∷ usize ∷ MutRef (named 1) κ₁ (Cr E) ∷ Bs E ∷ usize ∷ usize ∷ []) z.0.3 z.0.4)) ∷ (raw (fact 𝓤 (κ₂ ⊑ E.row.lives)) ⊛ raw (fact 𝓤 Ok)) ∷ []) ∵
      move ! (1 ∷ []) $ split ! $ heard ! (κ₂ ⊑ E.row.lives) (λ lives. heard ! Ok (λ asked. split ! $ move ! (1 ∷ []) $
      fsplit ! $ fsplit3 ! $ feq_l ! (λ e0. move ! (2 ∷ []) $
      place_had ! E (MutRef (named 1) κ₁ (Cr E) ∷ Bs E ∷ usize ∷ usize ∷ []) start from z.0.3.1.1.1 us1 z.0.4.1.1.0 z.0.4.1.1.1 (λ e1 e2 fits_from.
      fsplit ! $ fsplit3 ! $ feq_l ! (λ e3. move ! (2 ∷ []) $
      place_had ! E (usize ∷ []) other_start to (len, tt) us4 z.0.4.1.1.1.1.1.0 z.0.4.1.1.1.1.1.1 (λ e4 e5 fits_to. number_had ! [] len tt z.0.4.1.1.1.1.1.1.0 tt (λ e6 fits_len.
      keep ! (3 ∷ 4 ∷ 1 ∷ 2 ∷ 5 ∷ []) $
      by ! (subst (λ (ws : Words). ent 𝓤 (⋆ 𝓛 Had) (WpFn 𝓤 H C Λ (function E) (ws.0 ++ (ws.1 ++ (ws.2 ++ (ws.3 ++ (ws.4 ++ (ws.5 ++ (ws.6 ++ []))))))) Post)) (λ j. (sym e0 j, sym e1 j, sym e2 j, sym e3 j, sym e4 j, sym e5 j, sym e6 j))
      (walk e0 e3 lives asked fits_from fits_to fits_len)))))))))

meets : (E : El) {M : Type 1} {𝓤 : Ura M} (𝓛 : Logic 𝓤) (at_mem : Memory → SProp 𝓤) (run : Routine → Fun 𝓤) (𝓣 : Tables 𝓤 𝓛.H) → Triple 𝓤 (𝓣.C (copy_key E.row)) (Copies E.row 𝓛 at_mem run)
    → Meets 𝓛 (ended E).signature (WpFn 𝓤 𝓛.H 𝓣.C 𝓣.Λ (function E)) (closing 𝓛 (ended E) (clauses E 𝓛 at_mem run))
meets E {𝓤 = 𝓤} 𝓛 at_mem run 𝓣 copies =
    let number = Goes-dropped 𝓛 3 (plain (λ _. usize)) yes (λ κs x f. refl) in let start = Goes-dropped 𝓛 3 (plain (λ _. Bs E)) no (λ κs x f. refl) in
    walk_Meets 𝓛 (ended E) (stayed E) (Goes-ref 𝓛 3 0 tt (plain (λ _. Cr E)), (start, (number, (Goes-ref 𝓛 3 1 tt (plain (λ _. Cr E)), (start, (number, (number, tt)))))))
    (clauses E 𝓛 at_mem run) (WpFn 𝓤 𝓛.H 𝓣.C 𝓣.Λ (function E)) (WpFn-mono 𝓤 𝓛.H 𝓛.laws 𝓣 (function E))
    (entry E 𝓛 at_mem run 𝓣.C 𝓣.Λ (fm_of 𝓤 𝓛.H 𝓛.laws 𝓣) copies)

pub move_run_spec : {M : Type 1} → stated.statement M
unfolding tables_of
move_run_spec 𝓤 𝓛 𝓜 𝓡 wired X LX =
    let E : El = record { row = X; laws = LX } in
    let 𝓣 : Tables 𝓤 𝓛.H = tables_of 𝓤 𝓛.H 𝓜 (tables 𝓤 𝓛.H 𝓜 𝓡 𝓡.env) in
    entered 𝓤 𝓛.H (triple_of 𝓛 (F.signature X) (F.spec X 𝓛 𝓜.mem 𝓡.returns)) 𝓣.C 𝓣.Λ (#self (args E)) (function E) (code.unfolded 𝓤 𝓛.H 𝓜 𝓡 wired (X, tt))
    (meets E 𝓛 𝓜.mem 𝓡.returns 𝓣 (callee.met 𝓤 𝓛 𝓜 𝓡 (code.calls-std::ptr::copy_nonoverlapping 𝓡.env wired) X LX))
