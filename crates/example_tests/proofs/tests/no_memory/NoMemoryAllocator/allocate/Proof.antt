-- `allocate` returns `Err`.
use Rattle.std.proofs.Common.{Err, refl, w64}
use Rattle.std.specs.Prelude.{ℕ, ◌^◌, ◌<◌, false, [], ◌∷◌}
use seplogic.Ra.Ura.{Ura}
use mir.Syntax.{Ty}
use mir.Val.{Val, vint, vptr}
use base.Logic.{SProp, ent}
use base.Fml.{Lft, Share, ftrue, flft}
use prog.Memory.{Memory}
use prog.Routine.{Routine}
use prog.Wp.{Calls, Loops, WpFn, Tables}
use types.Logic.{Logic}
use contract.Monad.{Fun}
use contract.Running.{tables, tables_of}
use sound.WpLaws.{FmC, fm_of, WpFn-mono}
use types.Kit.{‵, raw, ◌⊛◌, ◌$◌, ◌∵◌, !, qed, move, keep, use0, join, split, fjoin, suffices, done}
use types.Part.{agg}
use types.Run.{lit, no_more, and_then, returns, enter}
use types.ByLocal.{alloc_all, pass_all, free_all, look_at, get, sets}
use denote.RattleType.{owns}
use denote.Exit.{yes}
use denote.Builtin.{usize, RefOf}
use denote.Plain.{uint_vals, uint_Tells}
use denote.Signature.{plain}
use denote.Steps.{nothing}
use denote.Triple.Spec.{triple_of}
use denote.Triple.Table.{entered}
use denote.Triple.Walked.{Stays, stay_dropped, walk_of, ends_at, walked, Goes-dropped, walk_Meets}
use Rattle.std.proofs.alloc.Calls.{Answer, answer_val, Answer-typed, Answer-err}
use Rattle.example_tests.specs.contracts.tests.no_memory.NoMemory as BP
use denote.Signature.{type_at, types_at}
use Rattle.example_tests.specs.contracts.tests.no_memory.NoMemoryAllocator.allocate as F
use Rattle.example_tests.specs.contracts.tests.no_memory.NoMemoryAllocator.allocate.Key.{name as #self}
use Rattle.example_tests.proofs.tests.no_memory.NoMemoryAllocator.allocate.Statement as stated
use Rattle.example_tests.proofs.tests.no_memory.NoMemoryAllocator.allocate.Code as code

abbrev stayed : Stays (F.ended).signature.params (F.ended).kept
stayed = (stay_dropped (RefOf (0 ∷ []) tt (plain (λ _. BP.the_row)) (λ _. tt)) yes, (stay_dropped (plain (λ _. usize)) yes, (stay_dropped (plain (λ _. usize)) yes, tt)))

module _ {M : Type 1} {𝓤 : Ura M} (𝓛 : Logic 𝓤) (at_mem : Memory → SProp 𝓤) (run : Routine → Fun 𝓤) (C : Calls 𝓤 𝓛.H) (Λ : Loops 𝓤 𝓛.H) (fm : FmC 𝓤 𝓛.H 𝓛.laws C) where
  open 𝓛 use {H}

  abbrev Bound : Type 0
  Bound = (walk_of 𝓛 F.ended stayed (F.clauses 𝓛 at_mem run)).Ghost

  abbrev Pre : Bound → SProp 𝓤
  Pre = (walk_of 𝓛 F.ended stayed (F.clauses 𝓛 at_mem run)).pre

  abbrev Post : Bound → Val → SProp 𝓤
  Post = (walk_of 𝓛 F.ended stayed (F.clauses 𝓛 at_mem run)).post

  module _ (κ : Lft) (q : Share) (r : (type_at {n = 1} (RefOf (0 ∷ []) tt (plain (λ _. BP.the_row)) (λ _. tt)) (κ, tt)).Denot) (n a : ℕ) (τ : Ty) where
    abbrev bound : Bound
    bound = (((κ, tt), (q, tt), tt, (r, (n, (a, tt))), (vptr r.ref_ptr.0 r.ref_ptr.1 ∷ [], (vint w64 n ∷ [], (vint w64 a ∷ [], tt)))), τ)

    walk : n < 2 ^ 64 → a < 2 ^ 64 → ent 𝓤 (Pre bound) (WpFn 𝓤 H C Λ code.function (vptr r.ref_ptr.0 r.ref_ptr.1 ∷ vint w64 n ∷ vint w64 a ∷ []) (Post bound))
    walk fn fa =
        qed 𝓛 (((‵ (flft κ q) ⊛ ‵ ftrue) ⊛ ‵ (owns (types_at (F.signature).params (κ, tt)) bound.0.3 bound.0.4)) ∷ raw ((F.clauses 𝓛 at_mem run (κ, tt) bound.0.3).requires τ) ∷ []) ∵ split ! $ keep ! (0 ∷ []) $
        enter ! C Λ code.function (vptr r.ref_ptr.0 r.ref_ptr.1 ∷ vint w64 n ∷ vint w64 a ∷ []) _ $ alloc_all ! (λ l. pass_all ! refl ((tt, tt), ((tt, record { fits = fn }), ((tt, record { fits = fa }), tt))) $
        sets ! (agg ! (no_more !)) refl (tt, tt) $ sets ! (agg ! (and_then ! (lit ! tt) (and_then ! (get ! refl) (no_more !)))) refl (Answer-typed false 0 0) $ returns ! (look_at ! 0 refl) $ free_all ! refl $
        suffices ! _ (ends_at 𝓛 F.ended stayed (F.clauses 𝓛 at_mem run) bound (answer_val false 0 0) (Err (record {})) (tt, (tt, (tt, tt))) (tt, (tt, (tt, tt)))) $
        nothing ! $ use0 𝓛 (‵ (Answer.own_val (Err (record {})) (answer_val false 0 0 ∷ []))) (Answer-err 𝓛) $ nothing ! $ nothing ! $ fjoin ! $ nothing ! $ fjoin ! $ nothing ! $ fjoin ! $ join ! $ move ! (2 ∷ 0 ∷ []) $ join ! $ done !)

pub allocate_spec : {M : Type 1} → stated.statement M
unfolding tables_of
allocate_spec 𝓤 𝓛 𝓜 𝓡 wired =
    let A = 𝓛.A in
    let 𝓣 : Tables 𝓤 𝓛.H = tables_of 𝓤 𝓛.H 𝓜 (tables 𝓤 𝓛.H 𝓜 𝓡 𝓡.env) in
    let held = F.clauses 𝓛 𝓜.mem 𝓡.returns in
    entered 𝓤 𝓛.H (triple_of 𝓛 F.signature (F.spec 𝓛 𝓜.mem 𝓡.returns)) 𝓣.C 𝓣.Λ #self code.function (code.unfolded 𝓤 𝓛.H 𝓜 𝓡 wired)
    (walk_Meets 𝓛 F.ended stayed (Goes-dropped 𝓛 1 (RefOf (0 ∷ []) tt (plain (λ _. BP.the_row)) (λ _. tt)) yes (λ κs x f. refl), (Goes-dropped 𝓛 1 (plain (λ _. usize)) yes (λ κs x f. refl), (Goes-dropped 𝓛 1 (plain (λ _. usize)) yes (λ κs x f. refl), tt))) held (WpFn 𝓤 𝓛.H 𝓣.C 𝓣.Λ code.function) (WpFn-mono 𝓤 𝓛.H 𝓛.laws 𝓣 code.function)
    (walked 𝓛 F.ended stayed held (WpFn 𝓤 𝓛.H 𝓣.C 𝓣.Λ code.function) (λ κs. ((λ r. vptr r.ref_ptr.0 r.ref_ptr.1 ∷ []), (uint_vals w64, (uint_vals w64, tt)))) (λ κs. ((λ r vs s. s.0), (uint_Tells w64, (uint_Tells w64, tt))))
    (λ κs qs bounds a g are. walk 𝓛 𝓜.mem 𝓡.returns 𝓣.C 𝓣.Λ (fm_of 𝓤 𝓛.H 𝓛.laws 𝓣) κs.0 qs.0 a.0 a.1.0 a.1.1.0 g are.1.0.1 are.1.1.0.1)))
