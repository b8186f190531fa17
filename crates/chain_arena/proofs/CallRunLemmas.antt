-- Calls made one after another are a run.
use Rattle.std.proofs.Common.{◌≡◌, List, [], ◌∷◌, ◌++◌, length, refl, sym, ap, ◌∙◌, subst, arith, append_assoc, append-nil}
use Rattle.chain_arena.specs.Effects.{Links}
use Rattle.arena_core.specs.PointerKinds.{PointerKind}
use Rattle.chain_arena.specs.Steps.{Step, Run}
use Rattle.chain_arena.specs.declared.calls.Call.{Call}
use Rattle.chain_arena.specs.declared.calls.Reply.{Reply}

module _ {P T I Gen W : Type 0} (pointers : PointerKind P I Gen W) where
  pub run_more : (old between new : Links Gen T) (calls : List (Call P T I Gen W)) (replies : List (Reply P T I Gen W)) (call : Call P T I Gen W) (reply : Reply P T I Gen W)
      → Run pointers old calls replies between → Step pointers between call reply new
      → Run pointers old (calls ++ call ∷ []) (replies ++ reply ∷ []) new
  run_more old between new [] [] call reply run step = (new, subst (λ a. Step pointers a call reply new) run step, refl)
  run_more old between new [] (r ∷ replies) call reply run step = absurd run
  run_more old between new (c ∷ calls) [] call reply run step = absurd run
  run_more old between new (c ∷ calls) (r ∷ replies) call reply run step = (run.0, run.1, run_more run.0 between new calls replies call reply run.2 step)

  -- The calls made so far, with their replies, and the remaining ones.
  pub record IsUnderWay (old now : Links Gen T) (all left : List (Call P T I Gen W)) (replies : List (Reply P T I Gen W)) : Type 0 where
    pub made : List (Call P T I Gen W)
    pub calls : all ≡ made ++ left
    pub run : Run pointers old made replies now

  pub under_way_first : (old : Links Gen T) (all left : List (Call P T I Gen W)) (replies : List (Reply P T I Gen W)) → left ≡ all → replies ≡ [] → IsUnderWay old old all left replies
  under_way_first old all left replies same none = record { made = []; calls = sym same; run = subst (λ r. Run pointers old [] r old) (sym none) refl }

  pub under_way_more : (old between new : Links Gen T) (all left rest : List (Call P T I Gen W)) (replies more : List (Reply P T I Gen W)) (call : Call P T I Gen W) (reply : Reply P T I Gen W)
      → IsUnderWay old between all left replies → left ≡ call ∷ rest → Step pointers between call reply new → more ≡ replies ++ reply ∷ [] → IsUnderWay old new all rest more
  under_way_more old between new all left rest replies more call reply under_way next step is = record {
    made = under_way.made ++ call ∷ [];
    calls = under_way.calls ∙ (ap (λ l. under_way.made ++ l) next ∙ sym (append_assoc under_way.made (call ∷ []) rest));
    run = subst (λ r. Run pointers old (under_way.made ++ call ∷ []) r new) (sym is) (run_more old between new under_way.made replies call reply under_way.run step);
  }

  pub under_way_last : (old new : Links Gen T) (all left : List (Call P T I Gen W)) (replies : List (Reply P T I Gen W)) → IsUnderWay old new all left replies → length left ≡ 0 → Run pointers old all replies new
  under_way_last old new all left replies under_way none =
      subst (λ l. Run pointers old l replies new) (sym (under_way.calls ∙ (ap (λ l. under_way.made ++ l) (by left none) ∙ append-nil under_way.made))) under_way.run
    where
      by : (l : List (Call P T I Gen W)) → length l ≡ 0 → l ≡ []
      by [] none = refl
      by (c ∷ l) none = absurd (omega (arith, none))
