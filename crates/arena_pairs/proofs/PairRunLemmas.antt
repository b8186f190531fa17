-- Runs of calls on two arenas.
use Rattle.std.proofs.Common.{◌≡◌, List, [], ◌∷◌, ◌++◌, length, refl, sym, ap, ◌∙◌, subst, arith, append_assoc, append-nil}
use Rattle.arena_core.specs.PointerKinds.{PointerKind}
use Rattle.arena_pairs.specs.PairSteps.{LinksPair, PairStep, PairRun}
use Rattle.arena_pairs.specs.declared.calls.PairCall.{PairCall}
use Rattle.arena_pairs.specs.declared.calls.PairReply.{PairReply}

module _ {P T I Gen W : Type 0} (pointers : PointerKind P I Gen W) where
  run_more : (old between new : LinksPair Gen T) (calls : List (PairCall P T I Gen W)) (replies : List (PairReply P T I Gen W)) (call : PairCall P T I Gen W) (reply : PairReply P T I Gen W)
      → PairRun pointers old calls replies between → PairStep pointers between call reply new
      → PairRun pointers old (calls ++ call ∷ []) (replies ++ reply ∷ []) new
  run_more old between new [] [] call reply run step = (new, subst (λ a. PairStep pointers a call reply new) run step, refl)
  run_more old between new [] (r ∷ replies) call reply run step = absurd run
  run_more old between new (c ∷ calls) [] call reply run step = absurd run
  run_more old between new (c ∷ calls) (r ∷ replies) call reply run step = (run.0, run.1, run_more run.0 between new calls replies call reply run.2 step)

  -- The calls made so far, with their replies, and the remaining ones.
  pub record IsPairUnderWay (old now : LinksPair Gen T) (all left : List (PairCall P T I Gen W)) (replies : List (PairReply P T I Gen W)) : Type 0 where
    pub made : List (PairCall P T I Gen W)
    pub calls : all ≡ made ++ left
    pub run : PairRun pointers old made replies now

  pub pair_under_way_first : (old : LinksPair Gen T) (all left : List (PairCall P T I Gen W)) (replies : List (PairReply P T I Gen W)) → left ≡ all → replies ≡ [] → IsPairUnderWay old old all left replies
  pair_under_way_first old all left replies same none = record { made = []; calls = sym same; run = subst (λ r. PairRun pointers old [] r old) (sym none) refl }

  pub pair_under_way_more : (old between new : LinksPair Gen T) (all left rest : List (PairCall P T I Gen W)) (replies more : List (PairReply P T I Gen W)) (call : PairCall P T I Gen W) (reply : PairReply P T I Gen W)
      → IsPairUnderWay old between all left replies → left ≡ call ∷ rest → PairStep pointers between call reply new → more ≡ replies ++ reply ∷ [] → IsPairUnderWay old new all rest more
  pair_under_way_more old between new all left rest replies more call reply under_way next step is = record {
    made = under_way.made ++ call ∷ [];
    calls = under_way.calls ∙ (ap (λ l. under_way.made ++ l) next ∙ sym (append_assoc under_way.made (call ∷ []) rest));
    run = subst (λ r. PairRun pointers old (under_way.made ++ call ∷ []) r new) (sym is) (run_more old between new under_way.made replies call reply under_way.run step);
  }

  pub pair_under_way_last : (old new : LinksPair Gen T) (all left : List (PairCall P T I Gen W)) (replies : List (PairReply P T I Gen W)) → IsPairUnderWay old new all left replies → length left ≡ 0 → PairRun pointers old all replies new
  pair_under_way_last old new all left replies under_way none =
      subst (λ l. PairRun pointers old l replies new) (sym (under_way.calls ∙ (ap (λ l. under_way.made ++ l) (by left none) ∙ append-nil under_way.made))) under_way.run
    where
      by : (l : List (PairCall P T I Gen W)) → length l ≡ 0 → l ≡ []
      by [] none = refl
      by (c ∷ l) none = absurd (omega (arith, none))
