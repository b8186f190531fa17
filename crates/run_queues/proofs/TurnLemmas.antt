-- Fairness of turns in one queue.
use Rattle.std.proofs.Common.{◌≡◌, ◌⊎◌, inl, inr, ⊎_elim, List, [], ◌∷◌, ◌++◌, refl, sym, ap, ◌∙◌, subst, append_assoc}
use Rattle.run_queues.specs.Turns.{Step, turn, come, leave, IsAmong, IsStep, IsRun, HasTurn, Leaves, IsAhead, TasksStayAhead, TurnsAreFair}

module _ {K : Type 0} where
  pub among-left : (xs ys : List K) (y : K) → IsAmong xs y → IsAmong (xs ++ ys) y
  among-left [] ys y h = absurd h
  among-left (x ∷ xs) ys y (inl is) = inl is
  among-left (x ∷ xs) ys y (inr h) = inr (among-left xs ys y h)

  pub among-right : (xs ys : List K) (y : K) → IsAmong ys y → IsAmong (xs ++ ys) y
  among-right [] ys y h = h
  among-right (x ∷ xs) ys y h = inr (among-right xs ys y h)

  pub among-parts : (xs ys : List K) (y : K) → IsAmong (xs ++ ys) y → IsAmong xs y ⊎ IsAmong ys y
  among-parts [] ys y h = inr h
  among-parts (x ∷ xs) ys y (inl is) = inl (inl is)
  among-parts (x ∷ xs) ys y (inr h) = ⊎_elim (λ l. inl (inr l)) (λ r. inr r) (among-parts xs ys y h)

  split_of : (xs ys p s : List K) (x : K) → xs ++ ys ≡ p ++ x ∷ s → ((t : List K) × (xs ≡ p ++ x ∷ t)) ⊎ ((q : List K) × (p ≡ xs ++ q) × (ys ≡ q ++ x ∷ s))
  split_of [] ys p s x same = inr (p, refl, same)
  split_of (a ∷ xs) ys [] s x same = let first : a ≡ x = cc in inl (xs, ap (λ (b : K). b ∷ xs) first)
  split_of (a ∷ xs) ys (b ∷ p) s x same =
      let first : a ≡ b = cc in
      let rest : xs ++ ys ≡ p ++ x ∷ s = cc in
      ⊎_elim
      (λ left. inl (left.0, ap (λ (c : K). c ∷ xs) first ∙ ap (λ (l : List K). b ∷ l) left.1))
      (λ right. inr (right.0, ap (λ (c : K). c ∷ p) (sym first) ∙ ap (λ (l : List K). a ∷ l) right.1, right.2))
      (split_of xs ys p s x rest)

  only : (e x : K) (q s : List K) → e ∷ [] ≡ q ++ x ∷ s → e ≡ x
  only e x [] s same = cc
  only e x (c ∷ []) s same = absurd (cc)
  only e x (c ∷ d ∷ q) s same = absurd (cc)

  module _ (x y : K) where
    by_turn : (e : K) (old new : List K) → IsStep (turn e) old new → IsAhead y x old → (e ≡ y → ⊥) → IsAhead y x new
    by_turn e old new is ahead other =
        let rest = is.0 in
        let not_x = λ (same : e ≡ x). ahead.before [] rest (is.1 ∙ ap (λ (k : K). k ∷ rest) same) in
        record {
          here = subst (λ (l : List K). IsAmong l y) (sym is.2) (among-left rest (e ∷ []) y (⊎_elim (λ same. absurd (other same)) (λ h. h) (subst (λ (l : List K). IsAmong l y) is.1 ahead.here)));
          before = λ p s written. ⊎_elim
              (λ left. ⊎_elim (λ same. absurd (other same)) (λ h. h) (ahead.before (e ∷ p) left.0 (is.1 ∙ ap (λ (l : List K). e ∷ l) left.1)))
              (λ right. absurd (not_x (only e x right.0 s right.2)))
              (split_of rest (e ∷ []) p s x (sym is.2 ∙ written));
        }

    by_come : (xs old new : List K) → IsStep (come xs) old new → IsAhead y x old → IsAhead y x new
    by_come xs old new is ahead = record {
      here = subst (λ (l : List K). IsAmong l y) (sym is) (among-left old xs y ahead.here);
      before = λ p s written. ⊎_elim
          (λ left. ahead.before p left.0 left.1)
          (λ right. subst (λ (l : List K). IsAmong l y) (sym right.1) (among-left old right.0 y ahead.here))
          (split_of old xs p s x (sym is ∙ written));
    }

    without : (e : K) (before after : List K) → (e ≡ y → ⊥) → IsAmong (before ++ e ∷ after) y → IsAmong (before ++ after) y
    without e before after other h = ⊎_elim
        (λ left. among-left before after y left)
        (λ right. ⊎_elim (λ same. absurd (other same)) (λ later. among-right before after y later) right)
        (among-parts before (e ∷ after) y h)

    by_leave : (e : K) (old new : List K) → IsStep (leave e) old new → IsAhead y x old → (e ≡ y → ⊥) → IsAhead y x new
    by_leave e old new is ahead other =
        let b = is.0 in
        let a = is.1 in
        record {
          here = subst (λ (l : List K). IsAmong l y) (sym is.3) (without e b a other (subst (λ (l : List K). IsAmong l y) is.2 ahead.here));
          before = λ p s written. ⊎_elim
              (λ left. ahead.before p (left.0 ++ e ∷ a) (is.2 ∙ (ap (λ (l : List K). l ++ e ∷ a) left.1 ∙ append_assoc p (x ∷ left.0) (e ∷ a))))
              (λ right. subst (λ (l : List K). IsAmong l y) (sym right.1) (without e b right.0 other (ahead.before (b ++ e ∷ right.0) s (is.2 ∙ (ap (λ (l : List K). b ++ e ∷ l) right.2 ∙ sym (append_assoc b (e ∷ right.0) (x ∷ s)))))))
              (split_of b a p s x (sym is.3 ∙ written));
        }

    module _ (same_or_not : (a b : K) → (a ≡ b) ⊎ (a ≡ b → ⊥)) where
      by_step : (step : Step K) (old new : List K) → IsStep step old new → IsAhead y x old → (step ≡ turn y) ⊎ ((step ≡ leave y) ⊎ IsAhead y x new)
      by_step (turn e) old new is ahead = ⊎_elim (λ same. inl (ap turn same)) (λ other. inr (inr (by_turn e old new is ahead other))) (same_or_not e y)
      by_step (come xs) old new is ahead = inr (inr (by_come xs old new is ahead))
      by_step (leave e) old new is ahead = ⊎_elim (λ same. inr (inl (ap leave same))) (λ other. inr (inr (by_leave e old new is ahead other))) (same_or_not e y)

      by_run : (steps : List (Step K)) (old new : List K) → IsAhead y x old → IsRun steps old new → HasTurn steps y ⊎ (Leaves steps y ⊎ IsAhead y x new)
      by_run [] old new ahead run = inr (inr (subst (IsAhead y x) (sym run) ahead))
      by_run (step ∷ steps) old new ahead run = ⊎_elim
          (λ turns. inl (inl turns))
          (λ more. ⊎_elim
          (λ leaves. inr (inl (inl leaves)))
          (λ still. ⊎_elim (λ turns. inl (inr turns)) (λ later. ⊎_elim (λ leaves. inr (inl (inr leaves))) (λ end. inr (inr end)) later) (by_run steps run.0 new still run.2))
          more)
          (by_step step old run.0 run.1 ahead)

  run_parts : (first second : List (Step K)) (old new : List K) → IsRun (first ++ second) old new → (mid : List K) × IsRun first old mid × IsRun second mid new
  run_parts [] second old new run = (old, refl, run)
  run_parts (step ∷ first) second old new run = let rest = run_parts first second run.0 new run.2 in (rest.0, (run.0, run.1, rest.1), rest.2)

  module _ (same_or_not : (a b : K) → (a ≡ b) ⊎ (a ≡ b → ⊥)) where
    pub stay_ahead : TasksStayAhead K
    stay_ahead x y steps old new ahead run = by_run x y same_or_not steps old new ahead run

    pub turns_fair : TurnsAreFair K
    turns_fair x y others new steps run once among =
        let after = run.0 in
        let tail : run.1.0 ≡ others = let written = run.1.1 in cc in
        let last : after ≡ others ++ x ∷ [] = run.1.2 ∙ ap (λ (l : List K). l ++ x ∷ []) tail in
        let parts = run_parts steps (turn x ∷ []) after new run.2 in
        let ahead : IsAhead y x after = record {
          here = subst (λ (l : List K). IsAmong l y) (sym last) (among-left others (x ∷ []) y among);
          before = λ p s written. ⊎_elim
              (λ left. absurd (once (subst (λ (l : List K). IsAmong l x) (sym left.1) (among-right p (x ∷ left.0) x (inl refl)))))
              (λ right. subst (λ (l : List K). IsAmong l y) (sym right.1) (among-left others right.0 y among))
              (split_of others (x ∷ []) p s x (sym last ∙ written));
        } in
        ⊎_elim
        (λ turns. inl turns)
        (λ more. ⊎_elim (λ leaves. inr leaves) (λ still. absurd (still.before [] parts.2.1.0 parts.2.1.1)) more)
        (by_run x y same_or_not steps after parts.0 ahead parts.1)
